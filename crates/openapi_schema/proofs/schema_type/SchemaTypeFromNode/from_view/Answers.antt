use Rattle.std.proofs.Common.{◌≡◌, true, refl, arith, codes}
use Rattle.openapi_node.specs.Tree.{members_of}
use Rattle.openapi_node.specs.View.{shown}
use Rattle.openapi_node.specs.declared.fault.Expected.TheVariants as words
use Rattle.openapi_tables.specs.Kind as kinds
use Rattle.openapi_tables.specs.Members.{is_case}
use Rattle.openapi_tables.specs.Tables.{schema_type}
use Rattle.openapi_fields.proofs.Below.{wrong_view}
use Rattle.openapi_fields.proofs.Tagging.{tagged_read, tag_weight, not_tagged}
use Rattle.openapi_schema_types.specs.TypeNames.{type_words, type_name_word}
use Rattle.openapi_schema_types.specs.declared.type_name.TypeName.{TypeName}
use Rattle.openapi_schema_types.specs.declared.type_name.TypeName.TheVariants as names
use Rattle.openapi_schema.specs.TypeForms.{type_cases, schema_type_fields, schema_type_sound, schema_type_word}
use Rattle.openapi_schema.proofs.schema_type.SchemaTypeFromNode.from_view.Goals as goal

-- the word of a type is one of the cases
known : (n : TypeName) → is_case type_cases (type_name_word n) ≡ true
known names.String = refl
known n = refl

pub returns-in_default : goal.returns-in_default
returns-in_default c =
    wrong_view c.new.result words.Object schema_type (shown c.args.view.now) _ c.new.ensures.place
    c.new.ensures.cause (not_tagged (codes "type") type_cases c.args.view.now c.in_default.not-Object)

pub returns-in-Err-clause-count : goal.returns-in-Err-clause-count
returns-in-Err-clause-count c =
    rw c.in-Object.is ((
      omega (arith, c.tag.ensures.count.0),
      omega (
        arith,
        c.tag.ensures.count.1,
        tag_weight (codes "type") (kinds.one_of type_words) (members_of c.in-Object.members.now),
      ),
    ))

pub returns-in-Ok : goal.returns-in-Ok
returns-in-Ok c =
    let n = c.in-Ok.name in
    let read = tagged_read (codes "type") type_cases (type_name_word n) (members_of c.in-Object.members.now)
    c.in-Ok.ensures.reads (known n) schema_type_word schema_type_fields (kinds.one_of type_words) c.of_type.result
    schema_type_sound c.tag.ensures.count c.of_type.ensures in
    rw c.in-Object.is (record { reads = read.reads; count = read.count })
