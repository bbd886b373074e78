-- What the readers of schemas return, compared with what the field tables require.
use Rattle.std.specs.Prelude.{◌≡◌, List, Result, Ok, Err}
use Rattle.std.specs.Global.{Box}
use Rattle.openapi_node.specs.Tree.{object, Members}
use Rattle.openapi_node.specs.declared.fault.Fault.{Fault}
use Rattle.openapi_tables.specs.Kind.{a_schema_kind}
use Rattle.openapi_tables.specs.Tables.{final_tables}
use Rattle.openapi_tables.specs.Tree.{members_list}
use Rattle.openapi_tables.specs.Members.{sort, sort_of}
use Rattle.openapi_tables.specs.Form.{Form, fields, forms_of}
use Rattle.openapi_tables.specs.ByRow.{AreRows}
use Rattle.openapi_fields.specs.Returned.{Fails}
use Rattle.openapi_values.specs.Reference.{reference_form}
use Rattle.openapi_values.specs.declared.reference.ReferenceOr.{ReferenceOr}
use Rattle.openapi_schema.specs.RawSlots.{optional_rows, sort_slots}
use Rattle.openapi_schema.specs.SchemaForms.{schema_form, schema_kind_rows}
use Rattle.openapi_schema.specs.declared.schema.Schema.{Schema}
use Rattle.openapi_schema.specs.declared.schema.SchemaKind.{SchemaKind}

-- the form of a schema or a reference to one: without a box, with a box around the schema, and with a box around both
abbrev pub ref_form : ReferenceOr Schema → Form
ref_form = reference_form schema_form

abbrev pub inner_box_form : ReferenceOr (Box Schema) → Form
inner_box_form = reference_form (λ b. schema_form b.value)

abbrev pub outer_box_form : Box (ReferenceOr Schema) → Form
outer_box_form b = reference_form schema_form b.value

-- the form of the kind of a schema alone
abbrev pub schema_kind_form : SchemaKind → Form
schema_kind_form k = let s = schema_kind_rows k in fields (sort s.0) (forms_of s.1)

-- what a reader of kinds returns: a kind that has the sort of the members and the forms of that sort; or an error of
-- reading the members as the kind of a schema
abbrev pub KindReadAs : Result SchemaKind Fault → Members → Type 0
KindReadAs (Ok k) ms =
    (fs : List Form) × AreRows final_tables optional_rows fs ms
    × (schema_kind_rows k ≡ (sort_of (members_list ms), sort_slots (sort_of (members_list ms)) fs))
KindReadAs (Err f) ms = Fails f a_schema_kind (object ms)
