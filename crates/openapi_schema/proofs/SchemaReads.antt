-- A schema by its parts: what is read of them, and the access count of reading them.
use Rattle.std.proofs.Common.{◌≡◌, ℕ, List, Option, Some, None, option_map, Result, Ok, Err, IfOk, IfErr}
use Rattle.std.proofs.Common.{refl, sym, ap, ◌∙◌, rules}
use Rattle.std.specs.Global.{Box}
use Rattle.openapi_node.specs.Fault.{IsMemory}
use Rattle.openapi_node.specs.Tree.{flag, object, Members}
use Rattle.openapi_node.specs.declared.fault.Fault.{Fault}
use Rattle.openapi_tables.specs.Prelude.{join, a_schema, a_schema_kind, schema_data, final_tables, sort, Form}
use Rattle.openapi_tables.specs.Prelude.{leaf, fields, forms_of, AreRows}
use Rattle.openapi_fields.specs.Returned.{ReadAs, Reads}
use Rattle.openapi_fields.proofs.Below.{memory_fails}
use Rattle.openapi_values.specs.Reference.{reference_form}
use Rattle.openapi_values.specs.declared.reference.ReferenceOr.{ReferenceOr}
use Rattle.openapi_values.specs.declared.reference.ReferenceOr.TheVariants as r
use Rattle.openapi_schema.specs.KindNames.{kind_forms}
use Rattle.openapi_schema.specs.Kinds.{IsKind}
use Rattle.openapi_schema.specs.Present.{additional_level}
use Rattle.openapi_schema.specs.RawSlots.{optional_rows}
use Rattle.openapi_schema.specs.Reading.{KindReadAs, outer_box_form, schema_kind_form}
use Rattle.openapi_schema.specs.SchemaForms.{Sorted, additional_step, schema_kind_step, schema_type_step}
use Rattle.openapi_schema.specs.SchemaForms.{any_schema_step, array_type_step, object_type_step, schema_step}
use Rattle.openapi_schema.specs.SchemaForms.{schema_form, additional_form, schema_kind_rows, schema_data_rows}
use Rattle.openapi_schema.specs.declared.kind_names.KindNames.{KindNames}
use Rattle.openapi_schema.specs.declared.schema.AdditionalProperties.{the_lemmas}
use Rattle.openapi_schema.specs.declared.schema.AdditionalProperties.TheVariants as additional
use Rattle.openapi_schema.specs.declared.schema.AdditionalProperties.TheViews.{roll-AdditionalProperties}
use Rattle.openapi_schema.specs.declared.schema.AdditionalProperties.TheBlock.{the_data, the_data-1, the_data-2}
use Rattle.openapi_schema.specs.declared.schema.AdditionalProperties.TheBlock.{the_data-3, the_data-4, the_data-5}
use Rattle.openapi_schema.specs.declared.schema.AdditionalProperties.TheBlock.{the_data-6}
use Rattle.openapi_schema.specs.declared.schema.AdditionalProperties.TheFolds.{fold-roll-AdditionalProperties}
use Rattle.openapi_schema.specs.declared.schema.AdditionalProperties.TheFolds.{fold-roll-Schema}
use Rattle.openapi_schema.specs.declared.schema.AdditionalProperties.TheOpen.{AdditionalProperties-F, Schema-F}
use Rattle.openapi_schema.specs.declared.schema.Schema.{Schema, roll-Schema}
use Rattle.openapi_schema.specs.declared.schema.SchemaKind.{SchemaKind}
use Rattle.openapi_schema.proofs.KindGives.{kind_gives, schema_gives}
use denote.Hole.Carrier.{roll}

-- what is made from the values under the kind names is the kind of the schema
pub kind_read : (r : Result SchemaKind Fault) (a : KindNames) (ms : Members)
    → AreRows final_tables optional_rows (kind_forms a) ms → IfOk r (λ k. IsKind k a) → IfErr r IsMemory
    → KindReadAs r ms
kind_read (Ok k) a ms rows h g = (kind_forms a, rows, h ms rows)
kind_read (Err f) a ms rows h g = memory_fails f a_schema_kind (object ms) g

-- if no reference was read, there is none
pub none_referred : {X : Type 0} (f : X → List ℕ) (o : Option X) (r : Option (List ℕ)) → ((x : X) → o ≡ Some x → ⊥)
    → option_map f o ≡ r → r ≡ None
none_referred f None r h e = sym e
none_referred f (Some x) r h e = absurd (h x refl)

-- a kind by itself
pub kind_reads : (k : SchemaKind) (ms : Members) → KindReadAs (Ok k) ms → Reads schema_kind_form k a_schema_kind
    (object ms)
kind_reads k ms h =
    let g = kind_gives final_tables h.0 ms h.1 in
    (g.0, g.1 ∙ ap (λ (s : Sorted). fields (sort s.0) (forms_of s.1)) (sym h.2))

-- the kind that was read from some members, or the error, is what is read from their object
pub kind_given : (r : Result SchemaKind Fault) (ms : Members) → KindReadAs r ms
    → ReadAs schema_kind_form r a_schema_kind (object ms)
kind_given (Ok k) ms h = kind_reads k ms h
kind_given (Err f) ms h = h

-- the form of a schema holds the forms of the fields that every schema can have, and those of its kind
pub schema_form-roll : (d : Schema-F the_data the_data-1 the_data-2 the_data-3 the_data-4 the_data-5 the_data-6)
    → schema_form (roll-Schema d)
    ≡ fields (sort (schema_kind_rows d.schema_kind).0) (forms_of (join (schema_data_rows d.schema_data)
    (schema_kind_rows d.schema_kind).1))
schema_form-roll d =
    fold-roll-Schema Form Sorted Sorted (List Form) (List Form) (List Form) Form additional_step schema_kind_step
    schema_type_step any_schema_step array_type_step object_type_step schema_step d

-- a schema that is made of what was read of its parts is read of the object
pub schema_reads : (d : Schema-F the_data the_data-1 the_data-2 the_data-3 the_data-4 the_data-5 the_data-6)
    (ms : Members)
    → AreRows final_tables (final_tables schema_data) (schema_data_rows d.schema_data) ms
    → KindReadAs (Ok d.schema_kind) ms
    → Reads schema_form (roll-Schema d) a_schema (object ms)
schema_reads d ms rows h =
    let g = schema_gives final_tables (schema_data_rows d.schema_data) h.0 ms rows h.1 in (
      g.0,
      g.1 ∙ ap (λ (s : Sorted). fields (sort s.0) (forms_of (join (schema_data_rows d.schema_data) s.1))) (sym h.2)
          ∙ sym (schema_form-roll d),
    )

-- what other members may be
pub additional-any : (b : _) → additional_form (additional.Any b) ≡ leaf (flag b)
additional-any b = search (rules, the_lemmas)

additional_box : (b : Box (ReferenceOr Schema)) (x : ReferenceOr Schema)
    → additional_step (additional_level (AdditionalProperties-F.Schema (record b { value = x }))) ≡ reference_form schema_form x
additional_box b (r.Reference s) = refl
additional_box b (r.Item x) = refl

-- where other members are to be of a schema, the form is that of the schema or reference
pub additional-schema : (b : Box (ReferenceOr Schema)) → additional_form (additional.Schema b) ≡ outer_box_form b
unfolding roll-AdditionalProperties roll
additional-schema b =
    fold-roll-AdditionalProperties Form Sorted Sorted (List Form) (List Form) (List Form) Form additional_step
    schema_kind_step schema_type_step any_schema_step array_type_step object_type_step schema_step
    (AdditionalProperties-F.Schema b)
    ∙ additional_box b b.value
