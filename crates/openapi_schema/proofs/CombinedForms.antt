-- The forms of the kinds that only combine schemas, by the forms of these.
use Rattle.std.proofs.Common.{◌≡◌, List, [], ◌∷◌, refl, ap, ◌∙◌}
use Rattle.std.specs.Global.{Box, Vec}
use Rattle.openapi_tables.specs.Prelude.{Form, sequence, forms_of, one_of_sort, all_of_sort, any_of_sort, not_sort}
use Rattle.openapi_values.specs.Reference.{reference_form}
use Rattle.openapi_values.specs.declared.reference.ReferenceOr.{ReferenceOr}
use Rattle.openapi_values.specs.declared.reference.ReferenceOr.TheVariants as r
use Rattle.openapi_schema.specs.SchemaForms.{Sorted, inner, additional_step, schema_kind_step, schema_type_step}
use Rattle.openapi_schema.specs.SchemaForms.{any_schema_step, array_type_step, object_type_step, schema_step}
use Rattle.openapi_schema.specs.SchemaForms.{schema_form, additional_form, schema_kind_rows, schema_type_rows}
use Rattle.openapi_schema.specs.SchemaForms.{object_type_rows, array_type_rows, any_schema_rows, list_form}
use Rattle.openapi_schema.specs.declared.schema.Schema.{Schema}
use Rattle.openapi_schema.specs.declared.schema.SchemaKind.TheVariants as kind
use Rattle.openapi_schema.specs.declared.schema.AdditionalProperties.TheViews.{roll-SchemaKind}
use denote.Hole.Carrier.{roll}
use Rattle.openapi_schema.specs.declared.schema.AdditionalProperties.TheBlock.{the_data, the_data-1, the_data-2}
use Rattle.openapi_schema.specs.declared.schema.AdditionalProperties.TheBlock.{the_data-3, the_data-4, the_data-5}
use Rattle.openapi_schema.specs.declared.schema.AdditionalProperties.TheBlock.{the_data-6}
use Rattle.openapi_schema.specs.declared.schema.AdditionalProperties.TheFolds.{fold-roll-SchemaKind, map-SchemaKind}
use Rattle.openapi_schema.specs.declared.schema.AdditionalProperties.TheOpen.{SchemaKind-F}
use Rattle.openapi_schema.proofs.AnyForms.{each_map, by_cases}

-- one level of a kind
abbrev Kind : Type 0
Kind = SchemaKind-F the_data the_data-1 the_data-2 the_data-3 the_data-4 the_data-5 the_data-6

abbrev kind_level : Kind → SchemaKind-F Form Sorted Sorted (List Form) (List Form) (List Form) Form
kind_level d = map-SchemaKind the_data the_data-1 the_data-2 the_data-3 the_data-4 the_data-5 the_data-6 Form Sorted
    Sorted (List Form)
    (List Form) (List Form) Form additional_form schema_kind_rows schema_type_rows any_schema_rows array_type_rows
    object_type_rows
    schema_form d

-- the kind of a `oneOf`: its sort, and the list of its schemas as the one slot
pub one_of_rows-kind : (v : Vec (ReferenceOr Schema)) → schema_kind_rows (kind.OneOf v)
    ≡ (one_of_sort, list_form (reference_form schema_form) v ∷ [])
unfolding roll-SchemaKind roll
one_of_rows-kind v =
    fold-roll-SchemaKind Form Sorted Sorted (List Form) (List Form) (List Form) Form additional_step schema_kind_step
    schema_type_step any_schema_step array_type_step object_type_step schema_step (SchemaKind-F.OneOf v)
    ∙ ap (λ fs. (one_of_sort, sequence (forms_of fs) ∷ [])) (each_map _ (reference_form inner) (reference_form
    schema_form) (by_cases _ _ (λ s. refl) (λ y. refl)) v.items)

-- the kind of an `allOf`: its sort, and the list of its schemas as the one slot
pub all_of_rows-kind : (v : Vec (ReferenceOr Schema)) → schema_kind_rows (kind.AllOf v)
    ≡ (all_of_sort, list_form (reference_form schema_form) v ∷ [])
unfolding roll-SchemaKind roll
all_of_rows-kind v =
    fold-roll-SchemaKind Form Sorted Sorted (List Form) (List Form) (List Form) Form additional_step schema_kind_step
    schema_type_step any_schema_step array_type_step object_type_step schema_step (SchemaKind-F.AllOf v)
    ∙ ap (λ fs. (all_of_sort, sequence (forms_of fs) ∷ [])) (each_map _ (reference_form inner) (reference_form
    schema_form) (by_cases _ _ (λ s. refl) (λ y. refl)) v.items)

-- the kind of an `anyOf`: its sort, and the list of its schemas as the one slot
pub any_of_rows-kind : (v : Vec (ReferenceOr Schema)) → schema_kind_rows (kind.AnyOf v)
    ≡ (any_of_sort, list_form (reference_form schema_form) v ∷ [])
unfolding roll-SchemaKind roll
any_of_rows-kind v =
    fold-roll-SchemaKind Form Sorted Sorted (List Form) (List Form) (List Form) Form additional_step schema_kind_step
    schema_type_step any_schema_step array_type_step object_type_step schema_step (SchemaKind-F.AnyOf v)
    ∙ ap (λ fs. (any_of_sort, sequence (forms_of fs) ∷ [])) (each_map _ (reference_form inner) (reference_form
    schema_form) (by_cases _ _ (λ s. refl) (λ y. refl)) v.items)

not_box : (b : Box (ReferenceOr Schema)) (x : ReferenceOr Schema)
    → schema_kind_step (kind_level (SchemaKind-F.Not (record b { value = x })))
    ≡ (not_sort, reference_form schema_form x ∷ [])
not_box b (r.Reference s) = refl
not_box b (r.Item x) = refl

-- the kind of a `not`: its sort, and its schema as the one slot
pub not_rows-kind : (b : Box (ReferenceOr Schema)) → schema_kind_rows (kind.Not b)
    ≡ (not_sort, reference_form schema_form b.value ∷ [])
unfolding roll-SchemaKind roll
not_rows-kind b =
    fold-roll-SchemaKind Form Sorted Sorted (List Form) (List Form) (List Form) Form additional_step schema_kind_step
    schema_type_step any_schema_step array_type_step object_type_step schema_step (SchemaKind-F.Not b)
    ∙ not_box b b.value
