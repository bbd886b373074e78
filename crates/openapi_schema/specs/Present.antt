-- The forms of values that contain schemas are not `absent`.
use Rattle.std.specs.Prelude.{◌≡◌, false, List}
use mathlib.Core.Path.{refl, sym, ap, subst}
use Rattle.openapi_tables.specs.Form.{Form}
use Rattle.openapi_tables.specs.Proper.{is_absent}
use Rattle.openapi_values.specs.Reference.{reference_form}
use Rattle.openapi_values.specs.declared.reference.ReferenceOr.{ReferenceOr}
use Rattle.openapi_values.specs.declared.reference.ReferenceOr.TheVariants as r
use Rattle.openapi_schema.specs.SchemaForms.{
  Sorted,
  additional_step,
  schema_kind_step,
  schema_type_step,
  any_schema_step,
  array_type_step,
  object_type_step,
  schema_step,
  additional_form,
  schema_form,
  schema_kind_rows,
  schema_type_rows,
  any_schema_rows,
  array_type_rows,
  object_type_rows,
}
use Rattle.openapi_schema.specs.declared.schema.AdditionalProperties.{AdditionalProperties}
use Rattle.openapi_schema.specs.declared.schema.AdditionalProperties.TheBlock.{
  the_data,
  the_data-1,
  the_data-2,
  the_data-3,
  the_data-4,
  the_data-5,
  the_data-6,
}
use Rattle.openapi_schema.specs.declared.schema.AdditionalProperties.TheFolds.{
  fold_out-AdditionalProperties,
  fold_out-Schema,
  map-AdditionalProperties,
}
use Rattle.openapi_schema.specs.declared.schema.AdditionalProperties.TheOpen.{AdditionalProperties-F}
use Rattle.openapi_schema.specs.declared.schema.AdditionalProperties.TheViews.{out-AdditionalProperties}
use Rattle.openapi_schema.specs.declared.schema.Schema.{Schema}

-- the form of a reference or an item is not `absent`
pub ref_there : {X : Type 0} (view : X → Form) (x : ReferenceOr X) → is_absent (reference_form view x) ≡ false
ref_there view (r.Reference s) = refl
ref_there view (r.Item x) = refl

-- one level of `AdditionalProperties`, with the values inside replaced with their forms
abbrev pub additional_level : AdditionalProperties-F the_data the_data-1 the_data-2 the_data-3 the_data-4 the_data-5 the_data-6
    → AdditionalProperties-F Form Sorted Sorted (List Form) (List Form) (List Form) Form
additional_level d = map-AdditionalProperties the_data the_data-1 the_data-2 the_data-3 the_data-4 the_data-5 the_data-6
    Form Sorted Sorted (List Form) (List Form) (List Form) Form additional_form schema_kind_rows schema_type_rows
    any_schema_rows array_type_rows object_type_rows schema_form d

step_there : (d : AdditionalProperties-F the_data the_data-1 the_data-2 the_data-3 the_data-4 the_data-5 the_data-6)
    → is_absent (additional_step (additional_level d)) ≡ false
step_there (AdditionalProperties-F.«AdditionalProperties::Any» b) = refl
step_there (AdditionalProperties-F.Schema b) = boxed b.value
  where
    boxed : (x : ReferenceOr Schema)
        → is_absent (additional_step (additional_level (AdditionalProperties-F.Schema (record b { value = x })))) ≡ false
    boxed (r.Reference s) = refl
    boxed (r.Item x) = refl

pub additional_there : (a : AdditionalProperties) → is_absent (additional_form a) ≡ false
additional_there a =
    subst (λ f. is_absent f ≡ false)
    (sym (fold_out-AdditionalProperties Form Sorted Sorted (List Form) (List Form) (List Form) Form additional_step
    schema_kind_step schema_type_step any_schema_step array_type_step object_type_step schema_step a))
    (step_there (out-AdditionalProperties a))

-- the form of a schema is not `absent`
pub schema_there : (x : Schema) → is_absent (schema_form x) ≡ false
schema_there x =
    ap is_absent (fold_out-Schema Form Sorted Sorted (List Form) (List Form) (List Form) Form additional_step
    schema_kind_step schema_type_step any_schema_step array_type_step object_type_step schema_step x)
