-- The forms of schemas: a fold over mutually recursive types.
use Rattle.std.specs.Prelude.{List, [], ◌∷◌}
use Rattle.openapi_tables.specs.Lists.{join}
use Rattle.openapi_tables.specs.Form.{Form, absent, leaf, fields, forms_of}
use Rattle.openapi_tables.specs.Members.{
  Sort,
  string_sort,
  number_sort,
  integer_sort,
  boolean_sort,
  object_sort,
  array_sort,
  one_of_sort,
  all_of_sort,
  any_of_sort,
  not_sort,
  any_sort,
  sort,
}
use Rattle.openapi_fields.specs.Forms.{text_form, optional_form, map_form}
-- names that other modules use through this module
pub use Rattle.openapi_fields.specs.Forms.{flag_form, number_form, size_form, list_form}
pub use Rattle.openapi_schema_types.specs.PartForms.{
  entry_form,
  schema_data_rows,
  string_type_rows,
  number_type_rows,
  integer_type_rows,
  boolean_type_rows,
}
use Rattle.openapi_values.specs.Reference.{reference_form}
use Rattle.openapi_schema.specs.declared.schema.AdditionalProperties.{AdditionalProperties}
use Rattle.openapi_schema.specs.declared.schema.SchemaKind.{SchemaKind}
use Rattle.openapi_schema.specs.declared.schema.SchemaType.{SchemaType}
use Rattle.openapi_schema.specs.declared.schema.Schema.{Schema}
use Rattle.openapi_schema.specs.declared.any_schema.AnySchema.{AnySchema}
use Rattle.openapi_schema.specs.declared.composite_types.ObjectType.{ObjectType}
use Rattle.openapi_schema.specs.declared.composite_types.ArrayType.{ArrayType}
use Rattle.openapi_schema.specs.declared.schema.AdditionalProperties.TheOpen.{
  AdditionalProperties-F,
  SchemaKind-F,
  SchemaType-F,
  AnySchema-F,
  ArrayType-F,
  ObjectType-F,
  Schema-F,
}
use Rattle.openapi_schema.specs.declared.schema.AdditionalProperties.TheFolds.{
  fold-AdditionalProperties,
  fold-SchemaKind,
  fold-SchemaType,
  fold-AnySchema,
  fold-ArrayType,
  fold-ObjectType,
  fold-Schema,
}

-- a sort with the forms of its fields
abbrev pub Sorted : Type 0
Sorted = Sort × List Form

-- the form of a value that is already replaced with its form
abbrev pub inner : Form → Form
inner f = f

-- the forms of one level of each type, given those of the values of these types inside
abbrev pub additional_step : AdditionalProperties-F Form Sorted Sorted (List Form) (List Form) (List Form) Form → Form
additional_step (AdditionalProperties-F.«AdditionalProperties::Any» b) = flag_form b
additional_step (AdditionalProperties-F.Schema r) = reference_form inner r.value

abbrev pub schema_kind_step : SchemaKind-F Form Sorted Sorted (List Form) (List Form) (List Form) Form → Sorted
schema_kind_step (SchemaKind-F.Typed y) = y
schema_kind_step (SchemaKind-F.OneOf v) = (one_of_sort, list_form (reference_form inner) v ∷ [])
schema_kind_step (SchemaKind-F.AllOf v) = (all_of_sort, list_form (reference_form inner) v ∷ [])
schema_kind_step (SchemaKind-F.AnyOf v) = (any_of_sort, list_form (reference_form inner) v ∷ [])
schema_kind_step (SchemaKind-F.Not r) = (not_sort, reference_form inner r.value ∷ [])
schema_kind_step (SchemaKind-F.«SchemaKind::Any» n) = (any_sort, n)

abbrev pub schema_type_step : SchemaType-F Form Sorted Sorted (List Form) (List Form) (List Form) Form → Sorted
schema_type_step (SchemaType-F.String x) = (string_sort, absent ∷ string_type_rows x)
schema_type_step (SchemaType-F.Number x) = (number_sort, absent ∷ number_type_rows x)
schema_type_step (SchemaType-F.Integer x) = (integer_sort, absent ∷ integer_type_rows x)
schema_type_step (SchemaType-F.Object rows) = (object_sort, absent ∷ rows)
schema_type_step (SchemaType-F.Array rows) = (array_sort, absent ∷ rows)
schema_type_step (SchemaType-F.Boolean x) = (boolean_sort, absent ∷ boolean_type_rows x)

abbrev pub any_schema_step : AnySchema-F Form Sorted Sorted (List Form) (List Form) (List Form) Form → List Form
any_schema_step x =
    optional_form text_form x.typ
    ∷ optional_form text_form x.pattern
    ∷ optional_form number_form x.multiple_of
    ∷ optional_form flag_form x.exclusive_minimum
    ∷ optional_form flag_form x.exclusive_maximum
    ∷ optional_form number_form x.minimum
    ∷ optional_form number_form x.maximum
    ∷ map_form (reference_form (λ b. b.value)) x.properties
    ∷ list_form text_form x.required
    ∷ optional_form inner x.additional_properties
    ∷ optional_form size_form x.min_properties
    ∷ optional_form size_form x.max_properties
    ∷ optional_form (reference_form (λ b. b.value)) x.items
    ∷ optional_form size_form x.min_items
    ∷ optional_form size_form x.max_items
    ∷ optional_form flag_form x.unique_items
    ∷ list_form leaf x.enumeration
    ∷ optional_form text_form x.format
    ∷ optional_form size_form x.min_length
    ∷ optional_form size_form x.max_length
    ∷ list_form (reference_form inner) x.one_of
    ∷ list_form (reference_form inner) x.all_of
    ∷ list_form (reference_form inner) x.any_of
    ∷ optional_form (λ b. reference_form inner b.value) x.not
    ∷ []

abbrev pub array_type_step : ArrayType-F Form Sorted Sorted (List Form) (List Form) (List Form) Form → List Form
array_type_step x =
    optional_form (reference_form (λ b. b.value)) x.items
    ∷ optional_form size_form x.min_items
    ∷ optional_form size_form x.max_items
    ∷ flag_form x.unique_items
    ∷ []

abbrev pub object_type_step : ObjectType-F Form Sorted Sorted (List Form) (List Form) (List Form) Form → List Form
object_type_step x =
    map_form (reference_form (λ b. b.value)) x.properties
    ∷ list_form text_form x.required
    ∷ optional_form inner x.additional_properties
    ∷ optional_form size_form x.min_properties
    ∷ optional_form size_form x.max_properties
    ∷ []

abbrev pub schema_step : Schema-F Form Sorted Sorted (List Form) (List Form) (List Form) Form → Form
schema_step x = fields (sort x.schema_kind.0) (forms_of (join (schema_data_rows x.schema_data) x.schema_kind.1))

-- the form of a schema and of additional properties, and the forms of the fields of the parts of a schema
abbrev pub schema_form : Schema → Form
schema_form = fold-Schema Form Sorted Sorted (List Form) (List Form) (List Form) Form additional_step schema_kind_step
    schema_type_step any_schema_step array_type_step object_type_step schema_step

abbrev pub additional_form : AdditionalProperties → Form
additional_form = fold-AdditionalProperties Form Sorted Sorted (List Form) (List Form) (List Form) Form additional_step
    schema_kind_step schema_type_step any_schema_step array_type_step object_type_step schema_step

abbrev pub schema_kind_rows : SchemaKind → Sorted
schema_kind_rows = fold-SchemaKind Form Sorted Sorted (List Form) (List Form) (List Form) Form additional_step
    schema_kind_step schema_type_step any_schema_step array_type_step object_type_step schema_step

abbrev pub schema_type_rows : SchemaType → Sorted
schema_type_rows = fold-SchemaType Form Sorted Sorted (List Form) (List Form) (List Form) Form additional_step
    schema_kind_step schema_type_step any_schema_step array_type_step object_type_step schema_step

abbrev pub any_schema_rows : AnySchema → List Form
any_schema_rows = fold-AnySchema Form Sorted Sorted (List Form) (List Form) (List Form) Form additional_step
    schema_kind_step schema_type_step any_schema_step array_type_step object_type_step schema_step

abbrev pub array_type_rows : ArrayType → List Form
array_type_rows = fold-ArrayType Form Sorted Sorted (List Form) (List Form) (List Form) Form additional_step
    schema_kind_step schema_type_step any_schema_step array_type_step object_type_step schema_step

abbrev pub object_type_rows : ObjectType → List Form
object_type_rows = fold-ObjectType Form Sorted Sorted (List Form) (List Form) (List Form) Form additional_step
    schema_kind_step schema_type_step any_schema_step array_type_step object_type_step schema_step
