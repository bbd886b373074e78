-- The forms of values that hold schemas, by the forms of their fields.
use Rattle.std.proofs.Common.{◌≡◌, List, ◌∷◌, ◌∙◌, sym, rules}
use Rattle.openapi_tables.specs.Prelude.{join, Form, absent, fields, forms_of, sort, string_sort, number_sort}
use Rattle.openapi_tables.specs.Prelude.{integer_sort, boolean_sort, object_sort, array_sort}
use Rattle.openapi_schema.specs.Fields.{object_fields, array_fields, any_fields}
use Rattle.openapi_schema.specs.SchemaForms.{Sorted, additional_step, schema_kind_step, schema_type_step}
use Rattle.openapi_schema.specs.SchemaForms.{any_schema_step, array_type_step, object_type_step, schema_step}
use Rattle.openapi_schema.specs.SchemaForms.{schema_form, schema_kind_rows, schema_type_rows, object_type_rows}
use Rattle.openapi_schema.specs.SchemaForms.{array_type_rows, any_schema_rows, schema_data_rows, string_type_rows}
use Rattle.openapi_schema.specs.SchemaForms.{number_type_rows, integer_type_rows, boolean_type_rows}
use Rattle.openapi_schema.specs.declared.any_schema.AnySchema.{AnySchema, out-AnySchema}
use Rattle.openapi_schema.specs.declared.composite_types.ArrayType.{ArrayType, out-ArrayType}
use Rattle.openapi_schema.specs.declared.composite_types.ObjectType.{ObjectType, out-ObjectType}
use Rattle.openapi_schema_types.specs.declared.schema_data.SchemaData.{SchemaData}
use Rattle.openapi_schema_types.specs.declared.boolean_type.BooleanType.{BooleanType}
use Rattle.openapi_schema_types.specs.declared.integer_type.IntegerType.{IntegerType}
use Rattle.openapi_schema_types.specs.declared.number_type.NumberType.{NumberType}
use Rattle.openapi_schema_types.specs.declared.string_type.StringType.{StringType}
use Rattle.openapi_schema.specs.declared.schema.AdditionalProperties.{the_lemmas}
use Rattle.openapi_schema.specs.declared.schema.AdditionalProperties.TheFolds.{fold_out-AnySchema, fold_out-ArrayType}
use Rattle.openapi_schema.specs.declared.schema.AdditionalProperties.TheFolds.{fold_out-ObjectType, fold_out-Schema}
use Rattle.openapi_schema.specs.declared.schema.AdditionalProperties.TheFolds.{fold-roll-Schema}
use Rattle.openapi_schema.specs.declared.schema.Schema.{Schema, out-Schema, roll-Schema}
use Rattle.openapi_schema.specs.declared.schema.SchemaKind.{SchemaKind}
use Rattle.openapi_schema.specs.declared.schema.SchemaKind.TheVariants as kind
use Rattle.openapi_schema.specs.declared.schema.SchemaType.TheVariants as typ
use Rattle.openapi_schema.proofs.AnyForms.{any_rows-level}
use Rattle.openapi_schema.proofs.KindForms.{array_rows-level, object_rows-level}

-- the type of a text: its sort, an absent slot for `type`, and the forms of its fields
pub string_rows-type : (x : StringType) → schema_type_rows (typ.String x) ≡ (string_sort, absent ∷ string_type_rows x)
string_rows-type x = search (rules, the_lemmas)

-- the type of a number: its sort, an absent slot for `type`, and the forms of its fields
pub number_rows-type : (x : NumberType) → schema_type_rows (typ.Number x) ≡ (number_sort, absent ∷ number_type_rows x)
number_rows-type x = search (rules, the_lemmas)

-- the type of a whole number: its sort, an absent slot for `type`, and the forms of its fields
pub integer_rows-type : (x : IntegerType)
    → schema_type_rows (typ.Integer x) ≡ (integer_sort, absent ∷ integer_type_rows x)
integer_rows-type x = search (rules, the_lemmas)

-- the type of a flag: its sort, an absent slot for `type`, and the form of its field
pub boolean_rows-type : (x : BooleanType)
    → schema_type_rows (typ.Boolean x) ≡ (boolean_sort, absent ∷ boolean_type_rows x)
boolean_rows-type x = search (rules, the_lemmas)

-- the type of an object: its sort, an absent slot for `type`, and the forms of its fields
pub object_rows-type : (x : ObjectType) → schema_type_rows (typ.Object x) ≡ (object_sort, absent ∷ object_type_rows x)
object_rows-type x = search (rules, the_lemmas)

-- the type of an array: its sort, an absent slot for `type`, and the forms of its fields
pub array_rows-type : (x : ArrayType) → schema_type_rows (typ.Array x) ≡ (array_sort, absent ∷ array_type_rows x)
array_rows-type x = search (rules, the_lemmas)

-- the forms that the fold gives for an object are those of its fields
pub object_rows-out : (x : ObjectType) → object_type_rows x ≡ object_fields x
object_rows-out x =
    fold_out-ObjectType Form Sorted Sorted (List Form) (List Form) (List Form) Form additional_step schema_kind_step
    schema_type_step any_schema_step array_type_step object_type_step schema_step x
    ∙ object_rows-level (out-ObjectType x)

-- the forms that the fold gives for an array are those of its fields
pub array_rows-out : (x : ArrayType) → array_type_rows x ≡ array_fields x
array_rows-out x =
    fold_out-ArrayType Form Sorted Sorted (List Form) (List Form) (List Form) Form additional_step schema_kind_step
    schema_type_step any_schema_step array_type_step object_type_step schema_step x
    ∙ array_rows-level (out-ArrayType x)

-- the forms that the fold gives for a schema of no sort in particular are those of its fields
pub any_rows-out : (x : AnySchema) → any_schema_rows x ≡ any_fields x
any_rows-out x =
    fold_out-AnySchema Form Sorted Sorted (List Form) (List Form) (List Form) Form additional_step schema_kind_step
    schema_type_step any_schema_step array_type_step object_type_step schema_step x
    ∙ any_rows-level (out-AnySchema x)

-- the form of a schema holds the forms of the fields that every schema can have, and those of its kind
pub schema_form-out : (x : Schema) → schema_form x
    ≡ fields (sort (schema_kind_rows (out-Schema x).schema_kind).0)
    (forms_of (join (schema_data_rows (out-Schema x).schema_data) (schema_kind_rows (out-Schema x).schema_kind).1))
schema_form-out x =
    fold_out-Schema Form Sorted Sorted (List Form) (List Form) (List Form) Form additional_step schema_kind_step
    schema_type_step any_schema_step array_type_step object_type_step schema_step x

-- a schema of parts that have the forms of another's has its form
pub schema-same : (x : Schema) (d : SchemaData) (k : SchemaKind)
    → schema_data_rows d ≡ schema_data_rows (out-Schema x).schema_data
    → schema_kind_rows k ≡ schema_kind_rows (out-Schema x).schema_kind
    → schema_form (roll-Schema (record { schema_data = d; schema_kind = k })) ≡ schema_form x
schema-same x d k same_data same_kind =
    fold-roll-Schema Form Sorted Sorted (List Form) (List Form) (List Form) Form additional_step schema_kind_step
    schema_type_step any_schema_step array_type_step object_type_step schema_step
    (record { schema_data = d; schema_kind = k })
    ∙ (λ i. fields (sort (same_kind i).0) (forms_of (join (same_data i) (same_kind i).1)))
    ∙ sym (schema_form-out x)
