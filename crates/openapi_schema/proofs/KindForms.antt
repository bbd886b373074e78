-- The forms of values that hold schemas, by the forms of what they hold.
use Rattle.std.proofs.Common.{◌≡◌, List, [], ◌∷◌, Option, Some, None, refl, ap, ◌∙◌, rules, string_bytes}
use Rattle.std.specs.Global.{Box}
use Rattle.openapi_map.specs.Entries.{Entries}
use Rattle.openapi_tables.specs.Prelude.{Form, absent, reference, an_item, named, named_of, name, pairs_of, string_sort}
use Rattle.openapi_tables.specs.Prelude.{number_sort, integer_sort, boolean_sort, object_sort, array_sort, any_sort}
use Rattle.openapi_fields.specs.Forms.{text_form, optional_form, map_form}
use Rattle.openapi_values.specs.Reference.{reference_form}
use Rattle.openapi_values.specs.declared.reference.ReferenceOr.{ReferenceOr}
use Rattle.openapi_values.specs.declared.reference.ReferenceOr.TheVariants as r
use Rattle.openapi_schema.specs.declared.schema.Schema.{Schema}
use Rattle.openapi_schema.specs.SchemaForms.{Sorted, inner, additional_step, schema_kind_step, schema_type_step}
use Rattle.openapi_schema.specs.SchemaForms.{any_schema_step, array_type_step, object_type_step, schema_step}
use Rattle.openapi_schema.specs.SchemaForms.{schema_form, additional_form, schema_kind_rows, schema_type_rows}
use Rattle.openapi_schema.specs.SchemaForms.{object_type_rows, array_type_rows, any_schema_rows, string_type_rows}
use Rattle.openapi_schema.specs.SchemaForms.{number_type_rows, integer_type_rows, boolean_type_rows, flag_form}
use Rattle.openapi_schema.specs.SchemaForms.{size_form, list_form}
use Rattle.openapi_schema_types.specs.declared.string_type.StringType.{StringType}
use Rattle.openapi_schema_types.specs.declared.number_type.NumberType.{NumberType}
use Rattle.openapi_schema_types.specs.declared.integer_type.IntegerType.{IntegerType}
use Rattle.openapi_schema_types.specs.declared.boolean_type.BooleanType.{BooleanType}
use Rattle.openapi_schema.specs.declared.any_schema.AnySchema.{AnySchema}
use Rattle.openapi_schema.specs.declared.composite_types.ObjectType.{ObjectType, roll-ObjectType}
use Rattle.openapi_schema.specs.declared.composite_types.ArrayType.{ArrayType, roll-ArrayType}
use Rattle.openapi_schema.specs.declared.schema.AdditionalProperties.{AdditionalProperties, the_lemmas}
use Rattle.openapi_schema.specs.declared.schema.AdditionalProperties.TheBlock.{the_data, the_data-1, the_data-2}
use Rattle.openapi_schema.specs.declared.schema.AdditionalProperties.TheBlock.{the_data-3, the_data-4, the_data-5}
use Rattle.openapi_schema.specs.declared.schema.AdditionalProperties.TheBlock.{the_data-6}
use Rattle.openapi_schema.specs.declared.schema.AdditionalProperties.TheFolds.{fold-roll-ObjectType, map-ObjectType}
use Rattle.openapi_schema.specs.declared.schema.AdditionalProperties.TheFolds.{fold-roll-ArrayType, map-ArrayType}
use Rattle.openapi_schema.specs.declared.schema.AdditionalProperties.TheOpen.{ObjectType-F, ArrayType-F}
use Rattle.openapi_schema.specs.declared.schema.SchemaKind.TheVariants as kind
use Rattle.openapi_schema.specs.declared.schema.SchemaType.TheVariants as typ

-- a typed kind has the sort of its type, and no form of the type itself
pub string_rows-kind : (x : StringType) → schema_kind_rows (kind.Typed (typ.String x)) ≡ (
  string_sort,
  absent
      ∷ string_type_rows x,
)
string_rows-kind x = search (rules, the_lemmas)

-- the kind of a number: its sort, an absent slot for `type`, and the forms of its fields
pub number_rows-kind : (x : NumberType) → schema_kind_rows (kind.Typed (typ.Number x)) ≡ (
  number_sort,
  absent
      ∷ number_type_rows x,
)
number_rows-kind x = search (rules, the_lemmas)

-- the kind of a whole number: its sort, an absent slot for `type`, and the forms of its fields
pub integer_rows-kind : (x : IntegerType) → schema_kind_rows (kind.Typed (typ.Integer x)) ≡ (
  integer_sort,
  absent
      ∷ integer_type_rows x,
)
integer_rows-kind x = search (rules, the_lemmas)

-- the kind of a flag: its sort, an absent slot for `type`, and the form of its field
pub boolean_rows-kind : (x : BooleanType) → schema_kind_rows (kind.Typed (typ.Boolean x)) ≡ (
  boolean_sort,
  absent
      ∷ boolean_type_rows x,
)
boolean_rows-kind x = search (rules, the_lemmas)

-- the kind of an object: its sort, an absent slot for `type`, and the forms of its fields
pub object_rows-kind : (x : ObjectType) → schema_kind_rows (kind.Typed (typ.Object x)) ≡ (
  object_sort,
  absent
      ∷ object_type_rows x,
)
object_rows-kind x = search (rules, the_lemmas)

-- the kind of an array: its sort, an absent slot for `type`, and the forms of its fields
pub array_rows-kind : (x : ArrayType) → schema_kind_rows (kind.Typed (typ.Array x)) ≡ (
  array_sort,
  absent
      ∷ array_type_rows x,
)
array_rows-kind x = search (rules, the_lemmas)

-- a kind of no sort in particular: the sort `any_sort`, and the forms of its fields
pub any_rows-kind : (x : AnySchema) → schema_kind_rows (kind.Any x) ≡ (any_sort, any_schema_rows x)
any_rows-kind x = search (rules, the_lemmas)

-- one level of an object, and the same with the values inside replaced with their forms
abbrev pub Object : Type 0
Object = ObjectType-F the_data the_data-1 the_data-2 the_data-3 the_data-4 the_data-5 the_data-6

abbrev object_level : Object → ObjectType-F Form Sorted Sorted (List Form) (List Form) (List Form) Form
object_level d = map-ObjectType the_data the_data-1 the_data-2 the_data-3 the_data-4 the_data-5 the_data-6 Form
    Sorted Sorted (List Form)
    (List Form) (List Form) Form additional_form schema_kind_rows schema_type_rows any_schema_rows array_type_rows
    object_type_rows
    schema_form d

object_properties : (d : Object) (es : Entries (ReferenceOr (Box Schema)))
    → pairs_of (reference_form (λ b. b.value)) (object_level (record d { properties = es })).properties
    ≡ pairs_of (reference_form (λ b. schema_form b.value)) es
object_properties d [] = refl
object_properties d ((n, r.Reference s) ∷ es) = ap (λ l. record {
  key = name n;
  value = reference
      (string_bytes s);
} ∷ l) (object_properties d es)
object_properties d ((n, r.Item b) ∷ es) = ap (λ l. record { key = name n; value = an_item (schema_form b.value) }
    ∷ l) (object_properties d es)

object_additional : (d : Object) (o : Option AdditionalProperties)
    → optional_form inner (object_level (record d { additional_properties = o })).additional_properties
    ≡ optional_form additional_form o
object_additional d None = refl
object_additional d (Some a) = refl

-- one level of an object, with the values inside replaced with their forms, gives the forms of its fields
pub object_rows-level : (d : Object) → object_type_step (object_level d)
    ≡ map_form (reference_form (λ b. schema_form b.value)) d.properties
    ∷ list_form text_form d.required
    ∷ optional_form additional_form d.additional_properties
    ∷ optional_form size_form d.min_properties
    ∷ optional_form size_form d.max_properties
    ∷ []
object_rows-level d =
    (λ i. named (named_of (object_properties d d.properties i)) ∷ list_form text_form d.required
    ∷ object_additional d d.additional_properties i ∷ optional_form size_form d.min_properties
    ∷ optional_form size_form d.max_properties ∷ [])

-- an object that is made of such a level has these forms for its fields
pub object_rows-roll : (d : Object) → object_type_rows (roll-ObjectType d)
    ≡ map_form (reference_form (λ b. schema_form b.value)) d.properties
    ∷ list_form text_form d.required
    ∷ optional_form additional_form d.additional_properties
    ∷ optional_form size_form d.min_properties
    ∷ optional_form size_form d.max_properties
    ∷ []
object_rows-roll d =
    fold-roll-ObjectType Form Sorted Sorted (List Form) (List Form) (List Form) Form additional_step schema_kind_step
    schema_type_step any_schema_step array_type_step object_type_step schema_step d
    ∙ object_rows-level d

-- the same for an array
abbrev pub Array : Type 0
Array = ArrayType-F the_data the_data-1 the_data-2 the_data-3 the_data-4 the_data-5 the_data-6

abbrev array_level : Array → ArrayType-F Form Sorted Sorted (List Form) (List Form) (List Form) Form
array_level d = map-ArrayType the_data the_data-1 the_data-2 the_data-3 the_data-4 the_data-5 the_data-6 Form Sorted
    Sorted (List Form)
    (List Form) (List Form) Form additional_form schema_kind_rows schema_type_rows any_schema_rows array_type_rows
    object_type_rows
    schema_form d

array_items : (d : Array) (o : Option (ReferenceOr (Box Schema))) → optional_form (reference_form (λ b. b.value))
    (array_level (record d { items = o })).items
    ≡ optional_form (reference_form (λ b. schema_form b.value)) o
array_items d (Some (r.Reference s)) = refl
array_items d o = refl

-- one level of an array, with the values inside replaced with their forms, gives the forms of its fields
pub array_rows-level : (d : Array) → array_type_step (array_level d)
    ≡ optional_form (reference_form (λ b. schema_form b.value)) d.items
    ∷ optional_form size_form d.min_items
    ∷ optional_form size_form d.max_items
    ∷ flag_form d.unique_items
    ∷ []
array_rows-level d =
    (λ i. array_items d d.items i ∷ optional_form size_form d.min_items ∷ optional_form size_form d.max_items
    ∷ flag_form d.unique_items ∷ [])

-- an array that is made of such a level has these forms for its fields
pub array_rows-roll : (d : Array) → array_type_rows (roll-ArrayType d)
    ≡ optional_form (reference_form (λ b. schema_form b.value)) d.items
    ∷ optional_form size_form d.min_items
    ∷ optional_form size_form d.max_items
    ∷ flag_form d.unique_items
    ∷ []
array_rows-roll d =
    fold-roll-ArrayType Form Sorted Sorted (List Form) (List Form) (List Form) Form additional_step schema_kind_step
    schema_type_step any_schema_step array_type_step object_type_step schema_step d
    ∙ array_rows-level d
