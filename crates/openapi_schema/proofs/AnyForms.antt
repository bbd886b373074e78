-- The forms of schemas of no sort in particular, by the forms of what
-- they hold.
use Rattle.std.proofs.Common.{◌≡◌, List, [], ◌∷◌, Option, Some, None, refl, ap, ◌∙◌, map, string_bytes}
use Rattle.std.specs.Global.{Box}
use Rattle.openapi_map.specs.Entries.{Entries}
use Rattle.openapi_tables.specs.Prelude.{each, Form, leaf, reference, an_item, named, named_of, name, sequence}
use Rattle.openapi_tables.specs.Prelude.{forms_of, pairs_of}
use Rattle.openapi_fields.specs.Forms.{text_form, optional_form, map_form}
use Rattle.openapi_values.specs.Reference.{reference_form}
use Rattle.openapi_values.specs.declared.reference.ReferenceOr.{ReferenceOr}
use Rattle.openapi_values.specs.declared.reference.ReferenceOr.TheVariants as r
use Rattle.openapi_schema.specs.SchemaForms.{Sorted, inner, additional_step, schema_kind_step, schema_type_step}
use Rattle.openapi_schema.specs.SchemaForms.{any_schema_step, array_type_step, object_type_step, schema_step}
use Rattle.openapi_schema.specs.SchemaForms.{schema_form, additional_form, schema_kind_rows, schema_type_rows}
use Rattle.openapi_schema.specs.SchemaForms.{object_type_rows, array_type_rows, any_schema_rows, flag_form, number_form}
use Rattle.openapi_schema.specs.SchemaForms.{size_form, list_form}
use Rattle.openapi_schema.specs.declared.any_schema.AnySchema.{roll-AnySchema}
use Rattle.openapi_schema.specs.declared.schema.Schema.{Schema}
use Rattle.openapi_schema.specs.declared.schema.AdditionalProperties.{AdditionalProperties}
use Rattle.openapi_schema.specs.declared.schema.AdditionalProperties.TheBlock.{the_data, the_data-1, the_data-2}
use Rattle.openapi_schema.specs.declared.schema.AdditionalProperties.TheBlock.{the_data-3, the_data-4, the_data-5}
use Rattle.openapi_schema.specs.declared.schema.AdditionalProperties.TheBlock.{the_data-6}
use Rattle.openapi_schema.specs.declared.schema.AdditionalProperties.TheFolds.{fold-roll-AnySchema, map-AnySchema}
use Rattle.openapi_schema.specs.declared.schema.AdditionalProperties.TheOpen.{AnySchema-F}

-- one level of a schema of no sort in particular, and the same with the values inside replaced with their forms
abbrev pub Any : Type 0
Any = AnySchema-F the_data the_data-1 the_data-2 the_data-3 the_data-4 the_data-5 the_data-6

abbrev any_level : Any → AnySchema-F Form Sorted Sorted (List Form) (List Form) (List Form) Form
any_level d = map-AnySchema the_data the_data-1 the_data-2 the_data-3 the_data-4 the_data-5 the_data-6 Form Sorted
    Sorted (List Form)
    (List Form) (List Form) Form additional_form schema_kind_rows schema_type_rows any_schema_rows array_type_rows
    object_type_rows
    schema_form d

any_properties : (d : Any) (es : Entries (ReferenceOr (Box Schema))) → pairs_of (reference_form (λ b. b.value))
    (any_level (record d { properties = es })).properties
    ≡ pairs_of (reference_form (λ b. schema_form b.value)) es
any_properties d [] = refl
any_properties d ((n, r.Reference s) ∷ es) = ap (λ l. record { key = name n; value = reference (string_bytes s) }
    ∷ l) (any_properties d es)
any_properties d ((n, r.Item b) ∷ es) = ap (λ l. record { key = name n; value = an_item (schema_form b.value) }
    ∷ l) (any_properties d es)

any_additional : (d : Any) (o : Option AdditionalProperties)
    → optional_form inner (any_level (record d { additional_properties = o })).additional_properties
    ≡ optional_form additional_form o
any_additional d None = refl
any_additional d (Some a) = refl

any_items : (d : Any) (o : Option (ReferenceOr (Box Schema))) → optional_form (reference_form (λ b. b.value))
    (any_level (record d { items = o })).items
    ≡ optional_form (reference_form (λ b. schema_form b.value)) o
any_items d (Some (r.Reference s)) = refl
any_items d o = refl

-- if each element has its form once it is mapped too, a list that is mapped has the forms of the list
pub each_map : {X Y : Type 0} → (g : X → Y) (view : Y → Form) (kept : X → Form) → ((x : X) → view (g x) ≡ kept x)
    → (xs : List X)
    → each view (map g xs) ≡ each kept xs
each_map g view kept h [] = refl
each_map g view kept h (x ∷ xs) = λ i. h x i ∷ each_map g view kept h xs i

-- two functions from a reference or schema to forms agree if they agree on references and on schemas
pub by_cases : (p q : ReferenceOr Schema → Form) → ((s : _) → p (r.Reference s) ≡ q (r.Reference s)) → ((y : Schema)
    → p (r.Item y) ≡ q (r.Item y))
    → (x : ReferenceOr Schema) → p x ≡ q x
by_cases p q h k (r.Reference s) = h s
by_cases p q h k (r.Item y) = k y

any_one_of : (d : Any) → list_form (reference_form inner) (any_level d).one_of
    ≡ list_form (reference_form schema_form) d.one_of
any_one_of d =
    ap (λ fs. sequence (forms_of fs)) (each_map _ (reference_form inner) (reference_form schema_form)
    (by_cases _ _ (λ s. refl) (λ y. refl)) d.one_of.items)

any_all_of : (d : Any) → list_form (reference_form inner) (any_level d).all_of
    ≡ list_form (reference_form schema_form) d.all_of
any_all_of d =
    ap (λ fs. sequence (forms_of fs)) (each_map _ (reference_form inner) (reference_form schema_form)
    (by_cases _ _ (λ s. refl) (λ y. refl)) d.all_of.items)

any_any_of : (d : Any) → list_form (reference_form inner) (any_level d).any_of
    ≡ list_form (reference_form schema_form) d.any_of
any_any_of d =
    ap (λ fs. sequence (forms_of fs)) (each_map _ (reference_form inner) (reference_form schema_form)
    (by_cases _ _ (λ s. refl) (λ y. refl)) d.any_of.items)

any_not_box : (d : Any) (b : Box (ReferenceOr Schema)) (x : ReferenceOr Schema)
    → optional_form (λ b. reference_form inner b.value) (any_level (record d {
      not = Some
          (record b { value = x });
    })).not ≡ reference_form schema_form x
any_not_box d b (r.Reference s) = refl
any_not_box d b (r.Item x) = refl

any_not : (d : Any) (o : Option (Box (ReferenceOr Schema)))
    → optional_form (λ b. reference_form inner b.value) (any_level (record d { not = o })).not
    ≡ optional_form (λ b. reference_form schema_form b.value) o
any_not d None = refl
any_not d (Some b) = any_not_box d b b.value

-- the forms of its fields
abbrev pub listed_any : Any → List Form
listed_any d =
    optional_form text_form d.typ
    ∷ optional_form text_form d.pattern
    ∷ optional_form number_form d.multiple_of
    ∷ optional_form flag_form d.exclusive_minimum
    ∷ optional_form flag_form d.exclusive_maximum
    ∷ optional_form number_form d.minimum
    ∷ optional_form number_form d.maximum
    ∷ map_form (reference_form (λ b. schema_form b.value)) d.properties
    ∷ list_form text_form d.required
    ∷ optional_form additional_form d.additional_properties
    ∷ optional_form size_form d.min_properties
    ∷ optional_form size_form d.max_properties
    ∷ optional_form (reference_form (λ b. schema_form b.value)) d.items
    ∷ optional_form size_form d.min_items
    ∷ optional_form size_form d.max_items
    ∷ optional_form flag_form d.unique_items
    ∷ list_form leaf d.enumeration
    ∷ optional_form text_form d.format
    ∷ optional_form size_form d.min_length
    ∷ optional_form size_form d.max_length
    ∷ list_form (reference_form schema_form) d.one_of
    ∷ list_form (reference_form schema_form) d.all_of
    ∷ list_form (reference_form schema_form) d.any_of
    ∷ optional_form (λ b. reference_form schema_form b.value) d.not
    ∷ []

-- one level of such a schema, with the values inside replaced with their forms, gives these forms
pub any_rows-level : (d : Any) → any_schema_step (any_level d) ≡ listed_any d
any_rows-level d =
    (λ i. optional_form text_form d.typ
    ∷ optional_form text_form d.pattern
    ∷ optional_form number_form d.multiple_of
    ∷ optional_form flag_form d.exclusive_minimum
    ∷ optional_form flag_form d.exclusive_maximum
    ∷ optional_form number_form d.minimum
    ∷ optional_form number_form d.maximum
    ∷ named (named_of (any_properties d d.properties i))
    ∷ list_form text_form d.required
    ∷ any_additional d d.additional_properties i
    ∷ optional_form size_form d.min_properties
    ∷ optional_form size_form d.max_properties
    ∷ any_items d d.items i
    ∷ optional_form size_form d.min_items
    ∷ optional_form size_form d.max_items
    ∷ optional_form flag_form d.unique_items
    ∷ list_form leaf d.enumeration
    ∷ optional_form text_form d.format
    ∷ optional_form size_form d.min_length
    ∷ optional_form size_form d.max_length
    ∷ any_one_of d i
    ∷ any_all_of d i
    ∷ any_any_of d i
    ∷ any_not d d.not i
    ∷ [])

-- a schema that is made of such a level has these forms for its fields
pub any_rows-roll : (d : Any) → any_schema_rows (roll-AnySchema d) ≡ listed_any d
any_rows-roll d =
    fold-roll-AnySchema Form Sorted Sorted (List Form) (List Form) (List Form) Form additional_step schema_kind_step
    schema_type_step any_schema_step array_type_step object_type_step schema_step d
    ∙ any_rows-level d
