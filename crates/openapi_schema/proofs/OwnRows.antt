-- What is read for the fields of a type that contains schemas, with its own field table.
use Rattle.std.proofs.Common.{[], ◌∷◌, sym, ◌∙◌, subst}
use Rattle.openapi_node.specs.Tree.{Members}
use Rattle.openapi_tables.specs.Prelude.{final_tables, AreRows}
use Rattle.openapi_tables.specs.Kind.{object_type, array_type, any_schema}
use Rattle.openapi_fields.specs.Forms.{text_form, optional_form, map_form, flag_form, size_form, list_form}
use Rattle.openapi_schema.specs.Fields.{object_fields, array_fields, any_fields}
use Rattle.openapi_schema.specs.Reading.{inner_box_form}
use Rattle.openapi_schema.specs.SchemaForms.{additional_form}
use Rattle.openapi_schema.specs.declared.any_schema.AnySchema.{roll-AnySchema}
use Rattle.openapi_schema.specs.declared.composite_types.ArrayType.{roll-ArrayType}
use Rattle.openapi_schema.specs.declared.composite_types.ObjectType.{roll-ObjectType}
use Rattle.openapi_schema.proofs.AnyForms.{Any, any_rows-roll, listed_any}
use Rattle.openapi_schema.proofs.KindForms.{Array, Object, array_rows-roll, object_rows-roll}
use Rattle.openapi_schema.proofs.OpenedForms.{any_rows-out, array_rows-out, object_rows-out}

-- an object by its fields
pub object_read : (d : Object) (ms : Members)
    → AreRows final_tables (final_tables object_type) (map_form inner_box_form d.properties
    ∷ list_form text_form d.required
    ∷ optional_form additional_form d.additional_properties
    ∷ optional_form size_form d.min_properties
    ∷ optional_form size_form d.max_properties
    ∷ []) ms
    → AreRows final_tables (final_tables object_type) (object_fields (roll-ObjectType d)) ms
object_read d ms h =
    subst (λ fs. AreRows final_tables (final_tables object_type) fs ms)
    (sym (object_rows-roll d) ∙ object_rows-out (roll-ObjectType d)) h

-- an array by its fields
pub array_read : (d : Array) (ms : Members)
    → AreRows final_tables (final_tables array_type) (optional_form inner_box_form d.items
    ∷ optional_form size_form d.min_items
    ∷ optional_form size_form d.max_items
    ∷ flag_form d.unique_items
    ∷ []) ms
    → AreRows final_tables (final_tables array_type) (array_fields (roll-ArrayType d)) ms
array_read d ms h =
    subst (λ fs. AreRows final_tables (final_tables array_type) fs ms)
    (sym (array_rows-roll d) ∙ array_rows-out (roll-ArrayType d)) h

-- a schema of no sort in particular by its fields
pub any_read : (d : Any) (ms : Members) → AreRows final_tables (final_tables any_schema) (listed_any d) ms
    → AreRows final_tables (final_tables any_schema) (any_fields (roll-AnySchema d)) ms
any_read d ms h =
    subst (λ fs. AreRows final_tables (final_tables any_schema) fs ms)
    (sym (any_rows-roll d) ∙ any_rows-out (roll-AnySchema d)) h
