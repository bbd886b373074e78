-- The forms of the fields of the types that contain schemas, in the order of their field tables.
use Rattle.std.specs.Prelude.{List, [], ◌∷◌}
use Rattle.openapi_tables.specs.Kind.{object_type, array_type, any_schema}
use Rattle.openapi_tables.specs.Form.{Form, leaf}
use Rattle.openapi_tables.specs.Slots.{Slot}
use Rattle.openapi_fields.specs.Forms.{text_form, flag_form, optional_form, list_form, map_form, number_form, size_form}
use Rattle.openapi_fields.specs.Forms.{record_slots}
use Rattle.openapi_schema.specs.Reading.{ref_form, inner_box_form, outer_box_form}
use Rattle.openapi_schema.specs.SchemaForms.{additional_form}
use Rattle.openapi_schema.specs.declared.any_schema.AnySchema.{AnySchema, out-AnySchema}
use Rattle.openapi_schema.specs.declared.composite_types.ArrayType.{ArrayType, out-ArrayType}
use Rattle.openapi_schema.specs.declared.composite_types.ObjectType.{ObjectType, out-ObjectType}

abbrev pub object_fields : ObjectType → List Form
object_fields x =
    map_form inner_box_form (out-ObjectType x).properties
    ∷ list_form text_form (out-ObjectType x).required
    ∷ optional_form additional_form (out-ObjectType x).additional_properties
    ∷ optional_form size_form (out-ObjectType x).min_properties
    ∷ optional_form size_form (out-ObjectType x).max_properties
    ∷ []

abbrev pub array_fields : ArrayType → List Form
array_fields x =
    optional_form inner_box_form (out-ArrayType x).items
    ∷ optional_form size_form (out-ArrayType x).min_items
    ∷ optional_form size_form (out-ArrayType x).max_items
    ∷ flag_form (out-ArrayType x).unique_items
    ∷ []

abbrev pub any_fields : AnySchema → List Form
any_fields x =
    optional_form text_form (out-AnySchema x).typ
    ∷ optional_form text_form (out-AnySchema x).pattern
    ∷ optional_form number_form (out-AnySchema x).multiple_of
    ∷ optional_form flag_form (out-AnySchema x).exclusive_minimum
    ∷ optional_form flag_form (out-AnySchema x).exclusive_maximum
    ∷ optional_form number_form (out-AnySchema x).minimum
    ∷ optional_form number_form (out-AnySchema x).maximum
    ∷ map_form inner_box_form (out-AnySchema x).properties
    ∷ list_form text_form (out-AnySchema x).required
    ∷ optional_form additional_form (out-AnySchema x).additional_properties
    ∷ optional_form size_form (out-AnySchema x).min_properties
    ∷ optional_form size_form (out-AnySchema x).max_properties
    ∷ optional_form inner_box_form (out-AnySchema x).items
    ∷ optional_form size_form (out-AnySchema x).min_items
    ∷ optional_form size_form (out-AnySchema x).max_items
    ∷ optional_form flag_form (out-AnySchema x).unique_items
    ∷ list_form leaf (out-AnySchema x).enumeration
    ∷ optional_form text_form (out-AnySchema x).format
    ∷ optional_form size_form (out-AnySchema x).min_length
    ∷ optional_form size_form (out-AnySchema x).max_length
    ∷ list_form ref_form (out-AnySchema x).one_of
    ∷ list_form ref_form (out-AnySchema x).all_of
    ∷ list_form ref_form (out-AnySchema x).any_of
    ∷ optional_form outer_box_form (out-AnySchema x).not
    ∷ []

-- the slots of each, with the rows of its own field table
abbrev pub object_slots : ObjectType → List Slot
object_slots = record_slots object_type object_fields

abbrev pub array_slots : ArrayType → List Slot
array_slots = record_slots array_type array_fields

abbrev pub any_slots : AnySchema → List Slot
any_slots = record_slots any_schema any_fields
