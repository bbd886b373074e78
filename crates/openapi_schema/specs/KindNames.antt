-- The forms of the values under the kind names of a schema: the 24 names of the field table `any_schema`.
use Rattle.std.specs.Prelude.{Bool, not, List, [], ◌∷◌}
use Rattle.openapi_node.specs.Tree.{Tree}
use Rattle.openapi_tables.specs.Lists.{each}
use Rattle.openapi_tables.specs.Form.{Form, leaf, sequence, forms_of}
use Rattle.openapi_tables.specs.Proper.{is_absent}
use Rattle.openapi_fields.specs.Forms.{text_form, flag_form, number_form, size_form, optional_form, list_form, map_form}
use Rattle.openapi_schema.specs.Reading.{ref_form, inner_box_form, outer_box_form}
use Rattle.openapi_schema.specs.SchemaForms.{additional_form}
use Rattle.openapi_schema.specs.declared.kind_names.KindNames.{KindNames}

-- the form of a list of nodes that are held as they are
abbrev pub trees_form : List Tree → Form
trees_form ts = sequence (forms_of (each leaf ts))

-- the forms of the values under all kind names; `absent` for a name that is missing
abbrev pub kind_forms : KindNames → List Form
kind_forms a =
    optional_form text_form a.plain.typ
    ∷ optional_form text_form a.plain.pattern
    ∷ optional_form number_form a.plain.multiple_of
    ∷ optional_form flag_form a.plain.exclusive_minimum
    ∷ optional_form flag_form a.plain.exclusive_maximum
    ∷ optional_form number_form a.plain.minimum
    ∷ optional_form number_form a.plain.maximum
    ∷ optional_form (map_form inner_box_form) a.properties
    ∷ optional_form (list_form text_form) a.plain.required
    ∷ optional_form additional_form a.additional_properties
    ∷ optional_form size_form a.plain.min_properties
    ∷ optional_form size_form a.plain.max_properties
    ∷ optional_form inner_box_form a.items
    ∷ optional_form size_form a.plain.min_items
    ∷ optional_form size_form a.plain.max_items
    ∷ optional_form flag_form a.plain.unique_items
    ∷ optional_form (λ nodes. trees_form nodes.now) a.enumeration
    ∷ optional_form text_form a.plain.format
    ∷ optional_form size_form a.plain.min_length
    ∷ optional_form size_form a.plain.max_length
    ∷ optional_form (list_form ref_form) a.one_of
    ∷ optional_form (list_form ref_form) a.all_of
    ∷ optional_form (list_form ref_form) a.any_of
    ∷ optional_form outer_box_form a.not
    ∷ []

-- for each kind name, whether it has a value: its form is not `absent`
abbrev pub flags_in : KindNames → List Bool
flags_in a = each (λ f. not (is_absent f)) (kind_forms a)
