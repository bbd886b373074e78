-- The kind names whose values hold no schema and no JSON value: texts, numbers, flags and lists of texts.
use Rattle.std.specs.Prelude.{Bool, true, false, List, [], ◌∷◌}
use Rattle.openapi_tables.specs.Lists.{only}
use Rattle.openapi_tables.specs.Kind.{Kind, any_text, any_flag, number, list_of, Row, row, either, class, constant}
use Rattle.openapi_tables.specs.Form.{Form}
use Rattle.openapi_fields.specs.Forms.{text_form, flag_form, list_form, optional_form, number_form, size_form}
use Rattle.openapi_schema.specs.RawSlots.{optional_rows}
use Rattle.openapi_schema.specs.declared.plain_names.PlainNames.{PlainNames}

-- whether a kind is that of a text, a number, a flag or a list of texts
abbrev pub is_plain : Kind → Bool
is_plain any_text = true
is_plain any_flag = true
is_plain (number w) = true
is_plain (list_of any_text) = true
is_plain k = false

abbrev pub is_plain_row : Row → Bool
is_plain_row (row n m k) = is_plain k
is_plain_row (either a j b k) = false
is_plain_row (class c k) = false
is_plain_row (constant n v) = false

-- the rows of these names, each optional
unfoldable pub plain_rows : List Row
plain_rows = only is_plain_row optional_rows

-- the forms of the values under these names; `absent` for a name that is missing
abbrev pub plain_forms : PlainNames → List Form
plain_forms a =
    optional_form text_form a.typ
    ∷ optional_form text_form a.pattern
    ∷ optional_form number_form a.multiple_of
    ∷ optional_form flag_form a.exclusive_minimum
    ∷ optional_form flag_form a.exclusive_maximum
    ∷ optional_form number_form a.minimum
    ∷ optional_form number_form a.maximum
    ∷ optional_form (list_form text_form) a.required
    ∷ optional_form size_form a.min_properties
    ∷ optional_form size_form a.max_properties
    ∷ optional_form size_form a.min_items
    ∷ optional_form size_form a.max_items
    ∷ optional_form flag_form a.unique_items
    ∷ optional_form text_form a.format
    ∷ optional_form size_form a.min_length
    ∷ optional_form size_form a.max_length
    ∷ []
