-- The forms of parameters: the fields that parameters of all locations have, followed by those of one location. Here a
-- location is where a parameter is in a request, the value of `in`.
use Rattle.std.specs.Prelude.{◌≡◌, ℕ, true, List, [], ◌∷◌, codes}
use Rattle.std.proofs.Common.{refl}
use Rattle.openapi_tables.specs.Lists.{join}
use Rattle.openapi_tables.specs.Kind.{Case, constant, parameter_data, query_parameter, header_parameter}
use Rattle.openapi_tables.specs.Kind.{path_parameter, cookie_parameter}
use Rattle.openapi_tables.specs.Rows.{case}
use Rattle.openapi_tables.specs.Members.{is_case}
use Rattle.openapi_tables.specs.Form.{Form, absent, leaf}
use Rattle.openapi_tables.specs.Slots.{Slot}
use Rattle.openapi_values.specs.Words.{word_form, query_style_word, header_style_word, path_style_word, cookie_style_word}
use Rattle.openapi_fields.specs.Forms.{text_form, flag_form, optional_form, map_form, extensions_form}
use Rattle.openapi_fields.specs.Forms.{record_slots, tagged_form, tagged_slots}
use Rattle.openapi_media_types.specs.ContentForms.{example_ref_form, format_form}
use Rattle.openapi_parameters.specs.declared.location.ParameterLocation.{ParameterLocation}
use Rattle.openapi_parameters.specs.declared.location.ParameterLocation.TheVariants as locations
use Rattle.openapi_parameters.specs.declared.parameter.Parameter.{Parameter}
use Rattle.openapi_parameters.specs.declared.parameter.Parameter.TheVariants as parameters
use Rattle.openapi_parameters.specs.declared.parameter_data.ParameterData.{ParameterData}

-- the texts of `in`, each with the field table of the parameters of that location
abbrev pub parameter_cases : List Case
parameter_cases =
    case "query" query_parameter
    ∷ case "header" header_parameter
    ∷ case "path" path_parameter
    ∷ case "cookie" cookie_parameter
    ∷ []

-- the texts of `in`
abbrev pub parameter_locations : List (List ℕ)
parameter_locations = codes "query" ∷ codes "header" ∷ codes "path" ∷ codes "cookie" ∷ []

-- the text of `in` for a location
abbrev pub parameter_location_word : ParameterLocation → List ℕ
parameter_location_word locations.Query = codes "query"
parameter_location_word locations.Header = codes "header"
parameter_location_word locations.Path = codes "path"
parameter_location_word locations.Cookie = codes "cookie"

-- the forms of the fields that parameters of all locations have, in the order of their field table
abbrev pub parameter_data_rows : ParameterData → List Form
parameter_data_rows x =
    text_form x.name
    ∷ optional_form text_form x.description
    ∷ flag_form x.required
    ∷ optional_form flag_form x.deprecated
    ∷ format_form x.format
    ∷ optional_form leaf x.example
    ∷ map_form example_ref_form x.examples
    ∷ optional_form flag_form x.explode
    ∷ extensions_form x.extensions
    ∷ []

-- the part of a parameter that parameters of all locations have
abbrev pub data_of_parameter : Parameter → ParameterData
data_of_parameter (parameters.Query d r s e) = d
data_of_parameter (parameters.Header d s) = d
data_of_parameter (parameters.Path d s) = d
data_of_parameter (parameters.Cookie d s) = d

-- the text of `in` of a parameter
abbrev pub parameter_word : Parameter → List ℕ
parameter_word (parameters.Query d r s e) = codes "query"
parameter_word (parameters.Header d s) = codes "header"
parameter_word (parameters.Path d s) = codes "path"
parameter_word (parameters.Cookie d s) = codes "cookie"

-- the forms of the fields that only parameters of its location have, in the order of the field table, where they are
-- after those of all locations
abbrev pub own_rows : Parameter → List Form
own_rows (parameters.Query d r s e) = flag_form r ∷ word_form query_style_word s ∷ optional_form flag_form e ∷ []
own_rows (parameters.Header d s) = word_form header_style_word s ∷ []
own_rows (parameters.Path d s) = word_form path_style_word s ∷ []
own_rows (parameters.Cookie d s) = word_form cookie_style_word s ∷ []

-- the forms of the fields of a parameter, in the order of the field table of its location
abbrev pub parameter_rows : Parameter → List Form
parameter_rows x = join (parameter_data_rows (data_of_parameter x)) (own_rows x)

-- Parameter Object
abbrev pub parameter_form : Parameter → Form
parameter_form = tagged_form parameter_word parameter_rows

abbrev pub parameter_slots : Parameter → List Slot
parameter_slots = tagged_slots (codes "in") parameter_cases parameter_word parameter_rows

-- the slots that a parameter shares with those of other locations: its `in`, and the fields of all locations
abbrev pub shared_slots : Parameter → List Slot
shared_slots x =
    (constant (codes "in") (parameter_word x), absent)
    ∷ record_slots parameter_data parameter_data_rows (data_of_parameter x)

-- the text of `in` of a parameter is one of those in `parameter_cases`
pub parameter_known : (x : Parameter) → is_case parameter_cases (parameter_word x) ≡ true
parameter_known (parameters.Query d r s e) = refl
parameter_known (parameters.Header d s) = refl
parameter_known (parameters.Path d s) = refl
parameter_known (parameters.Cookie d s) = refl
