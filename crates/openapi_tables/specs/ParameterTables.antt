-- The field tables of parameters, headers and bodies: the Parameter, Header, Media Type, Encoding, Example and Request
-- Body Objects.
use Rattle.std.specs.Prelude.{ℕ, List, [], ◌∷◌, codes}
use Rattle.openapi_tables.specs.Lists.{join}
use Rattle.openapi_tables.specs.Kind.{Kind, any_text, any_flag, any_tree, one_of, map_of, by, tagged, ref_to, Row}
use Rattle.openapi_tables.specs.Kind.{example, query_parameter, header_parameter, path_parameter, cookie_parameter}
use Rattle.openapi_tables.specs.Kind.{header, media_type, encoding}
use Rattle.openapi_tables.specs.Rows.{required_row, optional_row, nullable_row, list_row, flag_row, style_row}
use Rattle.openapi_tables.specs.Rows.{either_row, extension_rows, case}
use Rattle.openapi_tables.specs.SchemaTables.{schema_ref}

-- the styles of a parameter in the path
abbrev pub path_styles : List (List ℕ)
path_styles = codes "matrix" ∷ codes "label" ∷ codes "simple" ∷ []

-- the styles of a parameter in the query
abbrev pub query_styles : List (List ℕ)
query_styles = codes "form" ∷ codes "spaceDelimited" ∷ codes "pipeDelimited" ∷ codes "deepObject" ∷ []

-- the style of a parameter in a cookie
abbrev pub cookie_styles : List (List ℕ)
cookie_styles = codes "form" ∷ []

-- the style of a parameter in a header, and of a header
abbrev pub header_styles : List (List ℕ)
header_styles = codes "simple" ∷ []

-- the content of a parameter, a body or a response: a Media Type Object for each media type
abbrev pub content : Kind
content = map_of (by media_type)

-- Parameter Object, whose tag `in` is the location of the parameter in a request
abbrev pub parameter : Kind
parameter = tagged (codes "in")
    (case "query" query_parameter
    ∷ case "header" header_parameter
    ∷ case "path" path_parameter
    ∷ case "cookie" cookie_parameter ∷ [])

-- the fields that parameters of all locations have
abbrev pub parameter_rows : List Row
parameter_rows =
    required_row "name" any_text
    ∷ optional_row "description" any_text
    ∷ flag_row "required"
    ∷ optional_row "deprecated" any_flag
    ∷ either_row "schema" schema_ref "content" content
    ∷ optional_row "example" any_tree
    ∷ list_row "examples" (map_of (ref_to (by example)))
    ∷ optional_row "explode" any_flag
    ∷ extension_rows

-- a parameter in the query
abbrev pub query_parameter_rows : List Row
query_parameter_rows =
    join parameter_rows
    (flag_row "allowReserved"
    ∷ style_row "style" "form" query_styles
    ∷ optional_row "allowEmptyValue" any_flag
    ∷ [])

-- a parameter in a header
abbrev pub header_parameter_rows : List Row
header_parameter_rows =
    join parameter_rows
    (style_row "style" "simple" header_styles
    ∷ [])

-- a parameter in the path
abbrev pub path_parameter_rows : List Row
path_parameter_rows =
    join parameter_rows
    (style_row "style" "simple" path_styles
    ∷ [])

-- a parameter in a cookie
abbrev pub cookie_parameter_rows : List Row
cookie_parameter_rows =
    join parameter_rows
    (style_row "style" "form" cookie_styles
    ∷ [])

-- the schema or the content of a parameter or header, as an object of its own
abbrev pub schema_or_content_rows : List Row
schema_or_content_rows =
    either_row "schema" schema_ref "content" content
    ∷ []

-- Header Object
abbrev pub header_rows : List Row
header_rows =
    optional_row "description" any_text
    ∷ style_row "style" "simple" header_styles
    ∷ flag_row "required"
    ∷ optional_row "deprecated" any_flag
    ∷ either_row "schema" schema_ref "content" content
    ∷ optional_row "example" any_tree
    ∷ list_row "examples" (map_of (ref_to (by example)))
    ∷ extension_rows

-- Media Type Object
abbrev pub media_type_rows : List Row
media_type_rows =
    optional_row "schema" schema_ref
    ∷ optional_row "example" any_tree
    ∷ list_row "examples" (map_of (ref_to (by example)))
    ∷ list_row "encoding" (map_of (by encoding))
    ∷ extension_rows

-- Encoding Object
abbrev pub encoding_rows : List Row
encoding_rows =
    nullable_row "contentType" any_text
    ∷ list_row "headers" (map_of (ref_to (by header)))
    ∷ optional_row "style" (one_of query_styles)
    ∷ flag_row "explode"
    ∷ flag_row "allowReserved"
    ∷ extension_rows

-- Example Object
abbrev pub example_rows : List Row
example_rows =
    optional_row "summary" any_text
    ∷ optional_row "description" any_text
    ∷ optional_row "value" any_tree
    ∷ optional_row "externalValue" any_text
    ∷ extension_rows

-- Request Body Object
abbrev pub request_body_rows : List Row
request_body_rows =
    optional_row "description" any_text
    ∷ list_row "content" content
    ∷ flag_row "required"
    ∷ extension_rows
