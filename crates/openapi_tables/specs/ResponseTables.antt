-- The field tables of the responses of an operation: the Responses, Response and Link Objects.
use Rattle.std.specs.Prelude.{List, [], ◌∷◌}
use Rattle.openapi_tables.specs.Kind.{any_text, any_tree, map_of, by, ref_to, Row, class, status_names, server, header}
use Rattle.openapi_tables.specs.Kind.{response, link}
use Rattle.openapi_tables.specs.Rows.{required_row, optional_row, list_row, either_row, extension_rows}
use Rattle.openapi_tables.specs.ParameterTables.{content}

-- Responses Object: the default response, and a response for each status code
abbrev pub responses_rows : List Row
responses_rows =
    optional_row "default" (ref_to (by response))
    ∷ class status_names (ref_to (by response))
    ∷ extension_rows

-- Response Object
abbrev pub response_rows : List Row
response_rows =
    required_row "description" any_text
    ∷ list_row "headers" (map_of (ref_to (by header)))
    ∷ list_row "content" content
    ∷ list_row "links" (map_of (ref_to (by link)))
    ∷ extension_rows

-- Link Object
abbrev pub link_rows : List Row
link_rows =
    optional_row "description" any_text
    ∷ either_row "operationRef" any_text "operationId" any_text
    ∷ optional_row "requestBody" any_tree
    ∷ list_row "parameters" (map_of any_tree)
    ∷ optional_row "server" (by server)
    ∷ extension_rows

-- the operation that a link refers to, as an object of its own
abbrev pub link_operation_rows : List Row
link_operation_rows =
    either_row "operationRef" any_text "operationId" any_text
    ∷ []
