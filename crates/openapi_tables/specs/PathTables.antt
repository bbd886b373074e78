-- The field tables of paths and operations: the Paths, Path Item, Operation and Callback Objects.
use Rattle.std.specs.Prelude.{List, ◌∷◌}
use Rattle.openapi_tables.specs.Kind.{Kind, any_text, list_of, map_of, by, ref_to, Row, class, path_names}
use Rattle.openapi_tables.specs.Kind.{callback_names, server, path_item, operation, external_documentation}
use Rattle.openapi_tables.specs.Kind.{request_body, responses}
use Rattle.openapi_tables.specs.Rows.{required_row, optional_row, list_row, flag_row, extension_rows}
use Rattle.openapi_tables.specs.ParameterTables.{parameter}
use Rattle.openapi_tables.specs.SecurityTables.{security_requirement}

-- Paths Object: a path item or a reference to one at each name that begins with `/`
abbrev pub paths_rows : List Row
paths_rows =
    class path_names (ref_to (by path_item))
    ∷ extension_rows

-- Path Item Object, with an operation for each HTTP method
abbrev pub path_item_rows : List Row
path_item_rows =
    optional_row "summary" any_text
    ∷ optional_row "description" any_text
    ∷ optional_row "get" (by operation)
    ∷ optional_row "put" (by operation)
    ∷ optional_row "post" (by operation)
    ∷ optional_row "delete" (by operation)
    ∷ optional_row "options" (by operation)
    ∷ optional_row "head" (by operation)
    ∷ optional_row "patch" (by operation)
    ∷ optional_row "trace" (by operation)
    ∷ list_row "servers" (list_of (by server))
    ∷ list_row "parameters" (list_of (ref_to parameter))
    ∷ extension_rows

-- Operation Object, with a given kind for its callbacks
abbrev pub operation_rows : Kind → List Row
operation_rows callback =
    list_row "tags" (list_of any_text)
    ∷ optional_row "summary" any_text
    ∷ optional_row "description" any_text
    ∷ optional_row "externalDocs" (by external_documentation)
    ∷ optional_row "operationId" any_text
    ∷ list_row "parameters" (list_of (ref_to parameter))
    ∷ optional_row "requestBody" (ref_to (by request_body))
    ∷ required_row "responses" (by responses)
    ∷ list_row "callbacks" (map_of callback)
    ∷ flag_row "deprecated"
    ∷ optional_row "security" (list_of security_requirement)
    ∷ list_row "servers" (list_of (by server))
    ∷ extension_rows

-- Callback Object: a path item at each name that does not begin with `x-`
abbrev pub callback_rows : List Row
callback_rows =
    class callback_names (by path_item)
    ∷ extension_rows

-- a callback in `tables_before_callbacks`: a map of path items, without extensions
abbrev pub callback_map : Kind
callback_map = map_of (by path_item)
