-- The field tables of a document and its metadata: the OpenAPI, Info, Contact, License, Server, Server Variable, Tag,
-- External Documentation and Components Objects.
use Rattle.std.specs.Prelude.{List, ◌∷◌}
use Rattle.openapi_tables.specs.Kind.{Kind, any_text, list_of, map_of, by, ref_to, Row, info, contact, license, example}
use Rattle.openapi_tables.specs.Kind.{server, server_variable, tag, external_documentation, components, paths, header}
use Rattle.openapi_tables.specs.Kind.{request_body, response, link}
use Rattle.openapi_tables.specs.Rows.{required_row, optional_row, nullable_row, list_row, extension_rows}
use Rattle.openapi_tables.specs.SchemaTables.{schema_ref}
use Rattle.openapi_tables.specs.ParameterTables.{parameter}
use Rattle.openapi_tables.specs.SecurityTables.{security_scheme, security_requirement}

-- OpenAPI Object
abbrev pub open_api_rows : List Row
open_api_rows =
    required_row "openapi" any_text
    ∷ required_row "info" (by info)
    ∷ list_row "servers" (list_of (by server))
    ∷ required_row "paths" (by paths)
    ∷ optional_row "components" (by components)
    ∷ optional_row "security" (list_of security_requirement)
    ∷ list_row "tags" (list_of (by tag))
    ∷ optional_row "externalDocs" (by external_documentation)
    ∷ extension_rows

-- Info Object
abbrev pub info_rows : List Row
info_rows =
    required_row "title" any_text
    ∷ optional_row "description" any_text
    ∷ optional_row "termsOfService" any_text
    ∷ optional_row "contact" (by contact)
    ∷ optional_row "license" (by license)
    ∷ required_row "version" any_text
    ∷ extension_rows

-- Contact Object
abbrev pub contact_rows : List Row
contact_rows =
    optional_row "name" any_text
    ∷ optional_row "url" any_text
    ∷ optional_row "email" any_text
    ∷ extension_rows

-- License Object
abbrev pub license_rows : List Row
license_rows =
    required_row "name" any_text
    ∷ optional_row "url" any_text
    ∷ extension_rows

-- Server Object
abbrev pub server_rows : List Row
server_rows =
    required_row "url" any_text
    ∷ optional_row "description" any_text
    ∷ optional_row "variables" (map_of (by server_variable))
    ∷ extension_rows

-- Server Variable Object
abbrev pub server_variable_rows : List Row
server_variable_rows =
    list_row "enum" (list_of any_text)
    ∷ required_row "default" any_text
    ∷ nullable_row "description" any_text
    ∷ extension_rows

-- Tag Object
abbrev pub tag_rows : List Row
tag_rows =
    required_row "name" any_text
    ∷ optional_row "description" any_text
    ∷ optional_row "externalDocs" (by external_documentation)
    ∷ extension_rows

-- External Documentation Object
abbrev pub external_documentation_rows : List Row
external_documentation_rows =
    optional_row "description" any_text
    ∷ required_row "url" any_text
    ∷ extension_rows

-- Components Object, with a given kind for its callbacks
abbrev pub components_rows : Kind → List Row
components_rows callback =
    list_row "schemas" (map_of schema_ref)
    ∷ list_row "responses" (map_of (ref_to (by response)))
    ∷ list_row "parameters" (map_of (ref_to parameter))
    ∷ list_row "examples" (map_of (ref_to (by example)))
    ∷ list_row "requestBodies" (map_of (ref_to (by request_body)))
    ∷ list_row "headers" (map_of (ref_to (by header)))
    ∷ list_row "securitySchemes" (map_of (ref_to security_scheme))
    ∷ list_row "links" (map_of (ref_to (by link)))
    ∷ list_row "callbacks" (map_of callback)
    ∷ extension_rows
