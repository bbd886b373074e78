-- The field tables of security: the Security Scheme, Security Requirement, OAuth Flows and OAuth Flow Objects.
use Rattle.std.specs.Prelude.{List, [], ◌∷◌, codes}
use Rattle.openapi_tables.specs.Kind.{Kind, any_text, one_of, list_of, map_of, by, tagged, Row, api_key_scheme}
use Rattle.openapi_tables.specs.Kind.{http_scheme, oauth2_scheme, open_id_connect_scheme, oauth2_flows, implicit_flow}
use Rattle.openapi_tables.specs.Kind.{password_flow, client_credentials_flow, authorization_code_flow}
use Rattle.openapi_tables.specs.Rows.{required_row, optional_row, extension_rows, case}

-- Security Requirement Object: the scopes that are needed, for each scheme
abbrev pub security_requirement : Kind
security_requirement = map_of (list_of any_text)

-- Security Scheme Object, tagged by its type
abbrev pub security_scheme : Kind
security_scheme = tagged (codes "type")
    (case "apiKey" api_key_scheme
    ∷ case "http" http_scheme
    ∷ case "oauth2" oauth2_scheme
    ∷ case "openIdConnect" open_id_connect_scheme ∷ [])

-- a scheme by an API key in the query, in a header or in a cookie
abbrev pub api_key_rows : List Row
api_key_rows =
    required_row "in" (one_of (codes "query" ∷ codes "header" ∷ codes "cookie" ∷ []))
    ∷ required_row "name" any_text
    ∷ optional_row "description" any_text
    ∷ extension_rows

-- a scheme by HTTP authentication
abbrev pub http_rows : List Row
http_rows =
    required_row "scheme" any_text
    ∷ optional_row "bearerFormat" any_text
    ∷ optional_row "description" any_text
    ∷ extension_rows

-- a scheme by OAuth2
abbrev pub oauth2_rows : List Row
oauth2_rows =
    required_row "flows" (by oauth2_flows)
    ∷ optional_row "description" any_text
    ∷ extension_rows

-- a scheme by OpenID Connect
abbrev pub open_id_connect_rows : List Row
open_id_connect_rows =
    required_row "openIdConnectUrl" any_text
    ∷ optional_row "description" any_text
    ∷ extension_rows

-- OAuth Flows Object
abbrev pub oauth2_flows_rows : List Row
oauth2_flows_rows =
    optional_row "implicit" (by implicit_flow)
    ∷ optional_row "password" (by password_flow)
    ∷ optional_row "clientCredentials" (by client_credentials_flow)
    ∷ optional_row "authorizationCode" (by authorization_code_flow)
    ∷ extension_rows

-- OAuth Flow Object of the implicit flow
abbrev pub implicit_flow_rows : List Row
implicit_flow_rows =
    required_row "authorizationUrl" any_text
    ∷ optional_row "refreshUrl" any_text
    ∷ required_row "scopes" (map_of any_text)
    ∷ extension_rows

-- OAuth Flow Object of the password flow and of the client credentials flow
abbrev pub token_flow_rows : List Row
token_flow_rows =
    optional_row "refreshUrl" any_text
    ∷ required_row "tokenUrl" any_text
    ∷ required_row "scopes" (map_of any_text)
    ∷ extension_rows

-- OAuth Flow Object of the authorization code flow
abbrev pub authorization_code_flow_rows : List Row
authorization_code_flow_rows =
    required_row "authorizationUrl" any_text
    ∷ required_row "tokenUrl" any_text
    ∷ optional_row "refreshUrl" any_text
    ∷ required_row "scopes" (map_of any_text)
    ∷ extension_rows
