-- The forms of the fields of the OAuth flows, in the order of their field tables.
use Rattle.std.specs.Prelude.{List, [], ◌∷◌}
use Rattle.openapi_tables.specs.Form.{Form}
use Rattle.openapi_fields.specs.Forms.{text_form, optional_form, map_form, extensions_form, record_form}
use Rattle.openapi_security.specs.declared.authorization_code_flow.AuthorizationCodeOAuth2Flow as code
use Rattle.openapi_security.specs.declared.client_credentials_flow.ClientCredentialsOAuth2Flow as client
use Rattle.openapi_security.specs.declared.implicit_flow.ImplicitOAuth2Flow.{ImplicitOAuth2Flow}
use Rattle.openapi_security.specs.declared.oauth2_flows.OAuth2Flows.{OAuth2Flows}
use Rattle.openapi_security.specs.declared.password_flow.PasswordOAuth2Flow.{PasswordOAuth2Flow}

-- OAuth Flow Object: the implicit flow
abbrev pub implicit_flow_rows : ImplicitOAuth2Flow → List Form
implicit_flow_rows x =
    text_form x.authorization_url
    ∷ optional_form text_form x.refresh_url
    ∷ map_form text_form x.scopes
    ∷ extensions_form x.extensions
    ∷ []

-- OAuth Flow Object: the resource owner password flow
abbrev pub password_flow_rows : PasswordOAuth2Flow → List Form
password_flow_rows x =
    optional_form text_form x.refresh_url
    ∷ text_form x.token_url
    ∷ map_form text_form x.scopes
    ∷ extensions_form x.extensions
    ∷ []

-- OAuth Flow Object: the client credentials flow
abbrev pub client_credentials_flow_rows : client.ClientCredentialsOAuth2Flow → List Form
client_credentials_flow_rows x =
    optional_form text_form x.refresh_url
    ∷ text_form x.token_url
    ∷ map_form text_form x.scopes
    ∷ extensions_form x.extensions
    ∷ []

-- OAuth Flow Object: the authorization code flow
abbrev pub authorization_code_flow_rows : code.AuthorizationCodeOAuth2Flow → List Form
authorization_code_flow_rows x =
    text_form x.authorization_url
    ∷ text_form x.token_url
    ∷ optional_form text_form x.refresh_url
    ∷ map_form text_form x.scopes
    ∷ extensions_form x.extensions
    ∷ []

-- OAuth Flows Object
abbrev pub oauth2_flows_rows : OAuth2Flows → List Form
oauth2_flows_rows x =
    optional_form (record_form implicit_flow_rows) x.implicit
    ∷ optional_form (record_form password_flow_rows) x.password
    ∷ optional_form (record_form client_credentials_flow_rows) x.client_credentials
    ∷ optional_form (record_form authorization_code_flow_rows) x.authorization_code
    ∷ extensions_form x.extensions
    ∷ []
