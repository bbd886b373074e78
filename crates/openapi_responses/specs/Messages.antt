-- The forms of the fields of request bodies, responses and the responses of an operation, in the order of their field
-- tables.
use Rattle.std.specs.Prelude.{List, [], ◌∷◌}
use Rattle.openapi_tables.specs.Form.{Form}
use Rattle.openapi_values.specs.Reference.{reference_form}
use Rattle.openapi_fields.specs.Forms.{text_form, flag_form, optional_form, map_form, extensions_form, record_form}
use Rattle.openapi_metadata.specs.Links.{link_rows}
use Rattle.openapi_media_types.specs.ContentForms.{header_form, media_type_form}
use Rattle.openapi_responses.specs.Codes.{coded_form}
use Rattle.openapi_responses.specs.declared.request_body.RequestBody.{RequestBody}
use Rattle.openapi_responses.specs.declared.response.Response.{Response}
use Rattle.openapi_responses.specs.declared.responses.Responses.{Responses}

-- Request Body Object
abbrev pub request_body_rows : RequestBody → List Form
request_body_rows x =
    optional_form text_form x.description
    ∷ map_form media_type_form x.content
    ∷ flag_form x.required
    ∷ extensions_form x.extensions
    ∷ []

-- Response Object
abbrev pub response_rows : Response → List Form
response_rows x =
    text_form x.description
    ∷ map_form (reference_form header_form) x.headers
    ∷ map_form media_type_form x.content
    ∷ map_form (reference_form (record_form link_rows)) x.links
    ∷ extensions_form x.extensions
    ∷ []

-- Responses Object
abbrev pub responses_rows : Responses → List Form
responses_rows x =
    optional_form (reference_form (record_form response_rows)) x.default
    ∷ coded_form (reference_form (record_form response_rows)) x.responses
    ∷ extensions_form x.extensions
    ∷ []
