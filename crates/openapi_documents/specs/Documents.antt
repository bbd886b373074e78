-- The forms of the fields of a document and of its components, in the order of their field tables.
use Rattle.std.specs.Prelude.{List, [], ◌∷◌}
use Rattle.openapi_tables.specs.Form.{Form}
use Rattle.openapi_values.specs.Reference.{reference_form}
use Rattle.openapi_fields.specs.Forms.{text_form, optional_form, list_form, map_form, extensions_form, record_form}
use Rattle.openapi_schema_types.specs.Annotations.{external_documentation_rows}
use Rattle.openapi_metadata.specs.Links.{link_rows}
use Rattle.openapi_metadata.specs.Objects.{example_rows, info_rows, server_rows, tag_rows}
use Rattle.openapi_security.specs.Schemes.{security_requirement_form, security_scheme_form}
use Rattle.openapi_schema.specs.SchemaForms.{schema_form}
use Rattle.openapi_media_types.specs.ContentForms.{header_form}
use Rattle.openapi_parameters.specs.Parameters.{parameter_form}
use Rattle.openapi_responses.specs.Messages.{request_body_rows, response_rows}
use Rattle.openapi_documents.specs.Fields.{paths_rows}
use Rattle.openapi_documents.specs.OperationForms.{callback_form}
use Rattle.openapi_documents.specs.declared.components.Components.{Components}
use Rattle.openapi_documents.specs.declared.open_api.OpenAPI.{OpenAPI}

-- Components Object
abbrev pub components_rows : Components → List Form
components_rows x =
    map_form (reference_form schema_form) x.schemas
    ∷ map_form (reference_form (record_form response_rows)) x.responses
    ∷ map_form (reference_form parameter_form) x.parameters
    ∷ map_form (reference_form (record_form example_rows)) x.examples
    ∷ map_form (reference_form (record_form request_body_rows)) x.request_bodies
    ∷ map_form (reference_form header_form) x.headers
    ∷ map_form (reference_form security_scheme_form) x.security_schemes
    ∷ map_form (reference_form (record_form link_rows)) x.links
    ∷ map_form (reference_form callback_form) x.callbacks
    ∷ extensions_form x.extensions
    ∷ []

-- OpenAPI Object
abbrev pub open_api_rows : OpenAPI → List Form
open_api_rows x =
    text_form x.openapi
    ∷ record_form info_rows x.info
    ∷ list_form (record_form server_rows) x.servers
    ∷ record_form paths_rows x.paths
    ∷ optional_form (record_form components_rows) x.components
    ∷ optional_form (list_form security_requirement_form) x.security
    ∷ list_form (record_form tag_rows) x.tags
    ∷ optional_form (record_form external_documentation_rows) x.external_docs
    ∷ extensions_form x.extensions
    ∷ []

-- the form of a whole document
abbrev pub document_form : OpenAPI → Form
document_form = record_form open_api_rows
