-- The forms of operations, path items and callbacks: a fold over these mutually recursive types.
use Rattle.std.specs.Prelude.{List, [], ◌∷◌}
use Rattle.openapi_tables.specs.Form.{Form}
use Rattle.openapi_values.specs.Reference.{reference_form}
use Rattle.openapi_values.specs.declared.reference.ReferenceOr.{ReferenceOr}
use Rattle.openapi_fields.specs.Forms.{
  text_form,
  flag_form,
  optional_form,
  list_form,
  map_form,
  extensions_form,
  record_form,
}
use Rattle.openapi_schema_types.specs.Annotations.{external_documentation_rows}
use Rattle.openapi_schema_types.specs.declared.external_documentation.ExternalDocumentation.{ExternalDocumentation}
use Rattle.openapi_metadata.specs.Objects.{server_rows}
use Rattle.openapi_metadata.specs.declared.server.Server.{Server}
use Rattle.openapi_security.specs.Schemes.{security_requirement_form}
use Rattle.openapi_media_types.specs.ContentForms.{of_rows}
use Rattle.openapi_parameters.specs.Parameters.{parameter_form}
use Rattle.openapi_parameters.specs.declared.parameter.Parameter.{Parameter}
use Rattle.openapi_responses.specs.Messages.{request_body_rows, responses_rows}
use Rattle.openapi_responses.specs.declared.request_body.RequestBody.{RequestBody}
use Rattle.openapi_documents.specs.declared.callback.Callback.{Callback}
use Rattle.openapi_documents.specs.declared.operation.Operation.{Operation}
use Rattle.openapi_documents.specs.declared.path_item.PathItem.{PathItem}
use Rattle.openapi_documents.specs.declared.callback.Callback.TheOpen.{Callback-F, Operation-F, PathItem-F}
use Rattle.openapi_documents.specs.declared.callback.Callback.TheFolds.{fold-Callback, fold-Operation, fold-PathItem}

-- the forms of those parts of an operation or a path item that contain no operation and no path item
abbrev pub docs_form : ExternalDocumentation → Form
docs_form = record_form external_documentation_rows

abbrev pub server_form : Server → Form
server_form = record_form server_rows

abbrev pub parameter_ref_form : ReferenceOr Parameter → Form
parameter_ref_form = reference_form parameter_form

abbrev pub body_ref_form : ReferenceOr RequestBody → Form
body_ref_form = reference_form (record_form request_body_rows)

-- the forms of the fields of one level of each type, given those of the callbacks, operations and path items inside
abbrev pub callback_step : Callback-F (List Form) (List Form) (List Form) → List Form
callback_step x =
    map_form of_rows x.paths
    ∷ extensions_form x.extensions
    ∷ []

abbrev pub operation_step : Operation-F (List Form) (List Form) (List Form) → List Form
operation_step x =
    list_form text_form x.tags
    ∷ optional_form text_form x.summary
    ∷ optional_form text_form x.description
    ∷ optional_form docs_form x.external_docs
    ∷ optional_form text_form x.operation_id
    ∷ list_form parameter_ref_form x.parameters
    ∷ optional_form body_ref_form x.request_body
    ∷ record_form responses_rows x.responses
    ∷ map_form (reference_form of_rows) x.callbacks
    ∷ flag_form x.deprecated
    ∷ optional_form (list_form security_requirement_form) x.security
    ∷ list_form server_form x.servers
    ∷ extensions_form x.extensions
    ∷ []

abbrev pub path_item_step : PathItem-F (List Form) (List Form) (List Form) → List Form
path_item_step x =
    optional_form text_form x.summary
    ∷ optional_form text_form x.description
    ∷ optional_form of_rows x.get
    ∷ optional_form of_rows x.put
    ∷ optional_form of_rows x.post
    ∷ optional_form of_rows x.delete
    ∷ optional_form of_rows x.options
    ∷ optional_form of_rows x.head
    ∷ optional_form of_rows x.patch
    ∷ optional_form of_rows x.trace
    ∷ list_form server_form x.servers
    ∷ list_form parameter_ref_form x.parameters
    ∷ extensions_form x.extensions
    ∷ []

-- the forms of the fields of a callback, of an operation and of a path item
abbrev pub callback_rows : Callback → List Form
callback_rows = fold-Callback (List Form) (List Form) (List Form) callback_step operation_step path_item_step

abbrev pub operation_rows : Operation → List Form
operation_rows = fold-Operation (List Form) (List Form) (List Form) callback_step operation_step path_item_step

abbrev pub path_item_rows : PathItem → List Form
path_item_rows = fold-PathItem (List Form) (List Form) (List Form) callback_step operation_step path_item_step

-- the form of each as an object
abbrev pub callback_form : Callback → Form
callback_form = record_form callback_rows

abbrev pub operation_form : Operation → Form
operation_form = record_form operation_rows

abbrev pub path_item_form : PathItem → Form
path_item_form = record_form path_item_rows
