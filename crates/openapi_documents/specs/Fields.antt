-- The forms of the fields of operations, path items, callbacks and paths, in the order of their field tables.
use Rattle.std.specs.Prelude.{List, [], ◌∷◌}
use Rattle.openapi_tables.specs.Kind.{callback_object, operation, path_item}
use Rattle.openapi_tables.specs.Form.{Form}
use Rattle.openapi_tables.specs.Slots.{Slot}
use Rattle.openapi_values.specs.Reference.{reference_form}
use Rattle.openapi_fields.specs.Forms.{
  text_form,
  flag_form,
  optional_form,
  list_form,
  map_form,
  extensions_form,
  record_form,
  record_slots,
}
use Rattle.openapi_security.specs.Schemes.{security_requirement_form}
use Rattle.openapi_responses.specs.Messages.{responses_rows}
use Rattle.openapi_documents.specs.OperationForms.{
  body_ref_form,
  callback_form,
  docs_form,
  operation_form,
  parameter_ref_form,
  path_item_form,
  server_form,
}
use Rattle.openapi_documents.specs.declared.callback.Callback.{Callback, out-Callback}
use Rattle.openapi_documents.specs.declared.operation.Operation.{Operation, out-Operation}
use Rattle.openapi_documents.specs.declared.path_item.PathItem.{PathItem, out-PathItem}
use Rattle.openapi_documents.specs.declared.paths.Paths.{Paths}

-- Operation Object
abbrev pub operation_fields : Operation → List Form
operation_fields x =
    list_form text_form (out-Operation x).tags
    ∷ optional_form text_form (out-Operation x).summary
    ∷ optional_form text_form (out-Operation x).description
    ∷ optional_form docs_form (out-Operation x).external_docs
    ∷ optional_form text_form (out-Operation x).operation_id
    ∷ list_form parameter_ref_form (out-Operation x).parameters
    ∷ optional_form body_ref_form (out-Operation x).request_body
    ∷ record_form responses_rows (out-Operation x).responses
    ∷ map_form (reference_form callback_form) (out-Operation x).callbacks
    ∷ flag_form (out-Operation x).deprecated
    ∷ optional_form (list_form security_requirement_form) (out-Operation x).security
    ∷ list_form server_form (out-Operation x).servers
    ∷ extensions_form (out-Operation x).extensions
    ∷ []

-- Path Item Object
abbrev pub path_item_fields : PathItem → List Form
path_item_fields x =
    optional_form text_form (out-PathItem x).summary
    ∷ optional_form text_form (out-PathItem x).description
    ∷ optional_form operation_form (out-PathItem x).get
    ∷ optional_form operation_form (out-PathItem x).put
    ∷ optional_form operation_form (out-PathItem x).post
    ∷ optional_form operation_form (out-PathItem x).delete
    ∷ optional_form operation_form (out-PathItem x).options
    ∷ optional_form operation_form (out-PathItem x).head
    ∷ optional_form operation_form (out-PathItem x).patch
    ∷ optional_form operation_form (out-PathItem x).trace
    ∷ list_form server_form (out-PathItem x).servers
    ∷ list_form parameter_ref_form (out-PathItem x).parameters
    ∷ extensions_form (out-PathItem x).extensions
    ∷ []

-- Callback Object
abbrev pub callback_fields : Callback → List Form
callback_fields x =
    map_form path_item_form (out-Callback x).paths
    ∷ extensions_form (out-Callback x).extensions
    ∷ []

-- Paths Object
abbrev pub paths_rows : Paths → List Form
paths_rows x =
    map_form (reference_form path_item_form) x.paths
    ∷ extensions_form x.extensions
    ∷ []

-- the slots of operations, path items and callbacks
abbrev pub operation_slots : Operation → List Slot
operation_slots = record_slots operation operation_fields

abbrev pub path_item_slots : PathItem → List Slot
path_item_slots = record_slots path_item path_item_fields

abbrev pub callback_slots : Callback → List Slot
callback_slots = record_slots callback_object callback_fields
