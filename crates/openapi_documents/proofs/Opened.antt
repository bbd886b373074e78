-- The forms of operations, path items and callbacks, by the forms of their fields.
use Rattle.std.proofs.Common.{◌≡◌, List, [], ◌∷◌, Option, Some, None, Result, refl, sym, ap, ◌∙◌, subst, string_bytes}
use Rattle.openapi_map.specs.Entries.{Entries}
use Rattle.openapi_node.specs.Tree.{Tree, Members, object}
use Rattle.openapi_node.specs.declared.fault.Fault.{Fault}
use Rattle.openapi_tables.specs.Prelude.{Form, an_item, name, named, named_of, reference, by, callback_object}
use Rattle.openapi_tables.specs.Prelude.{operation, path_item, final_tables, AreRows, pairs_of}
use Rattle.openapi_values.specs.Reference.{reference_form}
use Rattle.openapi_values.specs.declared.reference.ReferenceOr.{ReferenceOr}
use Rattle.openapi_values.specs.declared.reference.ReferenceOr.TheVariants as r
use Rattle.openapi_fields.specs.Forms.{text_form, flag_form, optional_form, list_form, map_form, extensions_form}
use Rattle.openapi_fields.specs.Forms.{record_form}
use Rattle.openapi_fields.specs.Returned.{ReadAs, RowsReadAs}
use Rattle.openapi_fields.proofs.EntryReading.{table_read}
use Rattle.openapi_security.specs.Schemes.{security_requirement_form}
use Rattle.openapi_media_types.specs.ContentForms.{of_rows}
use Rattle.openapi_responses.specs.Messages.{responses_rows}
use Rattle.openapi_documents.specs.Fields.{callback_fields, operation_fields, path_item_fields}
use Rattle.openapi_documents.specs.OperationForms.{body_ref_form, callback_form, callback_rows, callback_step}
use Rattle.openapi_documents.specs.OperationForms.{docs_form, operation_form, operation_rows, operation_step}
use Rattle.openapi_documents.specs.OperationForms.{parameter_ref_form, path_item_form, path_item_rows, path_item_step}
use Rattle.openapi_documents.specs.OperationForms.{server_form}
use Rattle.openapi_documents.specs.declared.callback.Callback.{Callback, out-Callback, roll-Callback}
use Rattle.openapi_documents.specs.declared.operation.Operation.{Operation, out-Operation, roll-Operation}
use Rattle.openapi_documents.specs.declared.path_item.PathItem.{PathItem, out-PathItem, roll-PathItem}
use Rattle.openapi_documents.specs.declared.callback.Callback.TheBlock.{the_data, the_data-1, the_data-2}
use Rattle.openapi_documents.specs.declared.callback.Callback.TheFolds.{fold-roll-Callback, fold-roll-Operation}
use Rattle.openapi_documents.specs.declared.callback.Callback.TheFolds.{fold-roll-PathItem, fold_out-Callback}
use Rattle.openapi_documents.specs.declared.callback.Callback.TheFolds.{fold_out-Operation, fold_out-PathItem}
use Rattle.openapi_documents.specs.declared.callback.Callback.TheFolds.{map-Callback, map-Operation, map-PathItem}
use Rattle.openapi_documents.specs.declared.callback.Callback.TheOpen.{Callback-F, Operation-F, PathItem-F}

-- one level of each type, and the same with the values inside replaced with their forms
abbrev pub ACallback : Type 0
ACallback = Callback-F the_data the_data-1 the_data-2

abbrev pub AnOperation : Type 0
AnOperation = Operation-F the_data the_data-1 the_data-2

abbrev pub APathItem : Type 0
APathItem = PathItem-F the_data the_data-1 the_data-2

abbrev callback_level : ACallback → Callback-F (List Form) (List Form) (List Form)
callback_level d = map-Callback the_data the_data-1 the_data-2 (List Form) (List Form) (List Form) callback_rows
    operation_rows path_item_rows d

abbrev operation_level : AnOperation → Operation-F (List Form) (List Form) (List Form)
operation_level d = map-Operation the_data the_data-1 the_data-2 (List Form) (List Form) (List Form) callback_rows
    operation_rows path_item_rows d

abbrev path_item_level : APathItem → PathItem-F (List Form) (List Form) (List Form)
path_item_level d = map-PathItem the_data the_data-1 the_data-2 (List Form) (List Form) (List Form) callback_rows
    operation_rows path_item_rows d

-- a callback by its fields
abbrev callback_parts : ACallback → List Form
callback_parts d =
    map_form path_item_form d.paths
    ∷ extensions_form d.extensions
    ∷ []

requests_level : (d : ACallback) (es : Entries PathItem)
    → pairs_of of_rows (callback_level (record d { paths = es })).paths ≡ pairs_of path_item_form es
requests_level d [] = refl
requests_level d ((n, x) ∷ es) =
    ap (λ l. record { key = name n; value = path_item_form x } ∷ l) (requests_level d es)

callback_step-level : (d : ACallback) → callback_step (callback_level d) ≡ callback_parts d
callback_step-level d = λ i. named (named_of (requests_level d d.paths i)) ∷ extensions_form d.extensions ∷ []

-- the forms that the fold gives for a callback are those of its fields
pub callback_rows-out : (x : Callback) → callback_rows x ≡ callback_fields x
callback_rows-out x =
    fold_out-Callback (List Form) (List Form) (List Form) callback_step operation_step path_item_step x
    ∙ callback_step-level (out-Callback x)

-- what is read as the fields of one level is read as those of the callback that is made of it
pub callback_read : (d : ACallback) (ms : Members)
    → AreRows final_tables (final_tables callback_object) (callback_parts d) ms
    → AreRows final_tables (final_tables callback_object) (callback_fields (roll-Callback d)) ms
callback_read d ms h =
    subst (λ fs. AreRows final_tables (final_tables callback_object) fs ms)
    (sym (fold-roll-Callback (List Form) (List Form) (List Form) callback_step operation_step path_item_step d
    ∙ callback_step-level d) ∙ callback_rows-out (roll-Callback d)) h

-- an operation by its fields
abbrev operation_parts : AnOperation → List Form
operation_parts d =
    list_form text_form d.tags
    ∷ optional_form text_form d.summary
    ∷ optional_form text_form d.description
    ∷ optional_form docs_form d.external_docs
    ∷ optional_form text_form d.operation_id
    ∷ list_form parameter_ref_form d.parameters
    ∷ optional_form body_ref_form d.request_body
    ∷ record_form responses_rows d.responses
    ∷ map_form (reference_form callback_form) d.callbacks
    ∷ flag_form d.deprecated
    ∷ optional_form (list_form security_requirement_form) d.security
    ∷ list_form server_form d.servers
    ∷ extensions_form d.extensions
    ∷ []

callbacks_level : (d : AnOperation) (es : Entries (ReferenceOr Callback))
    → pairs_of (reference_form of_rows) (operation_level (record d { callbacks = es })).callbacks
    ≡ pairs_of (reference_form callback_form) es
callbacks_level d [] = refl
callbacks_level d ((n, r.Reference s) ∷ es) =
    ap (λ l. record { key = name n; value = reference (string_bytes s) } ∷ l) (callbacks_level d es)
callbacks_level d ((n, r.Item x) ∷ es) =
    ap (λ l. record { key = name n; value = an_item (callback_form x) } ∷ l) (callbacks_level d es)

operation_step-level : (d : AnOperation) → operation_step (operation_level d) ≡ operation_parts d
operation_step-level d =
    (λ i. list_form text_form d.tags ∷ optional_form text_form d.summary ∷ optional_form text_form d.description
    ∷ optional_form docs_form d.external_docs ∷ optional_form text_form d.operation_id
    ∷ list_form parameter_ref_form d.parameters ∷ optional_form body_ref_form d.request_body
    ∷ record_form responses_rows d.responses ∷ named (named_of (callbacks_level d d.callbacks i))
    ∷ flag_form d.deprecated ∷ optional_form (list_form security_requirement_form) d.security
    ∷ list_form server_form d.servers ∷ extensions_form d.extensions ∷ [])

-- the forms that the fold gives for an operation are those of its fields
pub operation_rows-out : (x : Operation) → operation_rows x ≡ operation_fields x
operation_rows-out x =
    fold_out-Operation (List Form) (List Form) (List Form) callback_step operation_step path_item_step x
    ∙ operation_step-level (out-Operation x)

-- an operation that is made of one level has the forms of the fields of that level
pub operation_fields-roll : (d : AnOperation) → operation_fields (roll-Operation d) ≡ operation_parts d
operation_fields-roll d =
    sym (operation_rows-out (roll-Operation d))
    ∙ fold-roll-Operation (List Form) (List Form) (List Form) callback_step operation_step path_item_step d
    ∙ operation_step-level d

-- a path item by its fields
abbrev path_item_parts : APathItem → List Form
path_item_parts d =
    optional_form text_form d.summary
    ∷ optional_form text_form d.description
    ∷ optional_form operation_form d.get
    ∷ optional_form operation_form d.put
    ∷ optional_form operation_form d.post
    ∷ optional_form operation_form d.delete
    ∷ optional_form operation_form d.options
    ∷ optional_form operation_form d.head
    ∷ optional_form operation_form d.patch
    ∷ optional_form operation_form d.trace
    ∷ list_form server_form d.servers
    ∷ list_form parameter_ref_form d.parameters
    ∷ extensions_form d.extensions
    ∷ []

-- the operation under a method
method_level : (d : APathItem) (o : Option Operation)
    → optional_form of_rows (path_item_level (record d { get = o })).get ≡ optional_form operation_form o
method_level d None = refl
method_level d (Some x) = refl

path_item_step-level : (d : APathItem) → path_item_step (path_item_level d) ≡ path_item_parts d
path_item_step-level d =
    (λ i. optional_form text_form d.summary ∷ optional_form text_form d.description ∷ method_level d d.get i
    ∷ method_level d d.put i ∷ method_level d d.post i ∷ method_level d d.delete i ∷ method_level d d.options i
    ∷ method_level d d.head i ∷ method_level d d.patch i ∷ method_level d d.trace i ∷ list_form server_form d.servers
    ∷ list_form parameter_ref_form d.parameters ∷ extensions_form d.extensions ∷ [])

-- the forms that the fold gives for a path item are those of its fields
pub path_item_rows-out : (x : PathItem) → path_item_rows x ≡ path_item_fields x
path_item_rows-out x =
    fold_out-PathItem (List Form) (List Form) (List Form) callback_step operation_step path_item_step x
    ∙ path_item_step-level (out-PathItem x)

-- a path item that is made of one level has the forms of the fields of that level
pub path_item_fields-roll : (d : APathItem) → path_item_fields (roll-PathItem d) ≡ path_item_parts d
path_item_fields-roll d =
    sym (path_item_rows-out (roll-PathItem d))
    ∙ fold-roll-PathItem (List Form) (List Form) (List Form) callback_step operation_step path_item_step d
    ∙ path_item_step-level d

-- what is read as the fields of one level is read as those of the operation that is made of it
pub operation_read : (d : AnOperation) (ms : Members)
    → AreRows final_tables (final_tables operation) (operation_parts d) ms
    → AreRows final_tables (final_tables operation) (operation_fields (roll-Operation d)) ms
operation_read d ms h =
    subst (λ fs. AreRows final_tables (final_tables operation) fs ms) (sym (operation_fields-roll d)) h

-- what is read as the fields of one level is read as those of the path item that is made of it
pub path_item_read : (d : APathItem) (ms : Members)
    → AreRows final_tables (final_tables path_item) (path_item_parts d) ms
    → AreRows final_tables (final_tables path_item) (path_item_fields (roll-PathItem d)) ms
path_item_read d ms h =
    subst (λ fs. AreRows final_tables (final_tables path_item) fs ms) (sym (path_item_fields-roll d)) h

-- for callbacks, the forms of the fields and those of the fold are one function
pub callback_same : callback_fields ≡ callback_rows
callback_same i x = sym (callback_rows-out x) i

-- for operations, the forms of the fields and those of the fold are one function
pub operation_same : operation_fields ≡ operation_rows
operation_same i x = sym (operation_rows-out x) i

-- for path items, the forms of the fields and those of the fold are one function
pub path_item_same : path_item_fields ≡ path_item_rows
path_item_same i x = sym (path_item_rows-out x) i
