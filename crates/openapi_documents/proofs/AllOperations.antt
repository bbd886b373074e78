-- The operations of a document, and their forms.
use Rattle.std.proofs.Common.{◌≡◌, ℕ, List, [], ◌∷◌, refl, ap, ◌∙◌}
use Rattle.openapi_map.specs.Entries.{Entries}
use Rattle.openapi_tables.specs.Prelude.{name, named_of, join, pairs_of}
use Rattle.openapi_tables.specs.Operations.{at_path, ops, ops_of_item, ops_of_paths}
use Rattle.openapi_values.specs.Reference.{reference_form}
use Rattle.openapi_values.specs.declared.reference.ReferenceOr.{ReferenceOr}
use Rattle.openapi_values.specs.declared.reference.ReferenceOr.TheVariants as v
use Rattle.openapi_documents.specs.OperationForms.{operation_form, path_item_form}
use Rattle.openapi_documents.specs.Present.{forms_under, present_operations}
use Rattle.openapi_documents.specs.declared.operation.Operation.{Operation}
use Rattle.openapi_documents.specs.declared.path_item.PathItem.{PathItem}
use Rattle.openapi_documents.proofs.PresentForms.{present_forms}
use Rattle.openapi_documents.specs.AllOperations.{Placed, document_operations, operations_at, operations_under}
use Rattle.openapi_documents.specs.AllOperations.{placed_forms, under_path}
use Rattle.openapi_documents.specs.Documents.{document_form}
use Rattle.openapi_documents.specs.declared.open_api.OpenAPI.{OpenAPI}

placed_join : (xs ys : List Placed) → placed_forms (join xs ys) ≡ join (placed_forms xs) (placed_forms ys)
placed_join [] ys = refl
placed_join (x ∷ xs) ys = ap (λ l. record { path = x.0; method = x.1.0; value = operation_form x.1.1 } ∷ l)
    (placed_join xs ys)

forms_at : (p : List ℕ) (es : Entries Operation)
    → placed_forms (under_path p es) ≡ at_path p (forms_under operation_form es)
forms_at p [] = refl
forms_at p (e ∷ es) = ap (λ l. record { path = p; method = e.0; value = operation_form e.1 } ∷ l) (forms_at p es)

forms_of_item : (p : List ℕ) (x : ReferenceOr PathItem)
    → placed_forms (operations_at p x) ≡ ops_of_item (name p) (reference_form path_item_form x)
forms_of_item p (v.Reference r) = refl
forms_of_item p (v.Item x) = forms_at p (present_operations x) ∙ ap (at_path p) (present_forms x)

forms_under_paths : (es : Entries (ReferenceOr PathItem))
    → placed_forms (operations_under es) ≡ ops_of_paths (named_of (pairs_of (reference_form path_item_form) es))
forms_under_paths [] = refl
forms_under_paths (e ∷ es) =
    placed_join (operations_at e.0 e.1) (operations_under es)
    ∙ (λ i. join (forms_of_item e.0 e.1 i) (forms_under_paths es i))

-- the operations of a document have the forms of the operations that its form holds
pub document_forms : (x : OpenAPI) → placed_forms (document_operations x) ≡ ops (document_form x)
document_forms x = forms_under_paths x.paths.paths
