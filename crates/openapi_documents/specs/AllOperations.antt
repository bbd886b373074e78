-- The operations of a document, each with its path and its method, and those that an iterator has not returned yet.
-- Their forms are `ops` of Operations in openapi_tables.
use Rattle.std.specs.Prelude.{ℕ, List, [], ◌∷◌, Option, Some, None}
use Rattle.std.specs.Borrow.{Bor}
use Rattle.openapi_map.specs.Entries.{Entries}
use Rattle.openapi_tables.specs.Lists.{each, join}
use Rattle.openapi_tables.specs.Operations as tables
use Rattle.openapi_values.specs.declared.reference.ReferenceOr.{ReferenceOr}
use Rattle.openapi_values.specs.declared.reference.ReferenceOr.TheVariants as v
use Rattle.openapi_documents.specs.OperationForms.{operation_form}
use Rattle.openapi_documents.specs.Present.{present_operations}
use Rattle.openapi_documents.specs.declared.operation.Operation.{Operation}
use Rattle.openapi_documents.specs.declared.path_item.PathItem.{PathItem}
use Rattle.openapi_documents.specs.declared.open_api.OpenAPI.{OpenAPI}

-- an operation, with its path and its method
abbrev pub Placed : Type 0
Placed = List ℕ × (List ℕ × Operation)

-- operations under one path
abbrev pub under_path : List ℕ → Entries Operation → List Placed
under_path p [] = []
under_path p (e ∷ es) = (p, e) ∷ under_path p es

-- the operations under a path; a reference to a path item gives none
abbrev pub operations_at : List ℕ → ReferenceOr PathItem → List Placed
operations_at p (v.Reference r) = []
operations_at p (v.Item x) = under_path p (present_operations x)

-- the operations of all paths, in the order of the map
abbrev pub operations_under : Entries (ReferenceOr PathItem) → List Placed
operations_under [] = []
operations_under (e ∷ es) = join (operations_at e.0 e.1) (operations_under es)

-- the operations of a document
abbrev pub document_operations : OpenAPI → List Placed
document_operations x = operations_under x.paths.paths

-- the path, the method and the operation that three borrows refer to
abbrev pub lent_operation : Bor (List ℕ) × Bor (List ℕ) × Bor Operation → Placed
lent_operation e = (e.0.now, (e.1.now, e.2.now))

-- the operations under the current path of an iterator that it has not returned yet; none for `None`
abbrev pub left_under : List ℕ → Option (Entries Operation) → List Placed
left_under p None = []
left_under p (Some es) = under_path p es

-- the operations with their paths and methods, each operation replaced with its form
abbrev pub placed_forms : List Placed → List tables.Operation
placed_forms es = each (λ e. record { path = e.0; method = e.1.0; value = operation_form e.1.1 }) es
