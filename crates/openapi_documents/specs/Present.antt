-- The operations that are present in a path item, each under its method. Their forms are `present_ops` of Operations
-- in openapi_tables.
use Rattle.std.specs.Prelude.{◌≡◌, ℕ, List, [], ◌∷◌, Option, Some, None}
use Rattle.std.specs.Borrow.{Bor}
use Rattle.openapi_map.specs.Entries.{Entries}
use Rattle.openapi_tables.specs.Lists.{each}
use Rattle.openapi_tables.specs.Form.{Form}
use Rattle.openapi_tables.specs.Operations.{methods}
use Rattle.openapi_tables.specs.Tree.{Entry}
use Rattle.openapi_documents.specs.declared.methods.Methods.{Methods}
use Rattle.openapi_documents.specs.declared.operation.Operation.{Operation}
use Rattle.openapi_documents.specs.declared.path_item.PathItem.{PathItem, out-PathItem}

-- the values that are present, each under its name
abbrev pub those_held : {X : Type 0} → List (List ℕ) → List (Option X) → Entries X
those_held [] os = []
those_held (n ∷ ns) [] = []
those_held (n ∷ ns) (None ∷ os) = those_held ns os
those_held (n ∷ ns) (Some x ∷ os) = (n, x) ∷ those_held ns os

-- the optional value of each method, in the order of the methods
abbrev pub under_methods : {X : Type 0} → Methods X → List (Option X)
under_methods m = m.get ∷ m.put ∷ m.post ∷ m.delete ∷ m.options ∷ m.head ∷ m.patch ∷ m.trace ∷ []

-- no method has a value
pub record NoneStands {X : Type 0} (m : Methods X) : Type 0 where
  pub get : m.get ≡ None
  pub put : m.put ≡ None
  pub post : m.post ≡ None
  pub delete : m.delete ≡ None
  pub options : m.options ≡ None
  pub head : m.head ≡ None
  pub patch : m.patch ≡ None
  pub trace : m.trace ≡ None

-- the optional operation of each method of a path item, in the order of the methods
abbrev pub operations_in : PathItem → List (Option Operation)
operations_in x =
    (out-PathItem x).get
    ∷ (out-PathItem x).put
    ∷ (out-PathItem x).post
    ∷ (out-PathItem x).delete
    ∷ (out-PathItem x).options
    ∷ (out-PathItem x).head
    ∷ (out-PathItem x).patch
    ∷ (out-PathItem x).trace
    ∷ []

-- the operations that are present in a path item, each under its method
abbrev pub present_operations : PathItem → Entries Operation
present_operations x = those_held methods (operations_in x)

-- the entries with the values that their borrows refer to
abbrev pub lent : {X : Type 0} → Entries (Bor X) → Entries X
lent es = each (λ e. (e.0, e.1.now)) es

-- a method and the value under it, with the method, a borrow of a constant text, replaced with that text
abbrev pub owned_method : {K X : Type 0} → Bor K × X → K × X
owned_method e = (e.0.now, e.1)

-- the entries with each value replaced with its form
abbrev pub forms_under : {X : Type 0} → (X → Form) → Entries X → List (Entry Form)
forms_under view es = each (λ e. record { name = e.0; value = view e.1 }) es
