-- The component to which a reference leads.
use Rattle.std.specs.Prelude.{ℕ, zero, suc, List, length, string_bytes, Option, Some, None, option_and_then}
use Rattle.openapi_map.specs.Entries.{Entries, get}
use Rattle.openapi_documents.specs.declared.components.Components.{Components}
use Rattle.openapi_pointer.specs.Components.{component_name}
use Rattle.openapi_resolve.specs.Sections.{Section}
use Rattle.openapi_values.specs.declared.reference.ReferenceOr.{ReferenceOr}
use Rattle.openapi_values.specs.declared.reference.ReferenceOr.TheVariants.{Reference, Item}

module _ {X : Type 0} where
  -- what a reference leads to in one step, among the components of a section
  abbrev pub target : List ℕ → Entries (ReferenceOr X) → List ℕ → Option (ReferenceOr X)
  target section es reference = option_and_then (λ name. get name es) (component_name section reference)

  -- the item, or what `f` returns for the text of the reference in its place
  abbrev pub item_or : (List ℕ → Option X) → ReferenceOr X → Option X
  item_or f (Item x) = Some x
  item_or f (Reference r) = f (string_bytes r)

  -- the item to which a reference leads in at most the given number of steps
  abbrev pub followed : ℕ → List ℕ → Entries (ReferenceOr X) → List ℕ → Option X
  followed zero section es reference = None
  followed (suc n) section es reference = option_and_then (item_or (followed n section es)) (target section es reference)

  -- The item to which a chain of references leads. It is enough to follow one reference more than there are components. A
  -- longer chain has two references that lead to the same component, so it never ends.
  abbrev pub resolved : List ℕ → Entries (ReferenceOr X) → List ℕ → Option X
  resolved section es reference = followed (suc (length es)) section es reference

  -- the same in a section of a document, if the document has components
  abbrev pub component_of : Section X → Option Components → List ℕ → Option X
  component_of s None reference = None
  component_of s (Some c) reference = resolved s.name (s.entries c) reference
