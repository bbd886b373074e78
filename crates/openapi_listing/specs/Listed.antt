-- What is listed for a document: its operations and its references, each at its location.
use Rattle.std.specs.Prelude.{◌≡◌, ℕ, true, List, [], ◌∷◌, Option, codes, map, string_bytes}
use Rattle.std.specs.List.{AllZip}
use Rattle.openapi_json.specs.Ordered.{IsTreeInOrder}
use Rattle.openapi_json.specs.Positions.{IsPositionAt}
use Rattle.openapi_json.specs.Zeros.{IsTreeWithZeros, NumberAt}
use Rattle.openapi_json.specs.declared.position.Position.{Position}
use Rattle.openapi_node.specs.Fault.{step_of}
use Rattle.openapi_node.specs.Place.{Place, named}
use Rattle.openapi_node.specs.Tree.{Tree}
use Rattle.openapi_tables.specs.Conforms.{conforms}
use Rattle.openapi_tables.specs.Kind.{by, open_api}
use Rattle.openapi_tables.specs.Lists.{each}
use Rattle.openapi_tables.specs.Operations.{Operation, ops}
use Rattle.openapi_tables.specs.Read.{form}
use Rattle.openapi_tables.specs.Tables.{final_tables}
use Rattle.openapi_faults.specs.References.{reference_of, references_in}
use Rattle.openapi_faults.specs.declared.reference.Reference.{Reference}
use Rattle.openapi_listing.specs.declared.operations.ListedOperation.{ListedOperation}

-- the location of an operation, by its path and its method
abbrev pub place_at : (path method : List ℕ) → Place
place_at path method = named (codes "paths") ∷ named path ∷ named method ∷ []

-- an operation as it is listed: its location, its path and its method
abbrev pub listed_at : (path method : List ℕ) → Place × List ℕ × List ℕ
listed_at path method = (place_at path method, path, method)

abbrev pub stated_of : Operation → Place × List ℕ × List ℕ
stated_of o = listed_at o.path o.method

abbrev pub operation_place : ListedOperation → Place
operation_place o = map step_of o.place.items

abbrev pub listed_of : ListedOperation → Place × List ℕ × List ℕ
listed_of o = (operation_place o, string_bytes o.path, string_bytes o.method)

-- the bytes are the text of a document that conforms, and these are its operations, at these positions
pub record AreOperations (bytes : List ℕ) (os : List ListedOperation) (ps : List (Option Position)) : Type 0 where
  pub tree : Tree
  pub reads : IsTreeInOrder bytes tree
  pub conforms : conforms final_tables (by open_api) tree ≡ true
  pub all : map listed_of os ≡ each stated_of (ops (form final_tables (by open_api) tree))
  pub placed : AllZip (IsPositionAt bytes) (map operation_place os) ps

abbrev pub reference_place : Reference → Place
reference_place r = map step_of r.place.items

-- these are the references of a node that is read as a document, at their positions in a text
pub record AreReferencesOf (tree : Tree) (bytes : List ℕ) (rs : List Reference) (ps : List (Option Position)) : Type 0 where
  pub all : map reference_of rs ≡ references_in (by open_api) tree
  pub placed : AllZip (IsPositionAt bytes) (map reference_place rs) ps

-- The bytes are JSON in UTF-8, and the node is that of their value, with 0 in place of `numbers`, which are not whole.
-- These are the references of the node that is read as a document, at their positions.
pub record AreReferences (bytes : List ℕ) (rs : List Reference) (ps : List (Option Position)) : Type 0 where
  pub tree : Tree
  pub numbers : List NumberAt
  pub reads : IsTreeWithZeros bytes tree numbers
  pub are : AreReferencesOf tree bytes rs ps
