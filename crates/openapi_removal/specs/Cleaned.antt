-- What is returned for a document: its text without the members that reading drops.
use Rattle.std.specs.Prelude.{◌≡◌, ℕ, List, [], Some, map, string_bytes}
use Rattle.std.specs.Str.{IsUtf8}
use Rattle.json.specs.Json.{Json}
use Rattle.openapi_node.specs.Fault.{step_of}
use Rattle.openapi_node.specs.Place.{Place}
use Rattle.openapi_node.specs.Tree.{Tree}
use Rattle.openapi_json.specs.Ordered.{parsed, tree_of}
use Rattle.openapi_tables.specs.Kind.{by, open_api}
use Rattle.openapi_faults.specs.Dropped.{dropped_in, dropped_of}
use Rattle.openapi_faults.specs.Laws.{CountsForNothing, dropped_places}
use Rattle.openapi_faults.specs.declared.dropped.Dropped.{Dropped}
use Rattle.openapi_removal.specs.Cut.{cut}
use Rattle.openapi_removal.specs.Without.{json_without}
use Rattle.openapi_removal.specs.declared.removal.Cleaned.{Cleaned}

-- a JSON value without the members that reading it as a document drops
abbrev pub cleaned : Json → Json
cleaned j = json_without (dropped_places (by open_api) (tree_of j)) j

-- a text is another one with some ranges of its bytes left out
pub record IsCut (source text : List ℕ) : Type 0 where
  pub gaps : List (ℕ × ℕ)
  pub is : text ≡ cut gaps source

-- The source is JSON in UTF-8. The reported members are those that reading it as a document drops. The text reads as the
-- value of the source without these members, and is the source with some ranges of its bytes left out. Without them the
-- document has the same form, conforms if and only if it did before, and nothing more is dropped. If there are none, the
-- text is the source.
pub record IsWithoutDropped (source : List ℕ) (c : Cleaned) : Type 0 where
  pub utf8 : IsUtf8 source
  pub value : Json
  pub reads : parsed source ≡ Some value
  pub dropped : map dropped_of c.dropped.items ≡ dropped_in (by open_api) (tree_of value)
  pub text : parsed (string_bytes c.text) ≡ Some (cleaned value)
  pub cut : IsCut source (string_bytes c.text)
  pub ignored : CountsForNothing (by open_api) (tree_of value) (tree_of (cleaned value))
  pub unchanged : c.dropped.items ≡ [] → string_bytes c.text ≡ source

-- ---- for private clauses

-- the text is JSON in UTF-8, and the node is that of its value, with 0 in place of each number that is not whole
pub record IsTreeOfText (source : List ℕ) (t : Tree) : Type 0 where
  pub utf8 : IsUtf8 source
  pub value : Json
  pub reads : parsed source ≡ Some value
  pub tree : t ≡ tree_of value

-- the locations of members
abbrev pub places_in : List Dropped → List Place
places_in ds = map (λ d. map step_of d.place.items) ds
