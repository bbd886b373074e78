-- The numbers of a JSON value that a node cannot hold, each with its location.
use Rattle.std.specs.Prelude.{◌≡◌, ℕ, ◌+◌, cond, List, [], ◌∷◌, ◌++◌, Some, map, string_bytes}
use Rattle.std.specs.Global.{Vec}
use Rattle.std.specs.Str.{IsUtf8}
use Rattle.json.specs.Json as json
use Rattle.serde_json.specs.Data.{Data}
use Rattle.serde_json.specs.Read.{read}
use Rattle.openapi_map.specs.Entries.{Entries, insert_entry}
use Rattle.openapi_node.specs.Fault.{step_of}
use Rattle.openapi_node.specs.Place.{Place, named, indexed}
use Rattle.openapi_node.specs.Tree.{Tree}
use Rattle.openapi_json.specs.Ordered.{IsTreeInOrder, parsed, tree_of, writes_whole}
use Rattle.openapi_json.specs.Reading.{Explains}
use Rattle.openapi_json.specs.declared.fault.JsonFault.{JsonFault}
use Rattle.openapi_json.specs.declared.fault.JsonFault.TheVariants.{NotWhole}
use Rattle.openapi_json.specs.declared.zeros.ReplacedNumber.{ReplacedNumber}

-- a location, and the text of the number there
abbrev pub NumberAt : Type 0
NumberAt = Place × List ℕ

-- the number with this text at a location, unless it is whole
abbrev pub unless_whole : Place → List ℕ → List NumberAt
unless_whole p s = cond (writes_whole s) [] ((p, s) ∷ [])

-- the numbers of all members of an object
abbrev pub of_all : Entries (List NumberAt) → List NumberAt
of_all [] = []
of_all (e ∷ es) = e.1 ++ of_all es

-- The numbers that are not whole, in the value at a location, in the order of the values of its node. If a name is repeated,
-- the numbers of its last value count, at the position of the first one.
abbrev mutual
  pub numbers_in : Place → json.Json → List NumberAt
  numbers_in p json.null = []
  numbers_in p (json.boolean b) = []
  numbers_in p (json.number s) = unless_whole p s
  numbers_in p (json.string s) = []
  numbers_in p (json.array js) = numbers_in_items p 0 js
  numbers_in p (json.object ms) = of_all (numbers_in_members p ms [])

  -- those in the items of an array, with indexes counted from `i`
  pub numbers_in_items : Place → ℕ → json.Items → List NumberAt
  numbers_in_items p i json.no_items = []
  numbers_in_items p i (json.item j js) = numbers_in (p ++ indexed i ∷ []) j ++ numbers_in_items p (i + 1) js

  -- those in the values of the members of an object, by name, inserted into those of earlier members
  pub numbers_in_members : Place → json.Members → Entries (List NumberAt) → Entries (List NumberAt)
  numbers_in_members p json.no_members es = es
  numbers_in_members p (json.member k j ms) es =
      numbers_in_members p ms (insert_entry es k (numbers_in (p ++ named k ∷ []) j))

-- the location and the text of a replaced number
abbrev pub replaced_of : ReplacedNumber → NumberAt
replaced_of n = (map step_of n.place.items, string_bytes n.text)

-- The text is JSON in UTF-8. The node is that of its value, with 0 in place of each number that is not whole, and these are
-- those numbers. If there are none, the node is that of the text (`IsTreeInOrder`).
pub record IsTreeWithZeros (text : List ℕ) (t : Tree) (ns : List NumberAt) : Type 0 where
  pub utf8 : IsUtf8 text
  pub value : json.Json
  pub reads : parsed text ≡ Some value
  pub tree : t ≡ tree_of value
  pub numbers : ns ≡ numbers_in [] value
  pub whole : ns ≡ [] → IsTreeInOrder text t

-- why bytes have no such node: they are not UTF-8 or not JSON, or an allocation failed
abbrev pub ExplainsNoTree : List ℕ → JsonFault → Type 0
ExplainsNoTree bytes (NotWhole f) = ⊥
ExplainsNoTree bytes e = Explains bytes e

-- ---- for contracts of private functions

-- `serde_json` reads data from the text, so no number in it is out of the range of a float
abbrev pub HasData : List ℕ → Type 0
HasData text = (d : Data) × (read text ≡ Some d)

-- a name with the replaced numbers found for it, each as its location and text
abbrev pub numbers_of_entry : List ℕ × Vec ReplacedNumber → List ℕ × List NumberAt
numbers_of_entry e = (e.0, map replaced_of e.1.items)
