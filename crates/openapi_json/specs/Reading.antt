-- The node read from the tokens of a JSON text, in terms of the grammar of JSON and of the data that `serde_json` gives for
-- what that grammar reads.
use Rattle.std.specs.Prelude.{◌≡◌, ℕ, List, [], ◌∷◌, false, map, Option, Some, None}
use Rattle.std.specs.Str.{IsUtf8}
use Rattle.json.specs.Json as json
use Rattle.json.specs.Token.{Token}
use Rattle.serde_json.specs.Data.{Data, Members, no_members, member}
use Rattle.serde_json.specs.Read.{of_json, of_items, of_members, read}
use Rattle.serde_json.specs.View as views
use Rattle.serde_json.specs.Written.{items_have_float, members_have_float}
use Rattle.openapi_json.specs.declared.fault.JsonFault.{JsonFault}
use Rattle.openapi_json.specs.declared.fault.JsonFault.TheVariants.{NotJson, NotWhole, Memory}
use Rattle.openapi_map.specs.Entries.{Entries}
use Rattle.openapi_node.specs.Json.{IsNotWhole, IsTreeOf, tree_of_data}
use Rattle.openapi_node.specs.Tree.{Tree}

-- a name beside the data of its value
abbrev pub Pair : Type 0
Pair = List ℕ × Data

-- the name beside the node of that data
abbrev pub tree_pair : Pair → List ℕ × Tree
tree_pair p = (p.0, tree_of_data p.1)

-- the members with these names and data
abbrev pub pairs_data : List Pair → Members
pairs_data [] = no_members
pairs_data (p ∷ ps) = member p.0 p.1 (pairs_data ps)

-- The grammar read a value and left the rest of the tokens. The node is that of the value's data, which has no float.
pub record ReadsTree (parsed : Option (json.Json × List Token)) (t : Tree) (rest : List Token) : Type 0 where
  pub json : json.Json
  pub reads : parsed ≡ Some (json, rest)
  pub value : Data
  pub converts : of_json json ≡ Some value
  pub is : IsTreeOf value t

-- The same for the items of an array.
pub record ReadsItems (parsed : Option (json.Items × List Token)) (ts : List Tree) (rest : List Token) : Type 0 where
  pub json : json.Items
  pub reads : parsed ≡ Some (json, rest)
  pub values : List Data
  pub converts : of_items json ≡ Some (views.items_of values)
  pub whole : items_have_float (views.items_of values) ≡ false
  pub same : ts ≡ map tree_of_data values

-- The same for the members of an object, by their names.
pub record ReadsMembers (parsed : Option (json.Members × List Token)) (es : Entries Tree) (rest : List Token) : Type 0 where
  pub json : json.Members
  pub reads : parsed ≡ Some (json, rest)
  pub pairs : List Pair
  pub converts : of_members json no_members ≡ Some (pairs_data pairs)
  pub whole : members_have_float (pairs_data pairs) ≡ false
  pub same : es ≡ map tree_pair pairs

-- The text is JSON in UTF-8 whose numbers are whole, and the node is that of its data.
pub record IsTreeOfText (text : List ℕ) (t : Tree) : Type 0 where
  pub utf8 : IsUtf8 text
  pub value : Data
  pub reads : read text ≡ Some value
  pub is : IsTreeOf value t

-- why bytes were not read: they are not UTF-8 or not JSON; or they are both, and a number of their data is not whole; or an
-- allocation failed
abbrev pub Explains : List ℕ → JsonFault → Type 0
Explains bytes NotJson = IsUtf8 bytes → read bytes ≡ None
Explains bytes (NotWhole f) = IsUtf8 bytes × (d : Data) × (read bytes ≡ Some d) × IsNotWhole d f
Explains bytes Memory = Unit {0}
