-- The node that a JSON text is read as with members in the order of the text, in relation to the data with members by name.
use Rattle.std.specs.Prelude.{◌≡◌, ℕ, pos, List, [], ◌∷◌, cond, Bool, ◌&&◌, true, false, Option, Some, None, option_map, option_and_then}
use Rattle.std.specs.Str.{bytes_eq, IsUtf8}
use Rattle.json.specs.Json as json
use Rattle.json.specs.Lex.{tokens}
use Rattle.serde_json.specs.Data.{Data, Num, unsigned, negative, float, null, boolean, number, string, array, object, Items, no_items, item, Members, no_members, member, put}
use Rattle.serde_json.specs.Read.{max_depth, number_of, read}
use Rattle.openapi_map.specs.Entries.{Entries, insert_entry}
use Rattle.openapi_node.specs.Json.{IsTreeOf, number_tree}
use Rattle.openapi_node.specs.Tree as tree
use Rattle.openapi_node.specs.Tree.{Tree, items_of, members_of}

-- the members with the value `d` at the name `k`: it replaces the first value of that name, or is last if there is none
abbrev pub put_in_place : List ℕ → Data → Members → Members
put_in_place k d no_members = member k d no_members
put_in_place k d (member l e ms) = cond (bytes_eq k l) (member l d ms) (member l e (put_in_place k d ms))

-- The data of a JSON value in the order of the text. If a name is repeated, its last value is used, at the position of the
-- first one.
abbrev mutual
  pub in_order : json.Json → Option Data
  in_order json.null = Some null
  in_order (json.boolean b) = Some (boolean b)
  in_order (json.number s) = option_map number (number_of s)
  in_order (json.string s) = Some (string s)
  in_order (json.array js) = option_map array (items_in_order js)
  in_order (json.object ms) = option_map object (members_in_order ms no_members)

  pub items_in_order : json.Items → Option Items
  items_in_order json.no_items = Some no_items
  items_in_order (json.item j js) = option_and_then (λ d. option_map (item d) (items_in_order js)) (in_order j)

  pub members_in_order : json.Members → Members → Option Members
  members_in_order json.no_members found = Some found
  members_in_order (json.member k j ms) found =
      option_and_then (λ d. members_in_order ms (put_in_place k d found)) (in_order j)

-- the data with the members of each object in the order of their names
abbrev mutual
  pub by_name : Data → Data
  by_name null = null
  by_name (boolean b) = boolean b
  by_name (number n) = number n
  by_name (string s) = string s
  by_name (array ds) = array (items_by_name ds)
  by_name (object ms) = object (members_by_name ms no_members)

  pub items_by_name : Items → Items
  items_by_name no_items = no_items
  items_by_name (item d ds) = item (by_name d) (items_by_name ds)

  pub members_by_name : Members → Members → Members
  members_by_name no_members found = found
  members_by_name (member k d ms) found = members_by_name ms (put k (by_name d) found)

-- the JSON value that the grammar reads from a whole text, if it reads one
abbrev pub parsed : List ℕ → Option json.Json
parsed text = option_and_then (λ p. json.if_last p.0 p.1) (json.value max_depth (tokens text))

-- The text is JSON in UTF-8 whose numbers are whole, and the node is that of its data in the order of the text. Reading the
-- text by name gives the same data with the members sorted by name.
pub record IsTreeInOrder (text : List ℕ) (t : Tree) : Type 0 where
  pub utf8 : IsUtf8 text
  pub value : Data
  pub reads : option_and_then in_order (parsed text) ≡ Some value
  pub is : IsTreeOf value t
  pub sorted : read text ≡ Some (by_name value)

-- ---- nodes of values whose numbers may not be whole

-- the node of a number if it is whole, and the node of 0 otherwise
abbrev pub tree_or_zero : Num → Tree
tree_or_zero (float x) = tree.whole (pos 0)
tree_or_zero n = number_tree n

-- the same where there may be no number: the node of 0 if there is none
abbrev pub tree_of_any : Option Num → Tree
tree_of_any None = tree.whole (pos 0)
tree_of_any (Some n) = tree_or_zero n

-- the node of a number by its text
abbrev pub tree_of_number : List ℕ → Tree
tree_of_number s = tree_of_any (number_of s)

abbrev pub is_whole : Num → Bool
is_whole (unsigned n) = true
is_whole (negative z) = true
is_whole (float x) = false

-- whether there is a number and it is whole
abbrev pub holds_whole : Option Num → Bool
holds_whole None = false
holds_whole (Some n) = is_whole n

-- whether the text of a number is that of a whole number
abbrev pub writes_whole : List ℕ → Bool
writes_whole s = holds_whole (number_of s)

-- The node of a JSON value, with 0 in place of each number that is not whole. If a name is repeated, its last value is used,
-- at the position of the first one.
abbrev mutual
  pub tree_of : json.Json → Tree
  tree_of json.null = tree.null
  tree_of (json.boolean b) = tree.flag b
  tree_of (json.number s) = tree_of_number s
  tree_of (json.string s) = tree.text s
  tree_of (json.array js) = tree.list (items_of (trees_of js))
  tree_of (json.object ms) = tree.object (members_of (entries_of ms []))

  pub trees_of : json.Items → List Tree
  trees_of json.no_items = []
  trees_of (json.item j js) = tree_of j ∷ trees_of js

  pub entries_of : json.Members → Entries Tree → Entries Tree
  entries_of json.no_members es = es
  entries_of (json.member k j ms) es = entries_of ms (insert_entry es k (tree_of j))

-- whether all numbers in a JSON value are whole
abbrev mutual
  pub all_whole : json.Json → Bool
  all_whole json.null = true
  all_whole (json.boolean b) = true
  all_whole (json.number s) = writes_whole s
  all_whole (json.string s) = true
  all_whole (json.array js) = items_whole js
  all_whole (json.object ms) = members_whole ms

  pub items_whole : json.Items → Bool
  items_whole json.no_items = true
  items_whole (json.item j js) = all_whole j && items_whole js

  pub members_whole : json.Members → Bool
  members_whole json.no_members = true
  members_whole (json.member k j ms) = all_whole j && members_whole ms
