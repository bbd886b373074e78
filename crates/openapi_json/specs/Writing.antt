-- The tokens that a node is written as, with its members sorted by name or in their order.
use Rattle.std.specs.Prelude.{ℕ, suc, max, ◌≤◌, List, map, ⊤}
use Rattle.std.specs.Borrow.{Bor}
use Rattle.std.specs.List.{AllByRecursion}
use Rattle.json.specs.Token.{Token}
use Rattle.json.specs.Tree.{json_tokens, items_tokens, members_tokens}
use Rattle.serde_json.specs.Data.{Data, null, boolean, number, string, array, object, Items, no_items, item, Members, no_members, member, put}
use Rattle.serde_json.specs.Find.{of_integer}
use Rattle.serde_json.specs.Written.{outline, items_outline, members_outline}
use Rattle.openapi_map.specs.Entries.{Entries}
use Rattle.openapi_node.specs.Json.{data_of, tree_of_data}
use Rattle.openapi_node.specs.Tree as tree
use Rattle.openapi_node.specs.Tree.{Tree, members_of, size_of}
use Rattle.openapi_node.specs.Whole.{IsWhole}
use Rattle.openapi_json.specs.declared.write.Order.{Order}
use Rattle.openapi_json.specs.declared.write.Order.TheVariants.{ByName, AsTheyStand}

-- the tokens of data without floats
abbrev pub data_tokens : Data → List Token
data_tokens d = json_tokens (outline d)

abbrev pub items_data_tokens : Items → List Token
items_data_tokens ds = items_tokens (items_outline ds)

abbrev pub members_data_tokens : Members → List Token
members_data_tokens ms = members_tokens (members_outline ms)

-- the members `found`, with each of the other members put among them by name
abbrev pub put_all : Members → Members → Members
put_all no_members found = found
put_all (member k d ms) found = put_all ms (put k d found)

-- members sorted by name, or in their order
abbrev pub arranged : Order → Members → Members
arranged ByName ms = put_all ms no_members
arranged AsTheyStand ms = ms

-- the data of a node, with the members of each object in an order
abbrev mutual
  pub data_in : Order → Tree → Data
  data_in o tree.null = null
  data_in o (tree.flag b) = boolean b
  data_in o (tree.whole z) = number (of_integer z)
  data_in o (tree.text s) = string s
  data_in o (tree.list ts) = array (items_in o ts)
  data_in o (tree.object ms) = object (arranged o (members_in o ms))

  pub items_in : Order → tree.Items → Items
  items_in o tree.no_items = no_items
  items_in o (tree.item t ts) = item (data_in o t) (items_in o ts)

  -- the members of one object in their order, each with the data of its node in the order `o`
  pub members_in : Order → tree.Members → Members
  members_in o tree.no_members = no_members
  members_in o (tree.member k t ms) = member k (data_in o t) (members_in o ms)

-- the data of a node, with the members of each object in their order
abbrev pub data_in_order : Tree → Data
data_in_order t = data_in AsTheyStand t

-- the node with the members of each object sorted by name
abbrev pub tree_by_name : Tree → Tree
tree_by_name t = tree_of_data (data_of t)

-- entries as members in their order, each with the data of its node
abbrev pub standing : Order → Entries Tree → Members
standing o es = members_in o (members_of es)

-- the entries of borrowed names and nodes
abbrev pub lent : List (Bor (List ℕ) × Bor Tree) → Entries Tree
lent es = map (λ e. (e.0.now, e.1.now)) es

-- no node has more than `s` values
abbrev pub AllFit : ℕ → Entries Tree → Type 0
AllFit s es = AllByRecursion (λ e. size_of e.1 ≤ s) es

-- how deep lists and objects nest in a node
abbrev mutual
  pub nesting : Tree → ℕ
  nesting tree.null = 0
  nesting (tree.flag b) = 0
  nesting (tree.whole z) = 0
  nesting (tree.text s) = 0
  nesting (tree.list ts) = suc (items_nesting ts)
  nesting (tree.object ms) = suc (members_nesting ms)

  pub items_nesting : tree.Items → ℕ
  items_nesting tree.no_items = 0
  items_nesting (tree.item t ts) = max (nesting t) (items_nesting ts)

  pub members_nesting : tree.Members → ℕ
  members_nesting tree.no_members = 0
  members_nesting (tree.member k t ms) = max (nesting t) (members_nesting ms)

-- for contracts of private functions: each whole number of a node fits an `i64` or a `u64`
abbrev mutual
  pub AreWhole : Tree → Type 0
  AreWhole tree.null = ⊤
  AreWhole (tree.flag b) = ⊤
  AreWhole (tree.whole z) = IsWhole z
  AreWhole (tree.text s) = ⊤
  AreWhole (tree.list ts) = ItemsAreWhole ts
  AreWhole (tree.object ms) = MembersAreWhole ms

  pub ItemsAreWhole : tree.Items → Type 0
  ItemsAreWhole tree.no_items = ⊤
  ItemsAreWhole (tree.item t ts) = AreWhole t × ItemsAreWhole ts

  pub MembersAreWhole : tree.Members → Type 0
  MembersAreWhole tree.no_members = ⊤
  MembersAreWhole (tree.member k t ms) = AreWhole t × MembersAreWhole ms
