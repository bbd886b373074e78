-- Nodes and the data that `serde_json` reads and writes.
use Rattle.std.specs.Prelude.{◌≡◌, [], ◌∷◌, Option, Some, option_and_then, false, Float}
use Rattle.serde_json.specs.Data as json
use Rattle.serde_json.specs.Data.{Data, Num, unsigned, negative, float, put}
use Rattle.serde_json.specs.Find.{get, at, of_integer}
use Rattle.serde_json.specs.Written.{has_float}
use Rattle.std.specs.Prelude.{pos}
use Rattle.openapi_node.specs.Fault.{place_of}
use Rattle.openapi_node.specs.Place.{Place, named, indexed}
use Rattle.openapi_node.specs.Tree.{Tree, null, flag, whole, text, list, object, Items, no_items, item, Members}
use Rattle.openapi_node.specs.Tree.{no_members, member}
use Rattle.openapi_node.specs.declared.fault.Cause.TheVariants.{NotWhole}
use Rattle.openapi_node.specs.declared.fault.Fault.{Fault}

-- the node of a number that is whole. For a float, which no node holds, it is null
abbrev pub number_tree : Num → Tree
number_tree (unsigned n) = whole (pos n)
number_tree (negative z) = whole z
number_tree (float x) = null

-- the node of data without floats: the members stay in their order
abbrev mutual
  pub tree_of_data : Data → Tree
  tree_of_data json.null = null
  tree_of_data (json.boolean b) = flag b
  tree_of_data (json.number n) = number_tree n
  tree_of_data (json.string s) = text s
  tree_of_data (json.array ds) = list (items_of_data ds)
  tree_of_data (json.object ms) = object (members_of_data ms)

  pub items_of_data : json.Items → Items
  items_of_data json.no_items = no_items
  items_of_data (json.item d ds) = item (tree_of_data d) (items_of_data ds)

  pub members_of_data : json.Members → Members
  members_of_data json.no_members = no_members
  members_of_data (json.member k d ms) = member k (tree_of_data d) (members_of_data ms)

-- the data of a node: the members are sorted by name, and the last value of a repeated name is used
abbrev mutual
  pub data_of : Tree → Data
  data_of null = json.null
  data_of (flag b) = json.boolean b
  data_of (whole z) = json.number (of_integer z)
  data_of (text s) = json.string s
  data_of (list ts) = json.array (items_data ts)
  data_of (object ms) = json.object (members_data ms json.no_members)

  pub items_data : Items → json.Items
  items_data no_items = json.no_items
  items_data (item t ts) = json.item (data_of t) (items_data ts)

  pub members_data : Members → json.Members → json.Members
  members_data no_members ds = ds
  members_data (member k t ms) ds = members_data ms (put k (data_of t) ds)

-- the node holds what the data holds, and no number of the data is a float
pub record IsTreeOf (d : Data) (t : Tree) : Type 0 where
  pub whole_numbers : has_float d ≡ false
  pub same : t ≡ tree_of_data d

-- the value at a location of data, if there is one
abbrev pub data_at : Place → Data → Option Data
data_at [] d = Some d
data_at (named k ∷ p) d = option_and_then (data_at p) (get k d)
data_at (indexed i ∷ p) d = option_and_then (data_at p) (at i d)

-- the fault has the cause `NotWhole`, at the location of a number that is a float, and so is read as no integer of 64 bits
pub record IsNotWhole (d : Data) (f : Fault) : Type 0 where
  pub cause : f.cause ≡ NotWhole
  pub number : Float
  pub there : data_at (place_of f) d ≡ Some (json.number (float number))
