-- Nodes whose objects have no name twice.
use Rattle.std.specs.Prelude.{ℕ, Bool, true, not, ◌&&◌, List}
use Rattle.std.specs.Str.{bytes_eq}
use Rattle.openapi_node.specs.Tree.{Tree, list, object, Items, no_items, item, Members}
use Rattle.openapi_node.specs.Tree.{no_members, member}

-- whether no member has the name
abbrev pub lacks : List ℕ → Members → Bool
lacks name no_members = true
lacks name (member k t ms) = not (bytes_eq name k) && lacks name ms

-- whether each object of a node, at every depth, has members of distinct names
abbrev mutual
  pub well_named : Tree → Bool
  well_named (list ts) = items_named ts
  well_named (object ms) = members_named ms
  well_named t = true

  pub items_named : Items → Bool
  items_named no_items = true
  items_named (item t ts) = well_named t && items_named ts

  pub members_named : Members → Bool
  members_named no_members = true
  members_named (member k t ms) = lacks k ms && (well_named t && members_named ms)
