use Rattle.std.proofs.Common.{◌≡◌, ◌+◌, ◌*◌, take, map}
use Rattle.serde_json.specs.View.{view}
use Rattle.openapi_node.specs.Json.{data_of}
use Rattle.openapi_node.specs.Pairs.{pair_view, pair_data}
use Rattle.openapi_node.specs.Tree.{size_of, items_size, members_size, items_of, members_of}
use Rattle.openapi_node.proofs.write_value.+write.Given as goal

-- the measure of a list is less than that of the node that holds it, and that of a node less than that of its list
abbrev pub decreases-write_node : goal.decreases-write_node
decreases-write_node l = 3 * size_of l.node.now

abbrev pub decreases-write_items : goal.decreases-write_items
decreases-write_items l = 3 * items_size (items_of l.items.now) + 1

abbrev pub decreases-write_members : goal.decreases-write_members
decreases-write_members l = 3 * members_size (members_of l.members.now) + 2

abbrev pub decreases-write_pairs : goal.decreases-write_pairs
decreases-write_pairs l = 3 * members_size (members_of l.members.now) + 1

abbrev pub invariant-write_items-loop-item : goal.invariant-write_items-loop-item
invariant-write_items-loop-item l =
    record {
      written : map view l.values.items ≡ map data_of (take l.item-index l.items);
      counted : l.steps ≡ l.initial.steps + items_size (items_of (take l.item-index l.items));
    }

abbrev pub invariant-write_pairs-loop-i : goal.invariant-write_pairs-loop-i
invariant-write_pairs-loop-i l =
    record {
      written : map pair_view l.pairs.items ≡ map pair_data (take l.i l.members);
      counted : l.steps ≡ l.initial.steps + members_size (members_of (take l.i l.members));
    }
