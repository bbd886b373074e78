use Rattle.std.proofs.Common.{◌≡◌, ◌+◌, ◌*◌, take, map}
use Rattle.openapi_node.specs.Json.{data_of}
use Rattle.openapi_node.specs.Tree.{size_of, items_size, members_size, items_of, members_of}
use Rattle.openapi_node.proofs.EqualLemmas.{AreFoundIn}
use Rattle.openapi_node.proofs.equal.+equal.Given as goal

abbrev pub decreases-equal_nodes : goal.decreases-equal_nodes
decreases-equal_nodes l = 2 * size_of l.node.now

abbrev pub decreases-equal_items : goal.decreases-equal_items
decreases-equal_items l = 2 * items_size (items_of l.items.now.items) + 1

abbrev pub decreases-equal_members : goal.decreases-equal_members
decreases-equal_members l = 2 * members_size (members_of l.members.now) + 1

abbrev pub invariant-equal_items-loop-i : goal.invariant-equal_items-loop-i
invariant-equal_items-loop-i l = map data_of (take l.i l.items.items) ≡ map data_of (take l.i l.others.items)

abbrev pub invariant-equal_members-loop-i : goal.invariant-equal_members-loop-i
invariant-equal_members-loop-i l = AreFoundIn l.others (take l.i l.members)
