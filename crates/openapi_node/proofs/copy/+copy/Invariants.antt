use Rattle.std.proofs.Common.{◌≡◌, ◌+◌, ◌*◌, take}
use Rattle.openapi_node.specs.Tree.{size_of, items_size, members_size, items_of, members_of}
use Rattle.openapi_node.specs.View.{shown}
use Rattle.openapi_node.proofs.copy.+copy.Given as goal

-- the measure of a view is less than that of its node. That of a list is less than that of the view that holds it. That of a
-- node is less than that of the list that contains it
abbrev pub decreases-copy_node : goal.decreases-copy_node
decreases-copy_node l = 3 * size_of l.node.now + 1

abbrev pub decreases-copy_view : goal.decreases-copy_view
decreases-copy_view l = 3 * size_of (shown l.view.now)

abbrev pub decreases-copy_items : goal.decreases-copy_items
decreases-copy_items l = 3 * items_size (items_of l.items.now) + 2

abbrev pub decreases-copy_members : goal.decreases-copy_members
decreases-copy_members l = 3 * members_size (members_of l.members.now) + 2

abbrev pub invariant-copy_items-loop-item : goal.invariant-copy_items-loop-item
invariant-copy_items-loop-item l =
    record {
      copied : l.copies.items ≡ take l.item-index l.items;
      counted : l.steps ≡ l.initial.steps + items_size (items_of (take l.item-index l.items));
    }

abbrev pub invariant-copy_members-loop-i : goal.invariant-copy_members-loop-i
invariant-copy_members-loop-i l =
    record {
      copied : l.copies ≡ take l.i l.members;
      counted : l.steps ≡ l.initial.steps + members_size (members_of (take l.i l.members));
    }
