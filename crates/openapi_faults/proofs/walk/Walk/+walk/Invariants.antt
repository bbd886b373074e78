use Rattle.std.proofs.Common.{◌+◌, ◌*◌, take}
use Rattle.openapi_node.specs.Tree.{members_of, members_size, items_of, items_size, size_of}
use Rattle.openapi_node.specs.View.{shown}
use Rattle.openapi_tables.specs.ByRow.{rows_weight}
use Rattle.openapi_faults.specs.Meaning.{kind_of}
use Rattle.openapi_faults.specs.Walk.{asked_entries, asked_items, asked_rows, entries_size, is_chosen, rows_as}
use Rattle.openapi_faults.proofs.Walking.{kind_rank, SoFar}
use Rattle.openapi_faults.proofs.walk.Walk.+walk.Given as goal

-- the size of the node that is left to visit; for the same node, a caller has a greater measure than what it calls
abbrev pub decreases-items : goal.decreases-items
decreases-items g l = 20 * items_size (items_of l.items.now) + 12

abbrev pub decreases-below : goal.decreases-below
decreases-below g l = 20 * size_of l.node.now + 11

abbrev pub decreases-shown_below : goal.decreases-shown_below
decreases-shown_below g l = 20 * size_of (shown l.view.now) + kind_rank (kind_of l.kind) + 2

abbrev pub decreases-shown : goal.decreases-shown
decreases-shown g l = 20 * size_of (shown l.view.now) + kind_rank (kind_of l.kind) + 1

abbrev pub decreases-inside : goal.decreases-inside
decreases-inside g l = 20 * size_of (shown l.view.now) + kind_rank (kind_of l.kind)

abbrev pub decreases-tagged : goal.decreases-tagged
decreases-tagged g l = 20 * members_size (members_of l.members.now) + 24

abbrev pub decreases-by_tag : goal.decreases-by_tag
decreases-by_tag g l = 20 * members_size (members_of l.members.now) + 23

abbrev pub decreases-rows : goal.decreases-rows
decreases-rows g l = 20 * members_size (members_of l.members.now) + 14

abbrev pub decreases-row : goal.decreases-row
decreases-row g l = 20 * members_size (members_of l.members.now) + 13

abbrev pub decreases-entries : goal.decreases-entries
decreases-entries g l = 20 * members_size (members_of l.members.now) + 12

abbrev pub decreases-member : goal.decreases-member
decreases-member g l = 20 * members_size (members_of l.members.now) + 12

abbrev pub decreases-optional : goal.decreases-optional
decreases-optional g l = 20 * members_size (members_of l.members.now) + 12

abbrev pub invariant-items-loop-index : goal.invariant-items-loop-index
invariant-items-loop-index g l =
    SoFar g.V.Visitor.Takes (asked_items (kind_of l.kind) 0 (take l.index l.items)) (items_size (items_of (take l.index l.items)))
    l.initial.self l.self l.initial.steps l.steps

abbrev pub invariant-entries-loop-i : goal.invariant-entries-loop-i
invariant-entries-loop-i g l =
    SoFar g.V.Visitor.Takes (asked_entries (is_chosen l.class) (kind_of l.kind) (take l.i l.members)) (entries_size (is_chosen l.class) (take l.i l.members))
    l.initial.self l.self l.initial.steps l.steps

abbrev pub invariant-rows-loop-i : goal.invariant-rows-loop-i
invariant-rows-loop-i g l =
    SoFar g.V.Visitor.Takes (asked_rows (rows_as l.is_open (take l.i l.rows)) (members_of l.members)) (rows_weight (rows_as l.is_open (take l.i l.rows)) (members_of l.members))
    l.initial.self l.self l.initial.steps l.steps
