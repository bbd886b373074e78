use Rattle.std.proofs.Common.{◌≡◌, ◌+◌, ◌≤◌, take, drop}
use Rattle.openapi_node.specs.Tree.{items_size, items_of}
use Rattle.openapi_schema_types.proofs.enumeration.copies.Given as goal

-- the copies so far, with at most one node access for each value in them
abbrev pub invariant-loop-node : goal.invariant-loop-node
invariant-loop-node l =
    (l.values.items ≡ take l.node-index l.nodes)
    × (l.initial.steps ≤ l.steps)
    × (l.steps + items_size (items_of (drop l.node-index l.nodes)) ≤ l.initial.steps + items_size (items_of l.nodes))
