use Rattle.std.proofs.Common.{◌≡◌, ◌+◌, true, take}
use Rattle.openapi_tables.specs.Lists.{each, every}
use Rattle.openapi_schema_types.specs.Enumerations.{entry_tree}
use Rattle.openapi_schema_types.proofs.enumeration.entries.Given as goal

-- the entries so far pass and are read, each with one node access
abbrev pub invariant-loop-node : goal.invariant-loop-node
invariant-loop-node g l =
    (every g.T.Entry.test (take l.node-index l.nodes) ≡ true)
    × (each (entry_tree g.T.Entry.tree_in) l.values.items ≡ take l.node-index l.nodes)
    × (l.steps ≡ l.initial.steps + l.node-index)
