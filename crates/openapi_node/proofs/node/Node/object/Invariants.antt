use Rattle.std.proofs.Common.{◌≡◌, true, take}
use Rattle.std.specs.Map.{values_of}
use Rattle.openapi_node.specs.Named.{items_named}
use Rattle.openapi_node.specs.Tree.{items_of}
use Rattle.openapi_node.proofs.node.Node.object.Given as goal

abbrev pub invariant-loop-i : goal.invariant-loop-i
invariant-loop-i l = items_named (items_of (take l.i (values_of l.fn.members))) ≡ true
