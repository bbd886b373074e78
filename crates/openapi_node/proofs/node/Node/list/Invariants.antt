use Rattle.std.proofs.Common.{◌≡◌, true, take}
use Rattle.openapi_node.specs.Named.{items_named}
use Rattle.openapi_node.specs.Tree.{items_of}
use Rattle.openapi_node.proofs.node.Node.list.Given as goal

abbrev pub invariant-loop-item : goal.invariant-loop-item
invariant-loop-item l = items_named (items_of (take l.item-index l.fn.items.items)) ≡ true
