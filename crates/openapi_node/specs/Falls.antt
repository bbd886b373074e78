-- The children of a node are smaller than the node.
use Rattle.std.specs.Prelude.{ℕ, ◌+◌, ◌≤◌, List, [], ◌∷◌}
use Rattle.std.specs.Map.{values_of}
use Rattle.std.proofs.Common.{arith}
use denote.Param.Weighed.{most}
use Rattle.openapi_node.specs.Tree.{Tree, size_of, items_size, members_size, items_of, members_of}
use Rattle.openapi_node.specs.Shape.{tree_of}
use Rattle.openapi_node.specs.declared.node.Shape.{Shape}
use Rattle.openapi_node.specs.declared.node.Shape.TheVariants as v
use Rattle.openapi_node.specs.declared.node.Node.TheDeep.{deep-Shape}

-- no item has more values than all items together
most_items : (ts : List Tree) → most (λ t. size_of t + 1) ts ≤ items_size (items_of ts) + 1
most_items [] = omega arith
most_items (t ∷ ts) = omega (arith, most_items ts)

-- no member has more values than all members together
most_members : (ms : List (List ℕ × Tree))
    → most (λ t. size_of t + 1) (values_of ms) ≤ members_size (members_of ms) + 1
most_members [] = omega arith
most_members (m ∷ ms) = omega (arith, most_members ms)

-- each child of a node is smaller than the node
pub shape_falls : (s : Shape) → deep-Shape s ≤ size_of (tree_of s)
shape_falls v.Null = omega arith
shape_falls (v.Flag b) = omega arith
shape_falls (v.Whole w) = omega arith
shape_falls (v.Text t) = omega arith
shape_falls (v.List ts) = omega (arith, most_items ts.items)
shape_falls (v.Object ms) = omega (arith, most_members ms)
