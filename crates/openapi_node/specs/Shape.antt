-- The JSON value of a node's `Shape`, whose children are already seen as JSON values.
use Rattle.std.specs.Prelude.{string_bytes}
use Rattle.openapi_node.specs.Tree.{Tree, null, flag, whole, text, list, object, items_of, members_of}
use Rattle.openapi_node.specs.declared.node.Shape.{Shape}
use Rattle.openapi_node.specs.declared.node.Shape.TheVariants as v

-- the JSON value that a node of this shape is
abbrev pub tree_of : Shape → Tree
tree_of v.Null = null
tree_of (v.Flag b) = flag b
tree_of (v.Whole w) = whole w
tree_of (v.Text s) = text (string_bytes s)
tree_of (v.List ts) = list (items_of ts.items)
tree_of (v.Object m) = object (members_of m)
