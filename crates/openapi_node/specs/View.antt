-- The node that a `View` shows.
use Rattle.openapi_node.specs.Tree.{Tree, null, flag, whole, text, list, object, items_of, members_of}
use Rattle.openapi_node.specs.declared.node.View.{View}
use Rattle.openapi_node.specs.declared.node.View.TheVariants as v

-- the node that was opened
abbrev pub shown : View → Tree
shown v.Null = null
shown (v.Flag b) = flag b
shown (v.Whole w) = whole w
shown (v.Text s) = text s.now
shown (v.List ts) = list (items_of ts.now)
shown (v.Object m) = object (members_of m.now)
