-- References as nodes.
use Rattle.std.specs.Prelude.{ℕ, List, [], ◌∷◌, Option, None, codes}
use Rattle.openapi_node.specs.Tree.{Tree, text, object, members_of}
use Rattle.openapi_tables.specs.Tree.{members_list}
use Rattle.openapi_tables.specs.Members.{held}
use Rattle.openapi_tables.specs.Conforms.{text_in}

-- the text of a reference, if a node is one
abbrev pub reference_in : Tree → Option (List ℕ)
reference_in (object ms) = text_in (held (codes "$ref") (members_list ms))
reference_in t = None

-- the node of a reference with this text
abbrev pub reference_tree : List ℕ → Tree
reference_tree s = object (members_of ((codes "$ref", text s) ∷ []))
