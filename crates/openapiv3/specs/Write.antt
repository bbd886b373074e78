-- The JSON text that an object is written as.
use Rattle.std.specs.Prelude.{◌≡◌, ◌≤◌, ℕ, List, []}
use Rattle.json.specs.Layout.{pretty}
use Rattle.serde_json.specs.Read.{max_depth}
use Rattle.serde_json.specs.Written.{compact_text}
use Rattle.openapi_json.specs.Ordered.{IsTreeInOrder}
use Rattle.openapi_json.specs.Reading.{IsTreeOfText}
use Rattle.openapi_json.specs.Writing.{data_in_order, data_tokens, nesting, tree_by_name}
use Rattle.openapi_node.specs.Json.{data_of}
use Rattle.openapi_node.specs.Tree.{Tree}
use Rattle.openapi_tables.specs.Form.{Form}
use Rattle.openapi_tables.specs.Kind.{Kind}
use Rattle.openapi_tables.specs.Print.{print}
use Rattle.openapi_tables.specs.Tables.{final_tables}
use Rattle.openapi_tables.specs.Unwritable.{unwritable}

-- The compact text of a node, with the members of each object sorted by name. It is read as the node with its members
-- sorted so, if the node nests no deeper than JSON text may.
pub record IsByName (t : Tree) (text : List ℕ) : Type 0 where
  pub is : text ≡ compact_text (data_of t)
  pub reads_back : nesting t ≤ max_depth → IsTreeOfText text (tree_by_name t)

-- The same with the members in the order of the node.
pub record IsInOrder (t : Tree) (text : List ℕ) : Type 0 where
  pub is : text ≡ compact_text (data_in_order t)
  pub reads_back : nesting t ≤ max_depth → IsTreeInOrder text t

-- The text with the members in the order of the node, and a line for each item and each member.
pub record IsPretty (t : Tree) (text : List ℕ) : Type 0 where
  pub is : text ≡ pretty (data_tokens (data_in_order t))
  pub reads_back : nesting t ≤ max_depth → IsTreeInOrder text t

-- The text is that of the node that a form is written as, by the relation `P`, and nothing in the form is unwritable.
pub record IsWrittenOf (P : Tree → List ℕ → Type 0) (k : Kind) (f : Form) (text : List ℕ) : Type 0 where
  pub whole : unwritable final_tables k f ≡ []
  pub written : P (print final_tables k f) text
