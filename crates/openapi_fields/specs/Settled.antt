-- What a node is normalized to, its stable form, and how many node accesses these take.
use Rattle.std.specs.Prelude.{◌≡◌, ℕ, ◌+◌, ◌*◌, ◌≤◌, true, false, Result, Ok, Err}
use Rattle.openapi_node.specs.Tree.{Tree, size_of}
use Rattle.openapi_node.specs.declared.fault.Fault.{Fault}
use Rattle.openapi_node.specs.declared.node.Node.{Node}
use Rattle.openapi_tables.specs.Kind.{Kind}
use Rattle.openapi_tables.specs.Conforms.{conforms}
use Rattle.openapi_tables.specs.Print.{clean}
use Rattle.openapi_tables.specs.Tables.{final_tables}
use Rattle.openapi_fields.specs.Returned.{Fails}

-- the stable form of a node that conforms: the node normalized twice
abbrev pub settled : Kind → Tree → Tree
settled k t = clean final_tables k (clean final_tables k t)

-- what was returned: a node that conforms, normalized; or an error about it
abbrev pub CleanedAs : Result Node Fault → Kind → Tree → Type 0
CleanedAs (Ok n) k t = (conforms final_tables k t ≡ true) × (n ≡ clean final_tables k t)
CleanedAs (Err f) k t = Fails f k t

-- what was returned: a node that conforms, in stable form; or an error about it
abbrev pub SettledAs : Result Node Fault → Kind → Tree → Type 0
SettledAs (Ok n) k t = (conforms final_tables k t ≡ true) × (n ≡ settled k t)
SettledAs (Err f) k t = Fails f k t

-- how far the access count rose: at most three for each value of the node and of the normalized node, and at most nine for
-- each value of the node. If the node does not conform, it is at most three for each value of it
abbrev pub IsCounted : Kind → Tree → (old new : ℕ) → Type 0
IsCounted k t old new =
    (new ≤ old + 3 * size_of t + 3 * size_of (clean final_tables k t))
    × (new ≤ old + 9 * size_of t)
    × (conforms final_tables k t ≡ false → new ≤ old + 3 * size_of t)
