-- The member that decides between two names: the first of the members that have one of the names.
use Rattle.std.specs.Prelude.{◌≡◌, ℕ, false, List, Some, Result, Ok, Err}
use Rattle.std.specs.Borrow.{Bor}
use Rattle.std.specs.List.{slice_get}
use Rattle.openapi_map.specs.Entries.{Entries}
use Rattle.openapi_node.specs.Tree.{Tree, object, members_of}
use Rattle.openapi_node.specs.declared.fault.Fault.{Fault}
use Rattle.openapi_node.specs.declared.node.Node.{Node}
use Rattle.openapi_tables.specs.ByRow.{is_named, row_where}
use Rattle.openapi_tables.specs.Kind.{Kind, TableName, by, either}
use Rattle.openapi_tables.specs.Lists.{same_text}
use Rattle.openapi_tables.specs.Tables.{final_tables}
use Rattle.openapi_fields.specs.Entries.{chosen}
use Rattle.openapi_fields.specs.Forms.{is_either}
use Rattle.openapi_fields.specs.Returned.{Fails}
use Rattle.openapi_fields.specs.declared.either.Either.{Either}
use Rattle.openapi_fields.specs.declared.either.Either.TheVariants.{First, Second}

-- the first member that has one of the names `a` and `b` has the name `n` and the value `u`
abbrev pub Decides : List ℕ → List ℕ → List ℕ → Entries Tree → Tree → Type 0
Decides a b n es u = slice_get (chosen (is_either a b) es) 0 ≡ Some (n, u)

-- what is found for two names: the value of the name that decides, or an error for the object under each table that requires
-- one of the two
abbrev pub DeciderFound : List ℕ → List ℕ → Result (Either (Bor Node) (Bor Node)) Fault → Entries Tree → Type 0
DeciderFound a b (Ok (First u)) es = Decides a b a es u.now
DeciderFound a b (Ok (Second u)) es = Decides a b b es u.now × (same_text a b ≡ false)
DeciderFound a b (Err f) es =
    (i : TableName) (j k : Kind) → row_where (is_named a) (final_tables i) ≡ Some (either a j b k)
    → Fails f (by i) (object (members_of es))
