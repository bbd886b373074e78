-- Members that exist and are not null: the access of one, and what is read from it.
use Rattle.std.specs.Prelude.{◌≡◌, ℕ, ◌+◌, ◌≤◌, List, Option, Some, None, Result, Ok, Err}
use Rattle.openapi_node.specs.Fault.{GoesUp}
use Rattle.openapi_node.specs.Place.{named}
use Rattle.openapi_node.specs.Tree.{Tree, Members, find, size_of, members_size}
use Rattle.openapi_node.specs.View.{shown}
use Rattle.openapi_node.specs.declared.fault.Fault.{Fault}
use Rattle.openapi_node.specs.declared.node.View.{View}
use Rattle.openapi_tables.specs.Kind.{any_tree, optional, row}
use Rattle.openapi_tables.specs.ByRow.{row_weight}
use Rattle.openapi_fields.specs.Returned.{unless_null}

-- The member of a name is missing or null. The access count rises by at most the number of values in the members of that
-- name.
pub record IsGone (n : List ℕ) (ms : Members) (old new : ℕ) : Type 0 where
  pub is : unless_null (find n ms) ≡ None
  pub rises : old ≤ new
  pub counted : new ≤ old + row_weight (row n optional any_tree) ms

-- The member of a name exists and is not null, and was accessed once.
pub record IsThere (n : List ℕ) (ms : Members) (old new : ℕ) (t : Tree) : Type 0 where
  pub is : unless_null (find n ms) ≡ Some t
  pub counted : new ≡ old + 1
  pub weighs : size_of t ≤ row_weight (row n optional any_tree) ms
  pub within : size_of t ≤ members_size ms

abbrev pub ViewFound : Option View → List ℕ → Members → ℕ → ℕ → Type 0
ViewFound None n ms old new = IsGone n ms old new
ViewFound (Some v) n ms old new = IsThere n ms old new (shown v)

-- the second result is the first, as read from a member: the same value, or the fault as seen from the object
abbrev pub AtMember : {X : Type 0} → List ℕ → Result X Fault → Result (Option X) Fault → Type 0
AtMember n (Ok x) (Ok (Some y)) = x ≡ y
AtMember n (Ok x) (Ok None) = ⊥
AtMember n (Ok x) (Err f) = ⊥
AtMember n (Err e) (Ok y) = ⊥
AtMember n (Err e) (Err f) = GoesUp (named n) e f
