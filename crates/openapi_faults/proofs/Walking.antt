-- What was visited so far, and the measure by which a walk ends.
use Rattle.std.proofs.Common.{◌≡◌, ℕ, ◌+◌, ◌*◌, ◌≤◌, List, arith, subst, sym}
use Rattle.openapi_tables.specs.Kind as kind
use Rattle.openapi_tables.specs.Kind.{Kind}
use Rattle.openapi_tables.specs.Lists.{join}
use Rattle.openapi_tables.specs.Faults.{Asking}
use Rattle.openapi_faults.specs.Meaning.{kind_of}
use Rattle.openapi_faults.specs.Walk.{Visits, accesses}
use Rattle.openapi_faults.specs.declared.kind.Kind as declared
use Rattle.openapi_faults.specs.declared.kind.Kind.TheVariants as k
use Rattle.openapi_faults.specs.declared.walk.Walk.{Walk}
use Rattle.openapi_faults.proofs.Folding.{visits_then}

-- a measure for visits of one node: a reference or an item is above the item, a flag or a schema above the schema, and an
-- object with a tag above the object
abbrev pub kind_rank : Kind → ℕ
kind_rank kind.flag_or_schema = 6
kind_rank (kind.ref_to k) = kind_rank k + 3
kind_rank (kind.tagged n cs) = 5
kind_rank k = 1

-- declared kinds have small ranks
pub rank-le : (k : declared.Kind) → kind_rank (kind_of k) ≤ 8
rank-le k.Text = omega arith
rank-le k.Flag = omega arith
rank-le (k.Number x) = omega arith
rank-le k.Any = omega arith
rank-le k.APIKeyLocation = omega arith
rank-le k.PathStyle = omega arith
rank-le k.QueryStyle = omega arith
rank-le k.CookieStyle = omega arith
rank-le k.HeaderStyle = omega arith
rank-le k.StringFormat = omega arith
rank-le k.NumberFormat = omega arith
rank-le k.IntegerFormat = omega arith
rank-le k.ParameterTag = omega arith
rank-le k.SecuritySchemeTag = omega arith
rank-le k.SchemaTypeTag = omega arith
rank-le k.TextOrNull = omega arith
rank-le k.FlagOrNull = omega arith
rank-le (k.NumberOrNull x) = omega arith
rank-le k.Texts = omega arith
rank-le k.Values = omega arith
rank-le k.TextsOrNulls = omega arith
rank-le k.FlagsOrNulls = omega arith
rank-le (k.NumbersOrNulls x) = omega arith
rank-le k.TextMap = omega arith
rank-le k.ValueMap = omega arith
rank-le k.SecurityRequirement = omega arith
rank-le k.SecurityRequirements = omega arith
rank-le (k.Object x) = omega arith
rank-le (k.Objects x) = omega arith
rank-le (k.ObjectMap x) = omega arith
rank-le (k.ObjectOrRef x) = omega arith
rank-le (k.ObjectOrRefMap x) = omega arith
rank-le k.Parameter = omega arith
rank-le k.ParameterOrRef = omega arith
rank-le k.ParametersOrRefs = omega arith
rank-le k.ParameterOrRefMap = omega arith
rank-le k.SecurityScheme = omega arith
rank-le k.SecuritySchemeOrRef = omega arith
rank-le k.SecuritySchemeOrRefMap = omega arith
rank-le k.Schema = omega arith
rank-le k.SchemaOrRef = omega arith
rank-le k.SchemasOrRefs = omega arith
rank-le k.SchemaOrRefMap = omega arith
rank-le k.FlagOrSchema = omega arith
rank-le k.SchemaKind = omega arith
rank-le k.SchemaType = omega arith
rank-le k.StatusCode = omega arith

-- the rank of a kind is greater than three times its access count
accesses-rank : (k : Kind) → 3 * accesses k + 1 ≤ kind_rank k
accesses-rank (kind.ref_to k) = omega (arith, accesses-rank k)
accesses-rank k = omega arith

-- a value is accessed at most twice in addition to the first access
pub accesses-few : (k : declared.Kind) → accesses (kind_of k) ≤ 2
accesses-few k = omega (arith, accesses-rank (kind_of k), rank-le k)

-- a list was visited, with at most three node accesses for each of `n` values
pub record SoFar {V : Type 0} (R : V → Asking → V → Type 0) (as' : List Asking) (n : ℕ) (old new : Walk V)
    (before after : ℕ) : Type 0 where
  pub visits : Visits R as' old new
  pub rises : before ≤ after
  pub count : after ≤ before + 3 * n

module _ {V : Type 0} (R : V → Asking → V → Type 0) where
  -- what was visited so far, and the next
  pub next_visited : (as' bs cs : List Asking) (n m o : ℕ) (old mid new : Walk V) (before middle after : ℕ)
      → cs ≡ join as' bs → o ≡ n + m → SoFar R as' n old mid before middle → Visits R bs mid new → middle ≤ after
      → after ≤ middle + 3 * m → SoFar R cs o old new before after
  next_visited as' bs cs n m o old mid new before middle after e f h v r c =
      record {
        visits = subst (λ l. Visits R l old new) (sym e) (visits_then R as' bs old mid new h.visits v);
        rises = omega (arith, h.rises, r);
        count = omega (arith, h.rises, h.count, c, f);
      }

  -- the same for an equal list and an equal number
  pub so_far_as : (as' bs : List Asking) (n m : ℕ) (old new : Walk V) (before after : ℕ) → bs ≡ as' → m ≡ n
      → SoFar R as' n old new before after → SoFar R bs m old new before after
  so_far_as as' bs n m old new before after e f h =
      record {
        visits = subst (λ l. Visits R l old new) (sym e) h.visits;
        rises = h.rises;
        count = omega (arith, h.count, f);
      }
