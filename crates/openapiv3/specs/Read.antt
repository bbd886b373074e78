-- What it means that an object is read from JSON text, what the errors of reading it mean, and where they are.
use Rattle.std.specs.Prelude.{◌≡◌, ℕ, ◌+◌, ◌*◌, ◌≤◌, List, Option, Some, None, MatchOption}
use Rattle.openapi_json.specs.Positions.{IsPositionAt}
use Rattle.openapi_json.specs.Reading as texts
use Rattle.openapi_json.specs.declared.fault.JsonFault.TheVariants.{NotJson, NotWhole, Memory as OutOfMemory}
use Rattle.openapi_json.specs.declared.position.Position.{Position}
use Rattle.openapi_node.specs.Fault.{place_of}
use Rattle.openapi_node.specs.Place.{Place}
use Rattle.openapi_node.specs.Tree.{Tree, size_of}
use Rattle.openapi_node.specs.declared.fault.Cause.{Cause}
use Rattle.openapi_node.specs.declared.fault.Cause.TheVariants.{Memory}
use Rattle.openapi_tables.specs.Form.{Form}
use Rattle.openapi_tables.specs.Kind.{Kind}
use Rattle.openapi_fields.specs.Returned.{Fails, Reads, RefusesBy}
use Rattle.openapiv3.specs.declared.read.ReadError.{ReadError}
use Rattle.openapiv3.specs.declared.read.ReadError.TheVariants.{Json, Refused}

-- The bytes are JSON text that is read as a node, by the relation `R`, and `P` holds for the node.
pub record IsTextOf (R : List ℕ → Tree → Type 0) (bytes : List ℕ) (P : Tree → Type 0) : Type 0 where
  pub tree : Tree
  pub text : R bytes tree
  pub holds : P tree

-- the access count rises by at most three for each value in the node
abbrev pub IsWithin : Tree → (old new : ℕ) → Type 0
IsWithin t old new = new ≤ old + 3 * size_of t

-- the node of the bytes is read as the value, with at most three node accesses for each value in the node
abbrev pub IsReadOf : (List ℕ → Tree → Type 0) → {X : Type 0} → (X → Form) → X → Kind → List ℕ → (old new : ℕ) → Type 0
IsReadOf R view x k bytes old new = IsTextOf R bytes (λ t. Reads view x k t × IsWithin t old new)

-- what an error means: the bytes are read as no node; or their node does not conform, and the fault has a location in it
-- and a rule that is required and broken there; or an allocation failed
abbrev pub Explains : (List ℕ → Tree → Type 0) → Kind → List ℕ → (old new : ℕ) → ReadError → Type 0
Explains R k bytes old new (Json f) = texts.Explains bytes f
Explains R k bytes old new (Refused f) =
    IsTextOf R bytes (λ t. Fails f k t × RefusesBy f.cause k t × IsWithin t old new)

-- ---- where an error is

-- the location of a fault; none for an allocation failure, which is about no value
abbrev pub unless_memory : Cause → Place → Option Place
unless_memory Memory p = None
unless_memory c p = Some p

-- the location of the value that an error is about, if it is about one
abbrev pub place_in : ReadError → Option Place
place_in (Json NotJson) = None
place_in (Json (NotWhole f)) = Some (place_of f)
place_in (Json OutOfMemory) = None
place_in (Refused f) = unless_memory f.cause (place_of f)

-- the position of that value in the text, or none if the error is about no value
abbrev pub IsPositionIn : List ℕ → ReadError → Option Position → Type 0
IsPositionIn bytes e o = MatchOption (place_in e) (o ≡ None) (λ p. IsPositionAt bytes p o)
