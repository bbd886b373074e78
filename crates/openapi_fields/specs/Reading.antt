-- What mutually recursive readers return, in terms of the field tables. This is what some of the rows of an object give,
-- what its members are, and an entry that is put by what was read for it.
use Rattle.std.specs.Prelude.{◌≡◌, ℕ, ◌+◌, ◌*◌, ◌≤◌, Bool, true, false, List, [], ◌∷◌, ◌++◌, Option, Some, None, Result, Ok}
use Rattle.std.specs.Prelude.{Err, IfOk, ◌⊎◌}
use Rattle.std.specs.Borrow.{Bor}
use Rattle.openapi_map.specs.Entries.{Entries}
use Rattle.openapi_node.specs.Fault.{IsMemory}
use Rattle.openapi_node.specs.Place.{named}
use Rattle.openapi_node.specs.Tree.{Tree, object, Members, members_of, members_size, size_of, find}
use Rattle.openapi_node.specs.declared.fault.Fault.{Fault}
use Rattle.openapi_tables.specs.Kind.{Kind, Row, TableName, by, map_of}
use Rattle.openapi_tables.specs.Tables.{final_tables}
use Rattle.openapi_tables.specs.Form.{Form}
use Rattle.openapi_tables.specs.ByRow.{AreRows, rows_weight}
use Rattle.openapi_fields.specs.Returned.{Fails, FailsBelow, Reads, RisesBy, RowsReadAs}

-- what some of the rows of an object of a kind give, or an error for the whole object
abbrev pub PartReadAs : {X : Type 0} → (X → List Form) → Result X Fault → Kind → List Row → Members → Type 0
PartReadAs rows (Ok x) k ws ms = AreRows final_tables ws (rows x) ms
PartReadAs rows (Err f) k ws ms = Fails f k (object ms)

-- the result of the reader of one case of a tagged object: a value with the word of its tag, by the rows of its table, or an
-- error by these rows. The access count rose by at most three for each value in the members that they take
pub record IsCaseRead {X : Type 0} (word_of : X → List ℕ) (rows : X → List Form) (result : Result X Fault) (tag : List ℕ)
    (table : TableName) (ms : Members) (old new : ℕ) : Type 0 where
  pub reads : RowsReadAs rows result (by table) ms
  pub word : IfOk result (λ x. word_of x ≡ tag)
  pub count : RisesBy old new (3 * rows_weight (final_tables table) ms)

-- every name
abbrev pub any_name : List ℕ → Bool
any_name n = true

-- whether a kind is an object of a field table, or a map
abbrev pub is_object : Kind → Bool
is_object (by i) = true
is_object (map_of k) = true
is_object _ = false

-- the members of a value that is an object, or an error for each kind that is an object of a table or a map
abbrev pub MembersShown : Result (Bor (Entries Tree)) Fault → Tree → Type 0
MembersShown (Ok ms) t = t ≡ object (members_of ms.now)
MembersShown (Err f) t = (k : Kind) → is_object k ≡ true → Fails f k t

-- the member of a name is an object with these members, and was accessed once
pub record IsMapAt (n : List ℕ) (ms : Members) (old new : ℕ) (es : Members) : Type 0 where
  pub is : find n ms ≡ Some (object es)
  pub counted : new ≡ old + 1
  pub within : size_of (object es) ≤ members_size ms

-- the member of a name exists and was accessed once, and its value is an error for each kind that is an object of a table or
-- a map
pub record NoMapAt (n : List ℕ) (ms : Members) (old new : ℕ) (f : Fault) : Type 0 where
  pub value : Tree
  pub is : find n ms ≡ Some value
  pub counted : new ≡ old + 1
  pub within : size_of value ≤ members_size ms
  pub fails : (k : Kind) → is_object k ≡ true → FailsBelow (named n) f k value

-- the members of the object that is the member of a name, if the name exists, or an error
abbrev pub MembersShownAt : Result (Option (Bor (Entries Tree))) Fault → List ℕ → Members → ℕ → ℕ → Type 0
MembersShownAt (Ok None) n ms old new = (find n ms ≡ None) × (new ≡ old)
MembersShownAt (Ok (Some es)) n ms old new = IsMapAt n ms old new (members_of es.now)
MembersShownAt (Err f) n ms old new = NoMapAt n ms old new f

-- what was read of an entry was appended; or it was rejected, or an allocation failed
abbrev pub PutRead : {X : Type 0} → (X → Form) → Kind → Tree → List ℕ → Result (Unit {0}) Fault → Entries X → Entries X → Type 0
PutRead {X} view k u n (Ok done) old new = (x : X) × (new ≡ old ++ (n, x) ∷ []) × Reads view x k u
PutRead view k u n (Err f) old new = IsMemory f ⊎ FailsBelow (named n) f k u
