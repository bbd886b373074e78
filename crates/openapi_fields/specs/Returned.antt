-- What a reader or a writer returns, in terms of the field tables.
use Rattle.std.specs.Prelude.{◌≡◌, ℕ, ◌+◌, ◌≤◌, true, false, List, [], Option, Some, None, Result, Ok, Err, if◌then◌else◌}
use Rattle.openapi_node.specs.Fault.{GoesUp, place_of}
use Rattle.openapi_node.specs.Place.{Step, Place, named}
use Rattle.openapi_node.specs.Tree.{Tree, text, object, Members}
use Rattle.openapi_node.specs.declared.fault.Cause.{Cause}
use Rattle.openapi_node.specs.declared.fault.Cause.TheVariants.{
  Missing,
  MissingEither,
  WrongKind,
  NotAllowed,
  UnknownVariant,
  NameNotWritable,
  NotWhole,
  Memory,
}
use Rattle.openapi_node.specs.declared.fault.Fault.{Fault}
use Rattle.openapi_node.specs.declared.node.Node.{Node}
use Rattle.openapi_tables.specs.Tree.{members_list}
use Rattle.openapi_tables.specs.Kind.{Kind, null_or, tagged, ref_to, flag_or_schema, Case, Row}
use Rattle.openapi_tables.specs.Tables.{final_tables}
use Rattle.openapi_tables.specs.Members.{is_null, held}
use Rattle.openapi_tables.specs.Conforms.{conforms}
use Rattle.openapi_tables.specs.Form.{Form}
use Rattle.openapi_tables.specs.Read.{form}
use Rattle.openapi_tables.specs.Print.{print}
use Rattle.openapi_tables.specs.Unwritable.{unwritable}
use Rattle.openapi_tables.specs.Faults.{missing, missing_either, wrong_kind, not_allowed, unknown_variant, words}
use Rattle.openapi_tables.specs.Laws.{Among}
use Rattle.openapi_tables.specs.ByRow.{Broken, RowGives, AreRows, rows_asked}

-- an error of a reader: the node breaks a rule of the kind at the location, with this cause; or an allocation failed, and
-- the location is empty. A reader never returns the causes `NameNotWritable` and `NotWhole`
abbrev pub FailsBy : Cause → Place → Kind → Tree → Type 0
FailsBy (Missing n) p k t = Broken final_tables k t p (missing n.now)
FailsBy (MissingEither n m) p k t = Broken final_tables k t p (missing_either n.now m.now)
FailsBy (WrongKind e) p k t = Broken final_tables k t p (wrong_kind e)
FailsBy NotAllowed p k t = Broken final_tables k t p not_allowed
FailsBy UnknownVariant p k t = Broken final_tables k t p unknown_variant
FailsBy NameNotWritable p k t = ⊥
FailsBy NotWhole p k t = ⊥
FailsBy Memory p k t = p ≡ []

abbrev pub Fails : Fault → Kind → Tree → Type 0
Fails f k t = FailsBy f.cause (place_of f) k t

-- the node conforms to the kind, and its form is that of the value
abbrev pub Reads : {X : Type 0} → (X → Form) → X → Kind → Tree → Type 0
Reads view x k t = (conforms final_tables k t ≡ true) × (form final_tables k t ≡ view x)

-- what a reader returned: a value that is read from the node, or an error about the node
abbrev pub ReadAs : {X : Type 0} → (X → Form) → Result X Fault → Kind → Tree → Type 0
ReadAs view (Ok x) k t = Reads view x k t
ReadAs view (Err f) k t = Fails f k t

-- a node that is rejected with another cause than `Memory` does not conform
abbrev pub RefusesBy : Cause → Kind → Tree → Type 0
RefusesBy Memory k t = Unit {0}
RefusesBy c k t = conforms final_tables k t ≡ false

abbrev pub Refuses : {X : Type 0} → Result X Fault → Kind → Tree → Type 0
Refuses (Ok x) k t = Unit {0}
Refuses (Err f) k t = RefusesBy f.cause k t

-- what a row gives among the members of an object of a kind, or an error for the whole object
abbrev pub RowReadAs : {X : Type 0} → (X → Form) → Result X Fault → Kind → Row → Members → Type 0
RowReadAs view (Ok x) k w ms = RowGives final_tables w ms (view x)
RowReadAs view (Err f) k w ms = Fails f k (object ms)

-- the same for all rows that the kind requires of an object, whatever the object contains
abbrev pub RowsReadAs : {X : Type 0} → (X → List Form) → Result X Fault → Kind → Members → Type 0
RowsReadAs rows (Ok x) k ms = AreRows final_tables (rows_asked final_tables k) (rows x) ms
RowsReadAs rows (Err f) k ms = Fails f k (object ms)

-- how the access count rises: by at most `n`
abbrev pub RisesBy : ℕ → ℕ → ℕ → Type 0
RisesBy old new n = (old ≤ new) × (new ≤ old + n)

-- the same after the value itself was accessed. That access counts as three, so the rise is at most `n - 3`
abbrev pub RisesBelow : ℕ → ℕ → ℕ → Type 0
RisesBelow old new n = (old ≤ new) × (new + 3 ≤ old + n)

-- an error about a value one step below, as seen from here
abbrev pub FailsBelow : Step → Fault → Kind → Tree → Type 0
FailsBelow s f k u = (e : Fault) × GoesUp s e f × Fails e k u

-- what is read from a member that may be absent
abbrev pub MemberReadAs : {X : Type 0} → (X → Form) → Result (Option X) Fault → Kind → List ℕ → Option Tree → Type 0
MemberReadAs view (Ok None) k n None = Unit {0}
MemberReadAs view (Ok None) k n (Some u) = ⊥
MemberReadAs view (Ok (Some x)) k n None = ⊥
MemberReadAs view (Ok (Some x)) k n (Some u) = Reads view x k u
MemberReadAs view (Err f) k n None = ⊥
MemberReadAs view (Err f) k n (Some u) = FailsBelow (named n) f k u

-- the member, unless it is missing or null
abbrev pub unless_null : Option Tree → Option Tree
unless_null None = None
unless_null (Some u) = if is_null u then None else Some u

-- what was read one step below, as seen from here: the same value, or the fault as seen one step above
abbrev pub AtStep : {X : Type 0} → Step → Result X Fault → Result X Fault → Type 0
AtStep s (Ok x) (Ok y) = x ≡ y
AtStep s (Ok x) (Err f) = ⊥
AtStep s (Err e) (Ok y) = ⊥
AtStep s (Err e) (Err f) = GoesUp s e f

-- how many accesses a kind adds to those for the values of a node, to check for references: one for each `ref_to`, one for
-- `flag_or_schema`, and none for `null_or` itself
abbrev pub looks : Kind → ℕ
looks (null_or k) = looks k
looks (ref_to k) = looks k + 1
looks flag_or_schema = 1
looks _ = 0

-- an error of a writer: a name or a status code that would not be read again, at its location; or an allocation failed, and
-- the location is empty
abbrev pub NotWritableBy : Cause → Place → List Place → Type 0
NotWritableBy NameNotWritable p ps = Among p ps
NotWritableBy Memory p ps = p ≡ []
NotWritableBy _ p ps = ⊥

abbrev pub NotWritable : Fault → List Place → Type 0
NotWritable f ps = NotWritableBy f.cause (place_of f) ps

-- what a writer returned: the node that the form is written as, if nothing in the form is unwritable, or an error
abbrev pub WrittenAs : Kind → Form → Result Node Fault → Type 0
WrittenAs k f (Ok n) = (n ≡ print final_tables k f) × (unwritable final_tables k f ≡ [])
WrittenAs k f (Err e) = NotWritable e (unwritable final_tables k f)

-- an error about what is written one step below, as seen from here
abbrev pub NotWritableBelow : Step → Fault → List Place → Type 0
NotWritableBelow s f ps = (e : Fault) × GoesUp s e f × NotWritable e ps

-- what was read from a tag: the value whose word is the text of the member, or an error for the object under each kind whose
-- tag has these words
abbrev pub TagReadAs : {X : Type 0} → (X → List ℕ) → Result X Fault → List ℕ → List (List ℕ) → Members → Type 0
TagReadAs word (Ok x) n ws ms = held n (members_list ms) ≡ text (word x)
TagReadAs word (Err f) n ws ms = (cs : List Case) → words cs ≡ ws → Fails f (tagged n cs) (object ms)
