-- The entries of a map or a class of names, read and written one after another.
use Rattle.std.specs.Prelude.{◌≡◌, ℕ, ◌+◌, Bool, true, false, List, [], ◌∷◌, Result, Ok, Err, ◌⊎◌}
use Rattle.openapi_map.specs.Entries.{Entries}
use Rattle.openapi_node.specs.Fault.{IsMemory, place_of}
use Rattle.openapi_node.specs.Place.{named}
use Rattle.openapi_node.specs.Tree.{Tree, size_of}
use Rattle.openapi_node.specs.declared.fault.Cause.TheVariants.{NameNotWritable}
use Rattle.openapi_node.specs.declared.fault.Fault.{Fault}
use Rattle.openapi_tables.specs.Kind.{Kind}
use Rattle.openapi_tables.specs.Lists.{only, every, is_empty}
use Rattle.openapi_tables.specs.Tables.{final_tables}
use Rattle.openapi_tables.specs.Conforms.{conforms}
use Rattle.openapi_tables.specs.Form.{Form}
use Rattle.openapi_tables.specs.Read.{form}
use Rattle.openapi_tables.specs.Print.{print}
use Rattle.openapi_tables.specs.Unwritable.{unwritable}
use Rattle.openapi_tables.specs.Laws.{Among}
use Rattle.openapi_tables.specs.Slots.{pairs_of}
use Rattle.openapi_fields.specs.Returned.{FailsBelow, NotWritableBelow}

-- the entries whose names pass a test
abbrev pub chosen : {X : Type 0} → (List ℕ → Bool) → Entries X → Entries X
chosen p es = only (λ e. p e.0) es

-- the number of values in the nodes of entries
abbrev pub entries_size : Entries Tree → ℕ
entries_size [] = 0
entries_size (e ∷ es) = size_of e.1 + entries_size es

-- what is read from entries: each value conforms, and its form is that of the value read for the same name. Otherwise an
-- allocation failed, or the error is about one of the entries
abbrev pub EntriesReadAs : {X : Type 0} → (X → Form) → Result (Entries X) Fault → Kind → Entries Tree → Type 0
EntriesReadAs view (Ok m) k es =
    (every (λ (e : List ℕ × Tree). conforms final_tables k e.1) es ≡ true)
    × (pairs_of (form final_tables k) es ≡ pairs_of view m)
EntriesReadAs view (Err f) k es =
    IsMemory f ⊎ ((e : List ℕ × Tree) × Among e es × FailsBelow (named e.0) f k e.1)

-- the members that entries are written as
abbrev pub written_entries : {X : Type 0} → (X → Form) → Kind → Entries X → Entries Tree
written_entries view k [] = []
written_entries view k (e ∷ es) = (e.0, print final_tables k (view e.1)) ∷ written_entries view k es

-- whether no value contains a name or a status code that is unwritable
abbrev pub all_whole : {X : Type 0} → (X → Form) → Kind → Entries X → Bool
all_whole view k es = every (λ e. is_empty (unwritable final_tables k (view e.1))) es

-- an error of writing entries: a name does not pass the test, a value is not writable, or an allocation failed
abbrev pub EntryNotWritable : {X : Type 0} → (List ℕ → Bool) → (X → Form) → Kind → Fault → List ℕ × X → Type 0
EntryNotWritable p view k f e =
    ((p e.0 ≡ false) × (f.cause ≡ NameNotWritable) × (place_of f ≡ named e.0 ∷ []))
    ⊎ NotWritableBelow (named e.0) f (unwritable final_tables k (view e.1))

abbrev pub EntriesNotWritable : {X : Type 0} → (List ℕ → Bool) → (X → Form) → Kind → Fault → Entries X → Type 0
EntriesNotWritable {X} p view k f es = IsMemory f ⊎ ((e : List ℕ × X) × Among e es × EntryNotWritable p view k f e)
