-- A walk over all that is required in a JSON value, in order: what is visited, and the effect of the visits.
use Rattle.std.specs.Prelude.{◌≡◌, ℕ, suc, ◌+◌, Bool, true, cond, List, [], ◌∷◌, ◌++◌, map, Option, Some, None, codes}
use Rattle.openapi_map.specs.Entries.{Entries}
use Rattle.openapi_node.specs.Place.{Place, Step, named, indexed}
use Rattle.openapi_node.specs.Tree.{Tree, object, Members, find, size_of, text_in}
use Rattle.openapi_tables.specs.Tree.{members_list, of_members}
use Rattle.openapi_tables.specs.Kind as kind
use Rattle.openapi_tables.specs.Kind.{Kind, Row, in_class}
use Rattle.openapi_tables.specs.Lists.{each, join}
use Rattle.openapi_tables.specs.Members.{held, is_null, made_optional}
use Rattle.openapi_tables.specs.Faults.{Asking, asked, asks_row, asks_rows, below, root_asks}
use Rattle.openapi_tables.specs.Tables.{final_tables}
use Rattle.openapi_faults.specs.Meaning.{class_of, row_of}
use Rattle.openapi_faults.specs.declared.row.Class as class
use Rattle.openapi_faults.specs.declared.row.Row as row
use Rattle.openapi_faults.specs.declared.step.Step as declared
use Rattle.openapi_faults.specs.declared.step.Step.TheVariants as s
use Rattle.openapi_faults.specs.declared.walk.Walk.{Walk}

-- the step that a declared step represents
abbrev pub step_of : declared.Step → Step
step_of (s.Name n) = named n.now
step_of (s.Index i) = indexed i

-- the list with `p` put before each location: locations relative to the value at `p` become relative to where `p` begins
abbrev pub moved : Place → List Asking → List Asking
moved p as' = each (λ a. record { place = p ++ a.place; kind = a.kind; tree = a.tree }) as'

-- the state `s` becomes `u` by one visit for each element of the list, in order; `R` relates the states around a visit
abbrev pub Folds : {S : Type 0} → (S → Asking → S → Type 0) → S → List Asking → S → Type 0
Folds R s [] u = s ≡ u
Folds {S} R s (a ∷ as') u = (m : S) × R s a m × Folds R m as' u

-- the location at which a walk is
abbrev pub place_in : {V : Type 0} → Walk V → Place
place_in w = map step_of w.place.items

-- A walk visited each element of the list, whose locations are relative to that of the walk, and its location is as before.
pub record Visits {V : Type 0} (R : V → Asking → V → Type 0) (as' : List Asking) (old new : Walk V) : Type 0 where
  pub visits : Folds R old.visitor (moved (place_in old) as') new.visitor
  pub back : place_in new ≡ place_in old

-- the text under `$ref`, if the kind allows a reference and the node is an object with a text there
abbrev pub reference_text : Kind → Tree → Option (List ℕ)
reference_text (kind.ref_to k) (object ms) = text_in (held (codes "$ref") (members_list ms))
reference_text k t = None

-- ---- what the parts of a walk visit

-- what a kind requires of a node one step below and inside it, with locations that begin with that step
abbrev pub asked_below : Step → Kind → Tree → List Asking
asked_below s k t = below s (asked final_tables k t)

-- all elements but the first
abbrev pub behind_first : List Asking → List Asking
behind_first [] = []
behind_first (a ∷ as') = as'

-- what a kind requires besides itself: all of `asked` but the first element, which is the kind of the node itself
abbrev pub asked_inside : Kind → Tree → List Asking
asked_inside k t = behind_first (asked final_tables k t)

-- what a kind requires of each item of a list, counted from an index
abbrev pub asked_items : Kind → ℕ → List Tree → List Asking
asked_items k i [] = []
asked_items k i (t ∷ ts) = join (asked_below (indexed i) k t) (asked_items k (suc i) ts)

-- what a kind requires of the entries whose names pass a test
abbrev pub asked_entries : (List ℕ → Bool) → Kind → Entries Tree → List Asking
asked_entries p k [] = []
asked_entries p k (e ∷ es) = cond (p e.0) (join (asked_below (named e.0) k e.1) (asked_entries p k es)) (asked_entries p k es)

-- what a row requires of the members of an object, and what several rows require
abbrev pub asked_row : Row → Members → List Asking
asked_row w ms = asks_row (of_members (root_asks final_tables) ms) w

abbrev pub asked_rows : List Row → Members → List Asking
asked_rows ws ms = asks_rows (of_members (root_asks final_tables) ms) ws

-- what a kind requires of a member, if there is one
abbrev pub asked_found : List ℕ → Kind → Option Tree → List Asking
asked_found n k None = []
asked_found n k (Some t) = asked_below (named n) k t

abbrev pub asked_member : List ℕ → Kind → Members → List Asking
asked_member n k ms = asked_found n k (find n ms)

-- the same, but nothing if the member is null
abbrev pub asked_not_null : List ℕ → Kind → Option Tree → List Asking
asked_not_null n k None = []
asked_not_null n k (Some t) = cond (is_null t) [] (asked_below (named n) k t)

abbrev pub asked_optional : List ℕ → Kind → Members → List Asking
asked_optional n k ms = asked_not_null n k (find n ms)

-- the rows; if `b` is true, a row of one name is changed to one whose member may be missing or null
abbrev pub rows_as : Bool → List row.Row → List Row
rows_as b rs = map (λ r. cond b (made_optional (row_of r)) (row_of r)) rs

-- whether a name is in a class, if one is given; true if none is given
abbrev pub is_chosen : Option class.Class → List ℕ → Bool
is_chosen None n = true
is_chosen (Some c) n = in_class (class_of c) n

-- ---- how many values are accessed

-- the number of values in the entries whose names pass a test
abbrev pub entries_size : (List ℕ → Bool) → Entries Tree → ℕ
entries_size p [] = 0
entries_size p (e ∷ es) = cond (p e.0) (size_of e.1) 0 + entries_size p es

-- the number of values in a member; 0 if there is none
abbrev pub found_size : Option Tree → ℕ
found_size None = 0
found_size (Some t) = size_of t

abbrev pub member_size : List ℕ → Members → ℕ
member_size n ms = found_size (find n ms)

-- how many node accesses are counted for a value of a kind in addition to the first: one for `$ref`, and one for a tag
abbrev pub accesses : Kind → ℕ
accesses (kind.ref_to k) = suc (accesses k)
accesses (kind.tagged n cs) = 1
accesses kind.flag_or_schema = 1
accesses k = 0

-- the same after the node access for `$ref`
abbrev pub accesses_inside : Kind → ℕ
accesses_inside (kind.ref_to k) = accesses k
accesses_inside k = accesses k
