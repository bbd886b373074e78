-- An object row by row, for the contracts of readers: what a row reads from the members, how many values these contain,
-- and which causes are found at a location.
use Rattle.std.specs.Prelude.{◌≡◌, ℕ, ◌+◌, Bool, true, false, cond, List, [], ◌∷◌, Option, Some, None}
use Rattle.openapi_node.specs.Place.{Step, Place}
use Rattle.openapi_node.specs.Tree.{Tree, Members, size_of}
use Rattle.openapi_tables.specs.Lists.{same_text}
use Rattle.openapi_tables.specs.Tree.{Entry, of_members, members_list}
use Rattle.openapi_tables.specs.Kind.{Kind, by, a_schema, a_schema_kind, Class, extensions, callback_names, path_names}
use Rattle.openapi_tables.specs.Kind.{status_names, Row, row, either, class, constant, Tables}
use Rattle.openapi_tables.specs.Members.{own, sort, any_sort, checked_rows}
use Rattle.openapi_tables.specs.Conforms.{root_conforms, row_holds}
use Rattle.openapi_tables.specs.Form.{Form}
use Rattle.openapi_tables.specs.Read.{root_form, slot}
use Rattle.openapi_tables.specs.Faults.{Asking, Cause, asked, causes}
use Rattle.openapi_tables.specs.Laws.{Among}

-- whether two classes are the same
abbrev pub same_class : Class → Class → Bool
same_class extensions extensions = true
same_class callback_names callback_names = true
same_class path_names path_names = true
same_class status_names status_names = true
same_class _ _ = false

-- whether a row has a name, as its only name or as the first of its two names
abbrev pub is_named : List ℕ → Row → Bool
is_named n (row a m k) = same_text a n
is_named n (either a j b k) = same_text a n
is_named n (class c k) = false
is_named n (constant a v) = same_text a n

-- whether a row is that of a class of names
abbrev pub is_class : Class → Row → Bool
is_class c (row a m k) = false
is_class c (either a j b k) = false
is_class c (class d k) = same_class c d
is_class c (constant a v) = false

-- the first row that passes a test
abbrev pub row_where : (Row → Bool) → List Row → Option Row
row_where p [] = None
row_where p (w ∷ ws) = cond (p w) (Some w) (row_where p ws)

-- the rows that a kind requires of an object, whatever the object holds: those of its table, and for a schema also all
-- kind names. For every other kind the list is empty: there are no rows, or they depend on the object
abbrev pub rows_asked : Tables → Kind → List Row
rows_asked T (by i) = T i
rows_asked T a_schema = checked_rows T a_schema (sort any_sort)
rows_asked T a_schema_kind = checked_rows T a_schema_kind (sort any_sort)
rows_asked T _ = []

-- whether a row holds for the members of an object
unfoldable pub row_conforms : Tables → Row → Members → Bool
row_conforms T w ms = row_holds (of_members (root_conforms T) ms) w

-- the form that a row reads from the members of an object
unfoldable pub row_form : Tables → Row → Members → Form
row_form T w ms = slot (of_members (root_form T) ms) w

-- a row holds for the members, and reads a form from them
abbrev pub RowGives : Tables → Row → Members → Form → Type 0
RowGives T w ms f = (row_conforms T w ms ≡ true) × (row_form T w ms ≡ f)

-- each row holds for the members, and reads the form at its index. There are as many rows as forms
abbrev pub AreRows : Tables → List Row → List Form → Members → Type 0
AreRows T [] [] ms = Unit {0}
AreRows T [] (f ∷ fs) ms = ⊥
AreRows T (w ∷ ws) [] ms = ⊥
AreRows T (w ∷ ws) (f ∷ fs) ms = RowGives T w ms f × AreRows T ws fs ms

-- the number of values in the nodes of members, at every depth
abbrev pub weight : List (Entry Tree) → ℕ
weight [] = 0
weight (e ∷ es) = size_of e.value + weight es

-- the number of values in the members that a row takes, at every depth
unfoldable pub row_weight : Row → Members → ℕ
row_weight w ms = weight (own w (members_list ms))

-- the number of values in the members that rows take, added row by row
abbrev pub rows_weight : List Row → Members → ℕ
rows_weight [] ms = 0
rows_weight (w ∷ ws) ms = row_weight w ms + rows_weight ws ms

-- the requirement of a kind for a node at a location
abbrev pub asking : Place → Kind → Tree → Asking
asking p k t = record { place = p; kind = k; tree = t }

-- The cause `c` is found at the location `p` in the node `t` of the kind `k`: a value of which some kind is required
-- there has that cause itself.
pub record Broken (T : Tables) (k : Kind) (t : Tree) (p : Place) (c : Cause) : Type 0 where
  pub kind : Kind
  pub tree : Tree
  pub is_asked : Among (asking p kind tree) (asked T k t)
  pub breaks : Among c (causes T kind tree)

-- each requirement of the kind `l` in the node `u` is, one step `s` further, a requirement of the kind `k` in the node
-- `t`
abbrev pub StepsTo : Tables → Kind → Tree → Step → Kind → Tree → Type 0
StepsTo T k t s l u =
    (p : Place) (j : Kind) (v : Tree) → Among (asking p j v) (asked T l u) → Among (asking (s ∷ p) j v) (asked T k t)
