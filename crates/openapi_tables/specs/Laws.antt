-- The laws that the functions in the module `laws` have as their contracts.
use Rattle.std.specs.Prelude.{not, ◌≤◌, ◌*◌, ℕ, Bool, true, false, cond, ◌&&◌, ◌||◌, List, [], ◌∷◌, Some, None, ◌≡◌, ◌↔◌}
use Rattle.std.specs.Prelude.{◌⊎◌, codes}
use Rattle.openapi_tables.specs.Lists.{each, every, join, same_text, has}
use Rattle.openapi_node.specs.Tree.{Tree, text, list, object, items_of, size_of}
use Rattle.openapi_tables.specs.Tree.{members_of, Entry, on_entry}
use Rattle.openapi_tables.specs.Kind.{Kind, by, xml_object, tagged, a_schema, a_schema_kind, ref_to, flag_or_schema}
use Rattle.openapi_tables.specs.Kind.{Tables, Class, Code, Row, Mode, row, either, class, list_of, map_of}
use Rattle.openapi_tables.specs.Kind.{code_of, text_of, writable_code, takes, extensions, callback_names, path_names}
use Rattle.openapi_tables.specs.Kind.{status_names, begins}
use Rattle.openapi_tables.specs.Members.{Choice, choice, rows_of, held, kind_names, own, is_null}
use Rattle.openapi_tables.specs.Tables.{tables_before_callbacks, tables_before_xml, final_tables}
use Rattle.openapi_tables.specs.Form.{Form, reference, name, coded}
use Rattle.openapi_tables.specs.Read.{form}
use Rattle.openapi_tables.specs.Print.{print, clean, again, members_in, is_silent, one}
use Rattle.openapi_tables.specs.Sound.{sound, tables_sound, type_kinds, tables_small}
use Rattle.openapi_tables.specs.Stays.{stays}
use Rattle.openapi_tables.specs.Proper.{is_written, proper, shaped}
use Rattle.openapi_tables.specs.Unwritable.{unwritable}
use Rattle.openapi_node.specs.Named.{well_named}
use Rattle.openapi_tables.specs.Distinct.{distinct}
use Rattle.openapi_tables.specs.Conforms.{conforms, text_in}
use Rattle.openapi_tables.specs.Faults.{Asking, Cause, asked, causes}

-- the three lists of tables are well made, and so are the kinds of the types. No table and no sort of schema has two
-- rows that are written if nothing was read
abbrev pub WellMade : Type 0
WellMade =
    ((tables_sound tables_before_callbacks ≡ true) × (tables_sound tables_before_xml ≡ true)
    × (tables_sound final_tables ≡ true))
    × ((tables_small tables_before_callbacks ≡ true) × (tables_small tables_before_xml ≡ true)
    × (tables_small final_tables ≡ true))
    × ((every (sound tables_before_callbacks) type_kinds ≡ true) × (every (sound tables_before_xml) type_kinds ≡ true)
    × (every (sound final_tables) type_kinds ≡ true))

-- a writable code is read again from its text, and two writable codes with the same text are the same
abbrev pub Codes : Type 0
Codes = ((c : Code) → writable_code c ≡ true → code_of (text_of c) ≡ Some c)
    × ((c d : Code) → writable_code c ≡ true → writable_code d ≡ true → text_of c ≡ text_of d → c ≡ d)

-- whether a reference may replace a value of a kind
abbrev pub may_refer : Kind → Bool
may_refer (ref_to k) = true
may_refer flag_or_schema = true
may_refer _ = false

-- an object with a string at `$ref`, where a reference is allowed, is a reference, whatever else it holds: it conforms,
-- and is read as one
abbrev pub References : Type 0
References = (T : Tables) (k : Kind) (es : List (Entry Tree)) (s : List ℕ) → may_refer k ≡ true
    → held (codes "$ref") es ≡ text s
    → (form T k (object (members_of es)) ≡ reference s) × (conforms T k (object (members_of es)) ≡ true)

-- the kind that applies to an object that is not a reference
abbrev pub item_kind : Kind → Kind
item_kind (ref_to k) = item_kind k
item_kind flag_or_schema = a_schema
item_kind k = k

-- whether a name has influence on the rows by which an object is read, or on whether it is a reference
abbrev pub steers : Kind → List ℕ → Bool
steers (tagged n cs) m = same_text n m
steers a_schema m = has kind_names m
steers a_schema_kind m = has kind_names m
steers (ref_to k) m = same_text (codes "$ref") m || steers k m
steers flag_or_schema m = same_text (codes "$ref") m || has kind_names m
steers _ m = false

-- `P` holds for each element of a list
abbrev pub Every : {A : Type 0} → (A → Type 0) → List A → Type 0
Every P [] = Unit {0}
Every P (x ∷ xs) = P x × Every P xs

-- an object under a kind has the choice `c` of rows, if it is not a reference
abbrev pub ReadBy : Kind → Choice → List (Entry Tree) → Type 0
ReadBy k c es = choice (item_kind k) es ≡ Some c

-- the same form is read from two objects, and both conform or neither does
abbrev pub ReadAlike : (T : Tables) → Kind → List (Entry Tree) → List (Entry Tree) → Type 0
ReadAlike T k es ds = (form T k (object (members_of es)) ≡ form T k (object (members_of ds)))
    × (conforms T k (object (members_of es)) ≡ conforms T k (object (members_of ds)))

-- a member may be added or removed without effect if no row takes it, it is not the tag, and its name does not
-- distinguish the sorts of schemas. `$ref` is excluded where a reference is allowed
abbrev pub Ignored : Type 0
Ignored = (T : Tables) (k : Kind) (c : Choice) (before after : List (Entry Tree)) (e : Entry Tree)
    → ReadBy k c (join before after) → steers k e.name ≡ false
    → Every (λ w. takes w e.name ≡ false) (rows_of T (item_kind k) c)
    → ReadAlike T k (join before (e ∷ after)) (join before after)

-- two neighboring members with different names may be swapped if no row takes both
abbrev pub Order : Type 0
Order = (T : Tables) (k : Kind) (c : Choice) (before after : List (Entry Tree)) (d e : Entry Tree)
    → ReadBy k c (join before (d ∷ e ∷ after)) → same_text d.name e.name ≡ false
    → Every (λ w. (takes w d.name && takes w e.name) ≡ false) (rows_of T (item_kind k) c)
    → ReadAlike T k (join before (e ∷ d ∷ after)) (join before (d ∷ e ∷ after))

-- x is an element of a list
abbrev pub Among : {A : Type 0} → A → List A → Type 0
Among x [] = ⊥
Among x (y ∷ ys) = (x ≡ y) ⊎ Among x ys

-- whether the members of a class keep their names and their positions. Status codes do not: their names are written in
-- capitals, and the later value of a repeated code takes the position of the earlier one
abbrev pub keeps_names : Class → Bool
keeps_names status_names = false
keeps_names _ = true

-- the members of a normalized object that a row takes
abbrev pub cleaned_by : (T : Tables) → Kind → Row → List (Entry Tree) → List (Entry Tree)
cleaned_by T k w es = own w (members_in (clean T k (object (members_of es))))

-- a row by which a kind reads an object under a choice, where the tables and the kind are well made
abbrev pub IsRowOf : (T : Tables) → Kind → Choice → List (Entry Tree) → Row → Type 0
IsRowOf T k c es w =
    (tables_sound T ≡ true) × (sound T k ≡ true) × (choice k es ≡ Some c) × Among w (rows_of T k c)

-- an object without a string at `$ref` is normalized as under its kind without references
abbrev pub ItemsKept : Type 0
ItemsKept = (T : Tables) (k : Kind) (es : List (Entry Tree)) → text_in (held (codes "$ref") es) ≡ None
    → clean T k (object (members_of es)) ≡ clean T (item_kind k) (object (members_of es))

-- the members of a class whose members keep their names, such as extensions or paths, are each normalized, in their
-- order
abbrev pub ClassesKept : Type 0
ClassesKept = (T : Tables) (k : Kind) (c : Choice) (es : List (Entry Tree)) (n : Class) (j : Kind)
    → IsRowOf T k c es (class n j) → keeps_names n ≡ true
    → cleaned_by T k (class n j) es ≡ each (on_entry (clean T j)) (own (class n j) es)

-- the first member at the name of a row, if it is not null, is normalized at that name, or omitted if the row does not
-- write its form
abbrev pub NamesKept : Type 0
NamesKept = (T : Tables) (k : Kind) (c : Choice) (es : List (Entry Tree)) (n : List ℕ) (m : Mode) (j : Kind)
    (e : Entry Tree) (others : List (Entry Tree))
    → IsRowOf T k c es (row n m j) → own (row n m j) es ≡ e ∷ others → is_null e.value ≡ false
    → cleaned_by T k (row n m j) es ≡ cond (is_silent m (form T j e.value)) [] (one n (clean T j e.value))

-- of the members that a row of two names takes, the first is normalized at its name
abbrev pub DecidersKept : Type 0
DecidersKept = (T : Tables) (k : Kind) (c : Choice) (es : List (Entry Tree)) (a b : List ℕ) (i j : Kind)
    (e : Entry Tree) (others : List (Entry Tree))
    → IsRowOf T k c es (either a i b j) → own (either a i b j) es ≡ e ∷ others
    → cleaned_by T k (either a i b j) es ≡ one e.name (clean T (cond (same_text a e.name) i j) e.value)

-- A map and a list are normalized value by value, in their order. In an object that is not a reference, each member
-- that is read and written is normalized by the kind of its row. The members of a class keep their order. So these six
-- laws lead from a document to any value in it.
abbrev pub OrderKept : Type 0
OrderKept =
    ((T : Tables) (k : Kind) (es : List (Entry Tree))
    → clean T (map_of k) (object (members_of es)) ≡ object (members_of (each (on_entry (clean T k)) es)))
    × ((T : Tables) (k : Kind) (ts : List Tree)
    → clean T (list_of k) (list (items_of ts)) ≡ list (items_of (each (clean T k) ts)))
    × ItemsKept × ClassesKept × NamesKept × DecidersKept

-- a form that was read from a node is read again from the node that it is written as, if and only if it `stays`
abbrev pub FirstValue : Type 0
FirstValue = (T : Tables) (k : Kind) (t : Tree) → tables_sound T ≡ true → sound T k ≡ true
    → (again T k (form T k t) ≡ form T k t) ↔ (stays T k (form T k t) ≡ true)

-- if some requirement at or below a node is not met, the node does not conform. If the node does not conform, some
-- requirement at or below it is not met
abbrev pub Faults : Type 0
Faults = (T : Tables) (k : Kind) (t : Tree) → tables_sound T ≡ true → sound T k ≡ true
    → ((a : Asking) (c : Cause) → Among a (asked T k t) → Among c (causes T a.kind a.tree) → conforms T k t ≡ false)
    × (conforms T k t ≡ false → (a : Asking) × (c : Cause) × Among a (asked T k t) × Among c (causes T a.kind a.tree))

-- a proper form is written as a node that conforms, and the form that is read from that node is proper. From every node
-- that conforms a proper form is read. Such a node is normalized to one of at most twice as many values, if the tables
-- are small
abbrev pub ReadsItsWriting : Type 0
ReadsItsWriting = (T : Tables) (k : Kind) → tables_sound T ≡ true → sound T k ≡ true
    → ((f : Form) → proper T k f ≡ true → (conforms T k (print T k f) ≡ true) × (proper T k (again T k f) ≡ true))
    × ((t : Tree) → conforms T k t ≡ true → proper T k (form T k t) ≡ true)
    × (tables_small T ≡ true → (t : Tree) → conforms T k t ≡ true → size_of (clean T k t) ≤ 2 * size_of t)

-- a proper form that is written and read once is in stable form: writing and reading it again changes nothing
abbrev pub Settles : Type 0
Settles = (T : Tables) (k : Kind) (f : Form) → tables_sound T ≡ true → sound T k ≡ true → proper T k f ≡ true
    → again T k (again T k f) ≡ again T k f

-- for nodes that conform, normalizing three times gives the same as twice. Two of them are the same after normalizing
-- twice if and only if the same form is read from both after normalizing once
abbrev pub Canonical : Type 0
Canonical = (T : Tables) (k : Kind) → tables_sound T ≡ true → sound T k ≡ true
    → ((t : Tree) → conforms T k t ≡ true → clean T k (clean T k (clean T k t)) ≡ clean T k (clean T k t))
    × ((t u : Tree) → conforms T k t ≡ true → conforms T k u ≡ true
    → (clean T k (clean T k t) ≡ clean T k (clean T k u)) ↔ (form T k (clean T k t) ≡ form T k (clean T k u)))

-- every node that conforms by the tables where callbacks are maps of path items also conforms by those where they may
-- be references and may have extensions
abbrev pub CallbacksKept : Type 0
CallbacksKept = (k : Kind) (t : Tree) → sound tables_before_xml k ≡ true
    → conforms tables_before_callbacks k t ≡ true → conforms tables_before_xml k t ≡ true

-- a node conforms by the tables with `xml` in schemas if and only if it conforms by those without it, and each value
-- that must be an XML Object conforms
abbrev pub XmlKept : Type 0
XmlKept = (k : Kind) (t : Tree) → sound tables_before_xml k ≡ true → sound final_tables k ≡ true
    → (conforms final_tables k t ≡ true)
    ↔ ((conforms tables_before_xml k t ≡ true)
    × ((a : Asking) → Among a (asked final_tables k t) → a.kind ≡ by xml_object
    → conforms final_tables (by xml_object) a.tree ≡ true))

-- a form that is read from a node in which no object has a name twice is `distinct`: no map in it has a key twice. A
-- proper form that is `distinct` is written as a node in which no object has a name twice
abbrev pub DistinctNames : Type 0
DistinctNames = (T : Tables) (k : Kind)
    → ((t : Tree) → well_named t ≡ true → distinct (form T k t) ≡ true)
    × ((f : Form) → tables_sound T ≡ true → sound T k ≡ true → proper T k f ≡ true → distinct f ≡ true
    → well_named (print T k f) ≡ true)

-- a form is proper if and only if it is that of a value of the kind, and it has no unwritable names and codes. Writable
-- are extensions that begin with `x-`, names of a callback that do not, paths that begin with `/`, and codes from 100
-- to 999 or ranges of one digit
abbrev pub Writable : Type 0
Writable =
    ((T : Tables) (k : Kind) (f : Form) → (proper T k f ≡ true) ↔ ((shaped T k f ≡ true) × (unwritable T k f ≡ [])))
    × ((n : List ℕ) → is_written extensions (name n) ≡ begins (codes "x-") n)
    × ((n : List ℕ) → is_written callback_names (name n) ≡ not (begins (codes "x-") n))
    × ((n : List ℕ) → is_written path_names (name n) ≡ begins (codes "/") n)
    × ((c : Code) → is_written status_names (coded c) ≡ writable_code c)
