-- The node that a form is written as (`print`). `clean` reads a node and writes its form, and `again` writes a form and
-- reads the result.
use Rattle.std.specs.Prelude.{ℕ, Bool, true, false, cond, List, [], ◌∷◌, codes}
use Rattle.openapi_tables.specs.Lists.{each, join, same_text}
use Rattle.openapi_node.specs.Tree.{Tree, null, flag, text, list, object, items_of}
use Rattle.openapi_tables.specs.Tree.{members_list, members_of, Entry}
use Rattle.openapi_tables.specs.Kind.{Kind, null_or, list_of, map_of, ref_to, flag_or_schema, a_schema, Mode, optional}
use Rattle.openapi_tables.specs.Kind.{listed, flagged, formatted, Row, row, either, class, constant, text_of, Tables}
use Rattle.openapi_tables.specs.Members.{rows_of}
use Rattle.openapi_tables.specs.Form.{Form, absent, leaf, unset, sequence, named, deciding, no_forms, no_named, Key}
use Rattle.openapi_tables.specs.Form.{name, coded, Pair, Face, f_leaf, f_code, f_known, f_other, f_reference, f_item}
use Rattle.openapi_tables.specs.Form.{f_sequence, f_named, f_deciding, f_fields, Shown, of_form}
use Rattle.openapi_tables.specs.Read.{form}

-- a form, with the node that it is written as under each kind
abbrev pub Prints : Type 0
Prints = Shown (Kind → Tree)

-- the name that a key is written as
abbrev pub text_of_key : Key → List ℕ
text_of_key (name n) = n
text_of_key (coded c) = text_of c

-- whether a row of a mode writes nothing for a slot
abbrev pub is_silent : Mode → Form → Bool
is_silent optional absent = true
is_silent listed (sequence no_forms) = true
is_silent listed (named no_named) = true
is_silent flagged (leaf (flag false)) = true
is_silent formatted unset = true
is_silent _ _ = false

-- a list of one member
abbrev pub one : List ℕ → Tree → List (Entry Tree)
one n t = record { name = n; value = t } ∷ []

-- the members of a node that is an object, and otherwise none
abbrev pub members_in : Tree → List (Entry Tree)
members_in (object ms) = members_list ms
members_in _ = []

-- the member of a row of two names: it has the name that was read
abbrev pub either_print : List ℕ → Kind → Kind → Prints → Form → List (Entry Tree)
either_print a j k p (deciding n f) = one n (p.answer (cond (same_text a n) j k))
either_print a j k p _ = []

-- the members that a row writes for its slot
abbrev pub row_print : Row → Prints → List (Entry Tree)
row_print (row n m k) p = cond (is_silent m p.form) [] (one n (p.answer k))
row_print (either a j b k) p = either_print a j k p p.form
row_print (class c k) p = members_in (p.answer (map_of k))
row_print (constant n v) p = one n (text v)

-- the members that rows write for their slots, in the order of the rows
abbrev pub rows_print : List Row → List Prints → List (Entry Tree)
rows_print [] ps = []
rows_print (w ∷ ws) [] = []
rows_print (w ∷ ws) (p ∷ ps) = join (row_print w p) (rows_print ws ps)

-- the entries of a map as members, in their order
abbrev pub pair_prints : Kind → List (Pair Prints) → List (Entry Tree)
pair_prints k [] = []
pair_prints k (e ∷ es) = record { name = text_of_key e.key; value = e.value.answer k } ∷ pair_prints k es

-- the kind without the alternatives null and boolean: `null_or` is removed, and `flag_or_schema` is replaced with a
-- reference or a schema
abbrev pub bare : Kind → Kind
bare (null_or k) = bare k
bare flag_or_schema = ref_to a_schema
bare k = k

-- the node that a root is written as, under a kind without alternatives (see `bare`)
abbrev pub bare_print : (T : Tables) → Face Prints → Kind → Tree
bare_print T (f_leaf t) k = t
bare_print T (f_code c) k = text (text_of c)
bare_print T (f_known s) k = text s
bare_print T (f_other s) k = text s
bare_print T (f_reference s) k = object (members_of (one (codes "$ref") (text s)))
bare_print T (f_item p) (ref_to k) = p.answer k
bare_print T (f_sequence ps) (list_of k) = list (items_of (each (λ p. p.answer k) ps))
bare_print T (f_named es) (map_of k) = object (members_of (pair_prints k es))
bare_print T (f_fields c ps) k = object (members_of (rows_print (rows_of T k c) ps))
bare_print T _ k = null

-- the node that a root is written as. A slot of two names is written as the form that it contains
abbrev pub face_print : (T : Tables) → Face Prints → Kind → Tree
face_print T (f_deciding n p) k = p.answer k
face_print T p k = bare_print T p (bare k)

-- the node that a form is written as under a kind
abbrev pub print : (T : Tables) → Kind → Form → Tree
print T k f = of_form (face_print T) f k

-- a node normalized: read and written once
abbrev pub clean : (T : Tables) → Kind → Tree → Tree
clean T k t = print T k (form T k t)

-- a form written once and read again
abbrev pub again : (T : Tables) → Kind → Form → Form
again T k f = form T k (print T k f)
