-- Which forms the fields of a value can have (`shaped`), and which of these forms can be written and are accepted by a
-- writer (`proper`).
use Rattle.std.specs.Prelude.{ℕ, Bool, true, false, ◌&&◌, ◌||◌, cond, List, [], ◌∷◌}
use Rattle.openapi_tables.specs.Lists.{every, same_text, has}
use Rattle.openapi_node.specs.Tree.{Tree, null, flag, whole, text}
use Rattle.openapi_tables.specs.Kind.{Kind, any_text, any_flag, number, any_tree, one_of, format, null_or, list_of}
use Rattle.openapi_tables.specs.Kind.{map_of, by, tagged, ref_to, flag_or_schema, a_schema, a_schema_kind, status_code}
use Rattle.openapi_tables.specs.Kind.{within, Mode, optional, nullable, Class, status_names, Row, row, either, class}
use Rattle.openapi_tables.specs.Kind.{constant, in_class, Tables}
use Rattle.openapi_tables.specs.Members.{Choice, plain, tag, sort, is_case, rows_of}
use Rattle.openapi_tables.specs.Form.{Form, absent, Key, name, coded, Face, f_leaf, f_code, f_known, f_other, f_unset}
use Rattle.openapi_tables.specs.Form.{f_reference, f_item, f_sequence, f_named, f_deciding, f_fields, Shown, of_form}
use Rattle.openapi_tables.specs.Read.{same_key, key_in}
use Rattle.openapi_tables.specs.Print.{text_of_key, bare}

-- What a form is checked against: a kind, a class of names with the kind of its values, or two names of which the first
-- decides.
pub data Ask : Type 0 where
  of_kind : Kind → Ask
  of_class : Class → Kind → Ask
  of_either : List ℕ → Kind → List ℕ → Kind → Ask

-- a form, with whether it passes each check
abbrev pub Held : Type 0
Held = Shown (Ask → Bool)

-- whether a key is a text
abbrev pub is_name : Key → Bool
is_name (name n) = true
is_name (coded c) = false

-- whether a key is written as a name of the class and read again from it
abbrev pub is_written : Class → Key → Bool
is_written c n = same_key (key_in c (text_of_key n)) n && in_class c (text_of_key n)

-- whether a node conforms to a kind without alternatives (see `bare`), and is its own form
abbrev pub leaf_proper : Tree → Kind → Bool
leaf_proper t any_tree = true
leaf_proper (text s) any_text = true
leaf_proper (text s) (one_of ws) = has ws s
leaf_proper (flag b) any_flag = true
leaf_proper (whole z) (number w) = within w z
leaf_proper t k = false

-- whether an object of a kind may be read by a choice of rows
abbrev pub choice_proper : Kind → Choice → Bool
choice_proper (by i) plain = true
choice_proper (tagged n cs) (tag s) = is_case cs s
choice_proper a_schema (sort s) = true
choice_proper a_schema_kind (sort s) = true
choice_proper k c = false

-- whether a slot is absent, and the mode of its row allows that
abbrev pub may_be_absent : Mode → Form → Bool
may_be_absent optional absent = true
may_be_absent nullable absent = true
may_be_absent m f = false

-- whether a slot is absent
abbrev pub is_absent : Form → Bool
is_absent absent = true
is_absent f = false

-- whether a slot is valid for a row
abbrev pub row_proper : Row → Held → Bool
row_proper (row n m k) p = may_be_absent m p.form || p.answer (of_kind k)
row_proper (either a j b k) p = p.answer (of_either a j b k)
row_proper (class c k) p = p.answer (of_class c k)
row_proper (constant n v) p = is_absent p.form

-- whether slots are valid for rows, one slot for each row
abbrev pub rows_proper : List Row → List Held → Bool
rows_proper [] [] = true
rows_proper [] (p ∷ ps) = false
rows_proper (w ∷ ws) [] = false
rows_proper (w ∷ ws) (p ∷ ps) = row_proper w p && rows_proper ws ps

-- whether a key is what a class of names requires: a code for status codes, and otherwise a text
abbrev pub is_key : Class → Key → Bool
is_key status_names (coded c) = true
is_key status_names (name n) = false
is_key _ n = is_name n

-- whether the root of a form is valid under a kind without alternatives (see `bare`), where `q` is the test for the
-- keys of classes
abbrev pub bare_held : (Class → Key → Bool) → (T : Tables) → Face Held → Kind → Bool
bare_held q T (f_leaf t) k = leaf_proper t k
bare_held q T (f_code c) status_code = q status_names (coded c)
bare_held q T (f_known s) (format ws b) = has ws s
bare_held q T (f_other s) (format ws b) = true
bare_held q T f_unset (format ws b) = b
bare_held q T (f_reference s) (ref_to k) = true
bare_held q T (f_item p) (ref_to k) = p.answer (of_kind k)
bare_held q T (f_sequence ps) (list_of k) = every (λ p. p.answer (of_kind k)) ps
bare_held q T (f_named es) (map_of k) = every (λ e. is_name e.key && e.value.answer (of_kind k)) es
bare_held q T (f_fields c ps) k = choice_proper k c && rows_proper (rows_of T k c) ps
bare_held q T f k = false

-- whether the root of a form is valid under a kind. null may replace a value of `null_or`, and a boolean one of
-- `flag_or_schema`
abbrev pub kind_held : (Class → Key → Bool) → (T : Tables) → Face Held → Kind → Bool
kind_held q T (f_leaf null) (null_or k) = true
kind_held q T (f_leaf (flag b)) flag_or_schema = true
kind_held q T p k = bare_held q T p (bare k)

-- whether the keys of a class pass the test, and their values are valid under the kind
abbrev pub class_held : (Class → Key → Bool) → Class → Kind → Face Held → Bool
class_held q c k (f_named es) = every (λ e. q c e.key && e.value.answer (of_kind k)) es
class_held q c k f = false

-- whether a slot has one of two names, with a form that is valid under the kind of that name
abbrev pub either_proper : List ℕ → Kind → List ℕ → Kind → Face Held → Bool
either_proper a j b k (f_deciding n p) =
    (same_text a n || same_text b n) && p.answer (of_kind (cond (same_text a n) j k))
either_proper a j b k f = false

-- whether the root of a form passes a check
abbrev pub face_held : (Class → Key → Bool) → (T : Tables) → Face Held → Ask → Bool
face_held q T p (of_kind k) = kind_held q T p k
face_held q T p (of_class c k) = class_held q c k p
face_held q T p (of_either a j b k) = either_proper a j b k p

-- the same, where keys must be written as names that are read again
abbrev pub face_proper : (T : Tables) → Face Held → Ask → Bool
face_proper T = face_held is_written T

-- whether a form is that of a value of the kind, whatever its names and codes are
abbrev pub shaped : (T : Tables) → Kind → Form → Bool
shaped T k f = of_form (face_held is_key T) f (of_kind k)

-- whether a form is that of a value of the kind, and can be written
abbrev pub proper : (T : Tables) → Kind → Form → Bool
proper T k f = of_form (face_proper T) f (of_kind k)
