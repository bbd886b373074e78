-- A form is proper if and only if it is shaped and none of its names and codes is unwritable.
use Rattle.openapi_tables.proofs.BoolLaws.{assoc, shuffle, and_true, and_false}
use Rattle.std.proofs.Common.{ℕ, suc, Bool, true, false, not, cond, ◌&&◌, ◌||◌, List, [], ◌∷◌, Option, Some, None, ◌≡◌}
use Rattle.std.proofs.Common.{refl, sym, ap, ◌∙◌, subst, codes}
use Rattle.std.proofs.lemmas.Bool.{and_parts, and_from, both_ways}
use Rattle.openapi_tables.specs.Lists.{join, every, same_text, has, is_empty}
use Rattle.openapi_node.specs.Tree.{Tree, null, flag}
use Rattle.openapi_node.specs.Place.{Step, named as at_name, indexed as at_index}
use Rattle.openapi_tables.specs.Kind.{Kind, null_or, format, list_of, map_of, ref_to, flag_or_schema, status_code}
use Rattle.openapi_tables.specs.Kind.{Class, status_names, Row, row, either, class, constant, Mode, optional, nullable}
use Rattle.openapi_tables.specs.Kind.{Code, writable_code, code_of, text_of, begins, Tables, is_code}
use Rattle.openapi_tables.specs.Members.{rows_of}
use Rattle.openapi_tables.specs.Form.{Form, absent, leaf, of_code, known, other, unset, reference, an_item, sequence}
use Rattle.openapi_tables.specs.Form.{named, deciding, fields, Forms, no_forms, more, forms_list, Named, no_named}
use Rattle.openapi_tables.specs.Form.{under, named_list, Key, name, coded, Pair, of_forms, of_named, f_code, f_item}
use Rattle.openapi_tables.specs.Form.{f_known, f_named, f_other, f_reference, f_sequence, f_unset}
use Rattle.openapi_tables.specs.Read.{same_key, code_key, same_code}
use Rattle.openapi_tables.specs.Print.{bare, text_of_key}
use Rattle.openapi_tables.specs.Proper.{Held, of_kind, is_name, is_key, is_written, leaf_proper, choice_proper}
use Rattle.openapi_tables.specs.Proper.{may_be_absent, row_proper, rows_proper, face_held, face_proper, proper, shaped}
use Rattle.openapi_tables.specs.Proper.{bare_held, is_absent}
use Rattle.openapi_tables.specs.Unwritable.{Places, each_below, lost_items, lost_pairs, lost_keys, row_lost, rows_lost}
use Rattle.openapi_tables.specs.Unwritable.{face_lost, unwritable, bare_lost}
use Rattle.openapi_tables.specs.Laws.{Writable}
use Rattle.openapi_tables.proofs.ListLaws.{Each, each_under}
use Rattle.openapi_tables.proofs.FormLaws.{show, Within, Deep, by_deep}
use Rattle.openapi_tables.proofs.FaultLaws.{is_empty-join}
use Rattle.openapi_tables.proofs.ReadProper.{same_key-refl}
use Rattle.openapi_tables.proofs.RowLaws.{not_both}
use Rattle.openapi_tables.proofs.CodeLaws.{code_of-text_of, writable-code_of, same_code_eq}

-- a form is proper if and only if it is shaped and has no unwritable location
abbrev Splits : (T : Tables) → Form → Type 0
Splits T f = (k : Kind) → proper T k f ≡ (shaped T k f && is_empty (unwritable T k f))

is_empty-below : (s : Step) (ps : Places) → is_empty (each_below s ps) ≡ is_empty ps
is_empty-below s [] = refl
is_empty-below s (p ∷ ps) = refl

two : (a b c d e f : Bool) → a ≡ (b && c) → d ≡ (e && f) → (a && d) ≡ ((b && e) && (c && f))
two a b c d e f p q = ap (λ x. x && d) p ∙ ap (λ x. (b && c) && x) q ∙ shuffle b c e f

lost_at : (s : Step) (ps qs : Places) → (is_empty ps && is_empty qs) ≡ is_empty (join (each_below s ps) qs)
lost_at s ps qs = sym (is_empty-join (each_below s ps) qs ∙ ap (λ b. b && is_empty qs) (is_empty-below s ps))

items_split : (T : Tables) (k : Kind) (i : ℕ) (fs : Forms) → Each (Splits T) (forms_list fs)
    → every (λ (p : Held). p.answer (of_kind k)) (of_forms (face_proper T) fs)
    ≡ (every (λ (p : Held). p.answer (of_kind k)) (of_forms (face_held is_key T) fs)
    && is_empty (lost_items k i (of_forms (face_lost T) fs)))
items_split T k i no_forms g = refl
items_split T k i (more f fs) g =
    two (proper T k f) (shaped T k f) (is_empty (unwritable T k f)) _ _ _ (g.0 k) (items_split T k (suc i) fs g.1)
    ∙ ap (λ b. (shaped T k f && every (λ (p : Held). p.answer (of_kind k)) (of_forms (face_held is_key T) fs)) && b)
    (lost_at (at_index i) (unwritable T k f) (lost_items k (suc i) (of_forms (face_lost T) fs)))

name_split : (b p s l : Bool) → p ≡ (s && l) → (b && p) ≡ ((b && s) && l)
name_split b p s l e = ap (λ x. b && x) e ∙ assoc b s l

pairs_split : (T : Tables) (k : Kind) (es : Named) → Each (λ (e : Pair Form). Splits T e.value) (named_list es)
    → every (λ (e : Pair Held). is_name e.key && e.value.answer (of_kind k)) (of_named (face_proper T) es)
    ≡ (every (λ (e : Pair Held). is_name e.key && e.value.answer (of_kind k)) (of_named (face_held is_key T) es)
    && is_empty (lost_pairs k (of_named (face_lost T) es)))
pairs_split T k no_named g = refl
pairs_split T k (under n f es) g =
    two (is_name n && proper T k f) (is_name n && shaped T k f) (is_empty (unwritable T k f)) _ _ _
    (name_split (is_name n) (proper T k f) _ _ (g.0 k)) (pairs_split T k es g.1)
    ∙ ap (λ b. ((is_name n && shaped T k f) && every (λ (e : Pair Held). is_name e.key && e.value.answer (of_kind k))
    (of_named (face_held is_key T) es)) && b)
    (lost_at (at_name (text_of_key n)) (unwritable T k f) (lost_pairs k (of_named (face_lost T) es)))

-- a key that is written as a name of a class is a key of it (`is_key`)
written_is_key : (c : Class) (n : Key) → is_written c n ≡ (is_key c n && is_written c n)
written_is_key status_names (name n) = at (code_of n)
  where
    at : (o : Option Code) → (same_key (code_key n o) (name n) && is_code o) ≡ false
    at None = and_false (same_key (name n) (name n))
    at (Some c) = refl
written_is_key c (name n) = refl
written_is_key c n = refl

class_bools : (q w s u r l m : Bool) → (((q && w) && (s && u)) && (r && (l && m)))
    ≡ (((q && s) && r) && ((w && l) && (u && m)))
class_bools true true true true true l m = refl
class_bools true true true true false l m = refl
class_bools true true true false true true m = refl
class_bools true true true false true false m = refl
class_bools true true true false false l m = refl
class_bools true true false u r l m = refl
class_bools true false true u true l m = refl
class_bools true false true u false l m = refl
class_bools true false false u r l m = refl
class_bools false w s u r l m = refl

class_split : (T : Tables) (c : Class) (k : Kind) (es : Named)
    → Each (λ (e : Pair Form). Splits T e.value) (named_list es)
    → every (λ (e : Pair Held). is_written c e.key && e.value.answer (of_kind k)) (of_named (face_proper T) es)
    ≡ (every (λ (e : Pair Held). is_key c e.key && e.value.answer (of_kind k)) (of_named (face_held is_key T) es)
    && (is_empty (lost_keys c es) && is_empty (lost_pairs k (of_named (face_lost T) es))))
class_split T c k no_named g = refl
class_split T c k (under n f es) g =
    ap (λ b. (b && proper T k f) && every (λ (e : Pair Held). is_written c e.key && e.value.answer (of_kind k))
    (of_named (face_proper T) es)) (written_is_key c n)
    ∙ ap (λ b. ((is_key c n && is_written c n) && b)
    && every (λ (e : Pair Held). is_written c e.key && e.value.answer (of_kind k)) (of_named (face_proper T) es))
    (g.0 k)
    ∙ ap (λ b. ((is_key c n && is_written c n) && (shaped T k f && is_empty (unwritable T k f))) && b)
    (class_split T c k es g.1)
    ∙ class_bools (is_key c n) (is_written c n) (shaped T k f) (is_empty (unwritable T k f)) rest
    (is_empty (lost_keys c es)) (is_empty (lost_pairs k (of_named (face_lost T) es)))
    ∙ ap (λ b. ((is_key c n && shaped T k f) && rest)
    && (b && (is_empty (unwritable T k f) && is_empty (lost_pairs k (of_named (face_lost T) es)))))
    (key_at (is_written c n))
    ∙ ap (λ b. ((is_key c n && shaped T k f) && rest) && (is_empty (lost_keys c (under n f es)) && b))
    (lost_at (at_name (text_of_key n)) (unwritable T k f) (lost_pairs k (of_named (face_lost T) es)))
  where
    rest : Bool
    rest = every (λ (e : Pair Held). is_key c e.key && e.value.answer (of_kind k)) (of_named (face_held is_key T) es)

    key_at : (b : Bool) → (b && is_empty (lost_keys c es))
        ≡ is_empty (cond b (lost_keys c es) ((at_name (text_of_key n) ∷ []) ∷ lost_keys c es))
    key_at true = refl
    key_at false = refl

-- a slot that is absent, where its mode allows that, has no unwritable location
absent_lost : (T : Tables) (m : Mode) (k : Kind) (f : Form) → may_be_absent m f ≡ true
    → is_empty (unwritable T k f) ≡ true
absent_lost T optional k absent h = refl
absent_lost T nullable k absent h = refl
absent_lost T m k f h = cc

or_absent : (b p s l : Bool) → (b ≡ true → l ≡ true) → p ≡ (s && l) → (b || p) ≡ ((b || s) && l)
or_absent true p s l h e = sym (h refl)
or_absent false p s l h e = e

row_split : (T : Tables) (w : Row) (f : Form) → Deep (Splits T) f
    → row_proper w (show (face_proper T) f)
    ≡ (row_proper w (show (face_held is_key T) f) && is_empty (row_lost w (show (face_lost T) f)))
row_split T (row n m k) f g =
    or_absent (may_be_absent m f) (proper T k f) (shaped T k f) (is_empty (unwritable T k f)) (absent_lost T m k f)
    (g.0 k)
    ∙ ap (λ b. (may_be_absent m f || shaped T k f) && b) (sym (is_empty-below (at_name n) (unwritable T k f)))
row_split T (either a j b k) (deciding n f) g =
    let i = cond (same_text a n) j k in
    name_split (same_text a n || same_text b n) (proper T i f) (shaped T i f) (is_empty (unwritable T i f)) (g.1 i)
    ∙ ap (λ x. ((same_text a n || same_text b n) && shaped T i f) && x)
    (sym (is_empty-below (at_name n) (unwritable T i f)))
row_split T (either a j b k) f g = refl
row_split T (class c k) (named es) g =
    class_split T c k es g.1
    ∙ ap (λ b. every (λ (e : Pair Held). is_key c e.key && e.value.answer (of_kind k))
    (of_named (face_held is_key T) es) && b)
    (sym (is_empty-join (lost_keys c es) (lost_pairs k (of_named (face_lost T) es))))
row_split T (class c k) f g = refl
row_split T (constant n v) f g = and_true (is_absent f)

rows_split : (T : Tables) (ws : List Row) (fs : Forms) → Each (Deep (Splits T)) (forms_list fs)
    → rows_proper ws (of_forms (face_proper T) fs)
    ≡ (rows_proper ws (of_forms (face_held is_key T) fs) && is_empty (rows_lost ws (of_forms (face_lost T) fs)))
rows_split T (w ∷ ws) (more f fs) g =
    two (row_proper w (show (face_proper T) f)) (row_proper w (show (face_held is_key T) f))
    (is_empty (row_lost w (show (face_lost T) f))) _ _ _ (row_split T w f g.0) (rows_split T ws fs g.1)
    ∙ ap (λ b. (row_proper w (show (face_held is_key T) f) && rows_proper ws (of_forms (face_held is_key T) fs)) && b)
    (sym (is_empty-join (row_lost w (show (face_lost T) f)) (rows_lost ws (of_forms (face_lost T) fs))))
rows_split T ws no_forms g = refl
rows_split T ws fs g = refl

-- a leaf is proper if and only if it is shaped and has no unwritable location
leaf_split : (T : Tables) (t : Tree) (k : Kind)
    → proper T k (leaf t) ≡ (shaped T k (leaf t) && is_empty (unwritable T k (leaf t)))
leaf_split T null (null_or k) = refl
leaf_split T null k = and_true (proper T k (leaf null))
leaf_split T (flag b) flag_or_schema = refl
leaf_split T (flag b) k = and_true (proper T k (leaf (flag b)))
leaf_split T t k = and_true (leaf_proper t (bare k))

code_split : (T : Tables) (c : Code) (j : Kind)
    → bare_held is_written T (f_code c) j ≡ (bare_held is_key T (f_code c) j && is_empty (bare_lost T (f_code c) j))
code_split T c status_code = at (is_written status_names (coded c))
  where
    at : (b : Bool) → b ≡ is_empty (cond b [] ((at_name (text_of c) ∷ []) ∷ []))
    at true = refl
    at false = refl
code_split T c j = refl

known_split : (T : Tables) (u : List ℕ) (j : Kind)
    → bare_held is_written T (f_known u) j ≡ (bare_held is_key T (f_known u) j && is_empty (bare_lost T (f_known u) j))
known_split T u (format ws b) = and_true (has ws u)
known_split T u j = refl

other_split : (T : Tables) (u : List ℕ) (j : Kind)
    → bare_held is_written T (f_other u) j ≡ (bare_held is_key T (f_other u) j && is_empty (bare_lost T (f_other u) j))
other_split T u (format ws b) = refl
other_split T u j = refl

unset_split : (T : Tables) (j : Kind) → bare_held is_written T f_unset j
    ≡ (bare_held is_key T f_unset j && is_empty (bare_lost T f_unset j))
unset_split T (format ws b) = and_true b
unset_split T j = refl

reference_split : (T : Tables) (u : List ℕ) (j : Kind)
    → bare_held is_written T (f_reference u) j
    ≡ (bare_held is_key T (f_reference u) j && is_empty (bare_lost T (f_reference u) j))
reference_split T u (ref_to k) = refl
reference_split T u j = refl

item_split : (T : Tables) (f : Form) → Splits T f → (j : Kind)
    → bare_held is_written T (f_item (show (face_proper T) f)) j
    ≡ (bare_held is_key T (f_item (show (face_held is_key T) f)) j
    && is_empty (bare_lost T (f_item (show (face_lost T) f)) j))
item_split T f g (ref_to k) = g k
item_split T f g j = refl

sequence_split : (T : Tables) (fs : Forms) → Each (Splits T) (forms_list fs) → (j : Kind)
    → bare_held is_written T (f_sequence (of_forms (face_proper T) fs)) j
    ≡ (bare_held is_key T (f_sequence (of_forms (face_held is_key T) fs)) j
    && is_empty (bare_lost T (f_sequence (of_forms (face_lost T) fs)) j))
sequence_split T fs g (list_of k) = items_split T k 0 fs g
sequence_split T fs g j = refl

map_split : (T : Tables) (es : Named) → Each (λ (e : Pair Form). Splits T e.value) (named_list es) → (j : Kind)
    → bare_held is_written T (f_named (of_named (face_proper T) es)) j
    ≡ (bare_held is_key T (f_named (of_named (face_held is_key T) es)) j
    && is_empty (bare_lost T (f_named (of_named (face_lost T) es)) j))
map_split T es g (map_of k) = pairs_split T k es g
map_split T es g j = refl

step : (T : Tables) (f : Form) → Within (Deep (Splits T)) f → Splits T f
step T absent g k = refl
step T (leaf t) g k = leaf_split T t k
step T (of_code c) g k = code_split T c (bare k)
step T (known u) g k = known_split T u (bare k)
step T (other u) g k = other_split T u (bare k)
step T unset g k = unset_split T (bare k)
step T (reference u) g k = reference_split T u (bare k)
step T (an_item f) g k = item_split T f g.0 (bare k)
step T (sequence fs) g k =
    sequence_split T fs (each_under (λ (f : Form) (x : Deep (Splits T) f). x.0) (forms_list fs) g) (bare k)
step T (named es) g k =
    map_split T es (each_under (λ (e : Pair Form) (x : Deep (Splits T) e.value). x.0) (named_list es) g) (bare k)
step T (deciding n f) g k = refl
step T (fields c fs) g k = name_split (choice_proper (bare k) c) _ _ _ (rows_split T (rows_of T (bare k) c) fs g)

splits : (T : Tables) (f : Form) → Splits T f
splits T f = by_deep (Splits T) (step T) f

nothing : (ps : Places) → is_empty ps ≡ true → ps ≡ []
nothing [] h = refl
nothing (p ∷ ps) h = cc

code_written : (c : Code) (b : Bool) → writable_code c ≡ b → is_written status_names (coded c) ≡ b
code_written c true h =
    let p = code_of-text_of c h in
    ap (λ o. same_key (code_key (text_of c) o) (coded c) && is_code o) p ∙ ap (λ b. b && true) (same_key-refl (coded c))
code_written c false h = not_both (is_written status_names (coded c)) again
  where
    read : (o : Option Code) → code_of (text_of c) ≡ o
        → (same_key (code_key (text_of c) o) (coded c) && is_code o) ≡ true → writable_code c ≡ true
    read None e x = cc
    read (Some d) e x =
        subst (λ d. writable_code d ≡ true) (same_code_eq d c (and_parts (same_code d c) true x).0)
        (writable-code_of (text_of c) d e)

    again : is_written status_names (coded c) ≡ true → ⊥
    again x = both_ways (writable_code c) h (read (code_of (text_of c)) refl x)

text_written : (n : List ℕ) (b : Bool) → (same_key (name n) (name n) && b) ≡ b
text_written n b = ap (λ x. x && b) (same_key-refl (name n))

-- a form is proper if and only if it is shaped and nothing in it is unwritable: the law `Writable`
pub writable : Writable
writable = (
  (λ T k f. (
    (λ h. let p = and_parts (shaped T k f) (is_empty (unwritable T k f)) (sym (splits T f k) ∙ h) in
        (p.0, nothing (unwritable T k f) p.1)),
    (λ h. splits T f k ∙ and_from (shaped T k f) (is_empty (unwritable T k f)) h.0 (ap is_empty h.1)),
  )),
  (λ n. text_written n (begins (codes "x-") n)),
  (λ n. text_written n (not (begins (codes "x-") n))),
  (λ n. text_written n (begins (codes "/") n)),
  (λ c. code_written c (writable_code c) refl),
)
