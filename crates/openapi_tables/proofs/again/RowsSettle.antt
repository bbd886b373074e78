-- A proper form that is written and read again stays: for rows.
use Rattle.openapi_tables.proofs.PlainLaws.{plain_no_object}
use Rattle.std.proofs.Common.{ℕ, Bool, true, false, not, cond, ◌&&◌, ◌||◌, List, [], ◌∷◌, ◌≡◌, refl, ap, ◌∙◌, subst}
use Rattle.std.proofs.Common.{⊎_elim}
use Rattle.std.proofs.lemmas.Bool.{and_parts, and_from, or_cases, both_ways}
use Rattle.openapi_tables.specs.Prelude.{Kind, Tables, Row, Class, Mode, a_schema, class, constant, either}
use Rattle.openapi_tables.specs.Prelude.{flag_or_schema, format, list_of, map_of, nullable, optional, ref_to, row, Form}
use Rattle.openapi_tables.specs.Prelude.{Key, Named, Pair, absent, deciding, forms_of, known, named, named_list, other}
use Rattle.openapi_tables.specs.Prelude.{sequence, each, every, has, same_text, is_null, own, sort_rows, again}
use Rattle.openapi_tables.specs.Prelude.{is_silent, one, print, row_print, face_proper, is_written, may_be_absent}
use Rattle.openapi_tables.specs.Prelude.{proper, row_proper, class_form, default_of, form, gather, key_in, name_slot}
use Rattle.openapi_tables.specs.Prelude.{slot_of_own, mode_fits, row_sound, sorts, sound, Checks, face_stays, row_stays}
use Rattle.openapi_tables.specs.Prelude.{rows_stay, stays, any_rows, array_rows, boolean_rows, object_rows, string_rows}
use Rattle.openapi_tables.specs.Prelude.{Entry, items_list, members_list}
use Rattle.openapi_tables.proofs.again.KindsBack.{stays-null_or}
use Rattle.openapi_tables.proofs.again.RowsStay.{stays-default, stays_values}
use Rattle.openapi_tables.proofs.again.FirstValue.{every_stays}
use Rattle.openapi_tables.proofs.FormLaws.{Deep, of_forms-of, show}
use Rattle.openapi_tables.proofs.KeyLaws.{Both, Both-gather}
use Rattle.openapi_tables.proofs.ListLaws.{Each, each_under, same_text_eq}
use Rattle.openapi_tables.proofs.PlainLaws.{is_plain}
use Rattle.openapi_tables.proofs.PrintLaws.{entry_of, printed}
use Rattle.openapi_tables.proofs.ReadLaws.{class_form-reads, pair_of, reads, slot_in}
use Rattle.openapi_tables.proofs.RowLaws.{Found}
use Rattle.openapi_tables.proofs.RowWrites.{SlotsProper, class_prints, of_class_entries}
use Rattle.openapi_tables.proofs.Taken.{Taken, as_fields, as_inner, as_list, taken}
use Rattle.openapi_tables.proofs.TreeLaws.{Inside, by_trees}
use Rattle.openapi_node.specs.Tree.{Tree, text}
use Rattle.openapi_tables.proofs.SoundLaws.{sound_pick}

-- if a form is proper for a sound kind, it stays when it is written and read again
abbrev pub Calm : (T : Tables) → Form → Type 0
Calm T f = (k : Kind) → sound T k ≡ true → proper T k f ≡ true → stays T k (again T k f) ≡ true

-- the form that is read from a node under a plain kind stays
abbrev pub PlainStays : (T : Tables) → Tree → Type 0
PlainStays T t = (k : Kind) → is_plain k ≡ true → stays T k (form T k t) ≡ true

-- a sequence stays if each of its forms does
pub list_stays : (T : Tables) (k : Kind) (fs : List Form) → Each (λ (f : Form). stays T k f ≡ true) fs
    → stays T (list_of k) (sequence (forms_of fs)) ≡ true
list_stays T k fs h = ap (λ (l : List Checks). every (λ (x : Checks). x.answer k) l) (of_forms-of (face_stays T) fs)
    ∙ every_stays T k fs h

plain_list : (T : Tables) (k : Kind) (ts : List Tree) → is_plain k ≡ true → Each (PlainStays T) ts
    → Each (λ (f : Form). stays T k f ≡ true) (each (form T k) ts)
plain_list T k [] h g = tt
plain_list T k (t ∷ ts) h g = (g.0 k h, plain_list T k ts h g.1)

plain_step : (T : Tables) (k : Kind) (t : Tree) (f : Form) → Taken T k t f → Inside (PlainStays T) t
    → is_plain k ≡ true → stays T k f ≡ true
plain_step T k t f (as_list j ts) g h =
    list_stays T j (each (form T j) (items_list ts)) (plain_list T j (items_list ts) h g)
plain_step T k t f (as_fields j c ms e) g h = absurd (plain_no_object j c (members_list ms) h e)
plain_step T k t f (as_inner j u x y) g h = stays-null_or T j x ∙ plain_step T j u x y g h
plain_step T k t f x g h = cc

-- the form that is read from a node under any plain kind stays
pub plain_stays : (T : Tables) (t : Tree) → PlainStays T t
plain_stays T t = by_trees (PlainStays T) (λ u g k h. plain_step T k u (form T k u) (taken T k u) g h) t

pub is_calm : Kind → Bool
is_calm (format ws b) = true
is_calm k = is_plain k

-- the form that is read from a node as the name of a format stays
pub format_stays : (T : Tables) (ws : List (List ℕ)) (b : Bool) (t : Tree)
    → stays T (format ws b) (form T (format ws b) t) ≡ true
format_stays T ws b (text s) = at (has ws s)
  where
    at : (c : Bool) → stays T (format ws b) (cond c (known s) (other s)) ≡ true
    at true = refl
    at false = refl
format_stays T ws b t = refl

calm_stays : (T : Tables) (k : Kind) (t : Tree) → is_calm k ≡ true → stays T k (form T k t) ≡ true
unfolding is_calm
calm_stays T (format ws b) t h = format_stays T ws b t
calm_stays T k t h = plain_stays T t k h

-- the slot that a row of one name reads from its member stays, if the form of a member other than null does
value_stays : (T : Tables) (m : Mode) (k : Kind) (t : Tree) → mode_fits m k ≡ true
    → (is_null t ≡ false → stays T k (form T k t) ≡ true) → (b : Bool) → is_null t ≡ b
    → stays T k (cond b (default_of m k) (form T k t)) ≡ true
value_stays T m k t s h true e = stays-default T m k s
value_stays T m k t s h false e = h e

absent_null : (T : Tables) (m : Mode) (k : Kind) (f : Form) → may_be_absent m f ≡ true → is_null (print T k f) ≡ true
absent_null T optional k absent h = refl
absent_null T nullable k absent h = refl
absent_null T m k f h = cc

slot_stays : (T : Tables) (n : List ℕ) (m i : Mode) (k : Kind) (f : Form) → mode_fits i k ≡ true
    → (proper T k f ≡ true → stays T k (again T k f) ≡ true) → (may_be_absent m f || proper T k f) ≡ true
    → (b : Bool) → is_silent m f ≡ b
    → stays T k (name_slot i k (reads T (cond b [] (one n (print T k f))))) ≡ true
slot_stays T n m i k f s g h true e = stays-default T i k s
slot_stays T n m i k f s g h false e =
    value_stays T i k (print T k f) s
    (λ x. ⊎_elim
    (λ (y : may_be_absent m f ≡ true). absurd (both_ways (is_null (print T k f)) x (absent_null T m k f y)))
    (λ (y : proper T k f ≡ true). g y) (or_cases (may_be_absent m f) (proper T k f) h))
    (is_null (print T k f)) refl

entries_stay : (T : Tables) (g : List ℕ → Key) (k : Kind) (c : Class) (es : List (Pair Form)) → sound T k ≡ true
    → Each (λ (e : Pair Form). Calm T e.value) es
    → Each (λ (e : Pair Form). (is_written c e.key ≡ true) × (proper T k e.value ≡ true)) es
    → Each (Both (λ (n : Key). Unit {0}) (λ (f : Form). stays T k f ≡ true))
    (each (pair_of T g k) (each (entry_of T k) es))
entries_stay T g k c [] s h p = tt
entries_stay T g k c (e ∷ es) s h p = ((tt, h.0 k s p.0.1), entries_stay T g k c es s h.1 p.1)

only_values : (T : Tables) (k : Kind) (es : List (Pair Form))
    → Each (Both (λ (n : Key). Unit {0}) (λ (f : Form). stays T k f ≡ true)) es
    → Each (λ (e : Pair Form). stays T k e.value ≡ true) es
only_values T k es h =
    each_under (λ (e : Pair Form) (x : Both (λ (n : Key). Unit {0}) (λ (f : Form). stays T k f ≡ true) e). x.1) es h

class_stays : (T : Tables) (c : Class) (k : Kind) (es : Named) → sound T k ≡ true
    → Each (λ (e : Pair Form). Calm T e.value) (named_list es)
    → Each (λ (e : Pair Form). (is_written c e.key ≡ true) × (proper T k e.value ≡ true)) (named_list es)
    → stays T (map_of k) (class_form c k (reads T (each (entry_of T k) (named_list es)))) ≡ true
class_stays T c k es s g h =
    let m = gather c (each (pair_of T (key_in c) k) (each (entry_of T k) (named_list es))) in
    ap (stays T (map_of k)) (class_form-reads T c k (each (entry_of T k) (named_list es)))
    ∙ stays_values T k m
    (only_values T k m
    (Both-gather (λ (n : Key). Unit {0}) (λ (f : Form). stays T k f ≡ true) c
    (each (pair_of T (key_in c) k) (each (entry_of T k) (named_list es)))
    (entries_stay T (key_in c) k c (named_list es) s g h)))

row_calm : (T : Tables) (w : Row) (f : Form) → row_sound T w ≡ true → Deep (Calm T) f
    → row_proper w (show (face_proper T) f) ≡ true
    → row_stays w (show (face_stays T) (slot_of_own w (reads T (row_print w (printed T f))))) ≡ true
row_calm T (row n m k) f s g h = let p = and_parts (mode_fits m k) (sound T k) s in
    slot_stays T n m m k f p.0 (λ x. g.0 k p.1 x) h (is_silent m f) refl
row_calm T (either a j b k) (deciding n f) s g h =
    let p = and_parts (same_text a n || same_text b n) (proper T (cond (same_text a n) j k) f) h in
    let q = and_parts (sound T j && sound T k) (not (same_text a b)) s in
    let r = and_parts (sound T j) (sound T k) q.0 in
    g.1 (cond (same_text a n) j k) (sound_pick T (same_text a n) j k r.0 r.1) p.1
row_calm T (class c k) (named es) s g h =
    ap (λ l. stays T (map_of k) (class_form c k (reads T l))) (class_prints T c k es)
    ∙ class_stays T c k es s g.1 (of_class_entries T c k es h)
row_calm T w f s g h = cc

-- the slot that each row reads from a list of members stays
abbrev pub StayAll : (T : Tables) → List (Entry Tree) → List Row → Type 0
StayAll T l ws = Each (λ w. row_stays w (show (face_stays T) (slot_in T l w)) ≡ true) ws

-- if the slot that each row reads stays, the check of all slots of the rows passes
pub from_stay_all : (T : Tables) (l : List (Entry Tree)) (ws : List Row) → StayAll T l ws
    → rows_stay ws (each (show (face_stays T)) (each (slot_in T l) ws)) ≡ true
from_stay_all T l [] h = refl
from_stay_all T l (w ∷ ws) h = and_from (row_stays w (show (face_stays T) (slot_in T l w))) _ h.0
    (from_stay_all T l ws h.1)

-- the slots that sound rows read from what they write stay, if they write proper slots, and these and the forms
-- directly inside are calm (`Calm`)
pub rows_calm : (T : Tables) (l : List (Entry Tree)) (ws : List Row) (fs : List Form)
    → Each (λ w. row_sound T w ≡ true) ws → Each (Deep (Calm T)) fs → SlotsProper T ws fs → Found T l ws fs
    → StayAll T l ws
rows_calm T l [] fs s g h o = tt
rows_calm T l (w ∷ ws) [] s g h o = absurd h
rows_calm T l (w ∷ ws) (f ∷ fs) s g h o = (
  ap (λ x. row_stays w (show (face_stays T) (slot_of_own w (reads T x)))) o.0
      ∙ row_calm T w f s.0 g.0 h.0,
  rows_calm T l ws fs s.1 g.1 h.1 o.1,
)

-- whether two kinds are the same, and are schemas, or references, lists or maps of schemas. A row of a sort that reads
-- what a row of `any_sort` writes has the same such kind, or a kind with no schema inside
same_kind : Kind → Kind → Bool
same_kind a_schema a_schema = true
same_kind flag_or_schema flag_or_schema = true
same_kind (ref_to j) (ref_to k) = same_kind j k
same_kind (list_of j) (list_of k) = same_kind j k
same_kind (map_of j) (map_of k) = same_kind j k
same_kind j k = false

same_kind_eq : (j k : Kind) → same_kind j k ≡ true → j ≡ k
unfolding same_kind
same_kind_eq (ref_to j) (ref_to k) h = ap ref_to (same_kind_eq j k h)
same_kind_eq (list_of j) (list_of k) h = ap list_of (same_kind_eq j k h)
same_kind_eq (map_of j) (map_of k) h = ap map_of (same_kind_eq j k h)
same_kind_eq j a_schema h = cc
same_kind_eq j k h = cc

row_gives : Row → List ℕ → Kind → Bool
row_gives (row a m j) n k = same_text a n && same_kind j k
row_gives w n k = false

some_gives : List Row → List ℕ → Kind → Bool
some_gives [] n k = false
some_gives (w ∷ ws) n k = row_gives w n k || some_gives ws n k

-- whether a row is that of a constant text, has a kind with no schema inside (`is_calm`), or has the name and the kind
-- of one of `any_rows`
pub deep_ok : Row → Bool
deep_ok (row n m k) = is_calm k || some_gives any_rows n k
deep_ok (constant n v) = true
deep_ok w = false

-- each row of each sort passes that test, by computation
pub all_deep_ok : every (λ s. every deep_ok (sort_rows s)) sorts ≡ true
unfolding deep_ok some_gives row_gives same_kind is_calm any_rows sort_rows string_rows object_rows array_rows
    boolean_rows
all_deep_ok = refl

row_gives_stays : (T : Tables) (l : List (Entry Tree)) (w : Row) (f : Form) (n : List ℕ) (m : Mode) (k : Kind)
    → row_gives w n k ≡ true → mode_fits m k ≡ true → sound T k ≡ true → Calm T f
    → row_proper w (show (face_proper T) f) ≡ true
    → own w l ≡ row_print w (printed T f) → stays T k (slot_in T l (row n m k)) ≡ true
unfolding row_gives
row_gives_stays T l (row a i j) f n m k r s d g h o =
    let p = and_parts (same_text a n) (same_kind j k) r in
    let q : j ≡ k = same_kind_eq j k p.1 in
    let h' : (may_be_absent i f || proper T k f) ≡ true = subst (λ x. (may_be_absent i f || proper T x f) ≡ true) q h in
    let o' : own (row a i j) l ≡ cond (is_silent i f) [] (one a (print T k f)) =
    o ∙ ap (λ x. cond (is_silent i f) [] (one a (print T x f))) q in
    subst (λ x. stays T k (slot_in T l (row x m k)) ≡ true) (same_text_eq a n p.0)
    (ap (λ x. stays T k (name_slot m k (reads T x))) o'
    ∙ slot_stays T a i m k f s (λ x. g k d x) h' (is_silent i f) refl)
row_gives_stays T l w f n m k r s d g h o = cc

some_gives_stays : (T : Tables) (l : List (Entry Tree)) (ws : List Row) (fs : List Form) (n : List ℕ) (m : Mode)
    (k : Kind) → some_gives ws n k ≡ true → mode_fits m k ≡ true → sound T k ≡ true → Each (Deep (Calm T)) fs
    → SlotsProper T ws fs → Found T l ws fs
    → stays T k (slot_in T l (row n m k)) ≡ true
unfolding some_gives
some_gives_stays T l [] fs n m k r s d g h o = cc
some_gives_stays T l (w ∷ ws) [] n m k r s d g h o = absurd h
some_gives_stays T l (w ∷ ws) (f ∷ fs) n m k r s d g h o =
    ⊎_elim (λ (x : row_gives w n k ≡ true). row_gives_stays T l w f n m k x s d g.0.0 h.0 o.0)
    (λ (x : some_gives ws n k ≡ true). some_gives_stays T l ws fs n m k x s d g.1 h.1 o.1)
    (or_cases (row_gives w n k) (some_gives ws n k) r)

first_calm : (T : Tables) (m : Mode) (k : Kind) (l : List (Entry Tree)) → mode_fits m k ≡ true → is_calm k ≡ true
    → stays T k (name_slot m k (reads T l)) ≡ true
first_calm T m k [] s h = stays-default T m k s
first_calm T m k (e ∷ l) s h = value_stays T m k e.value s (λ x. calm_stays T k e.value h) (is_null e.value) refl

deep_row : (T : Tables) (l : List (Entry Tree)) (fs : List Form) (v : Row) → deep_ok v ≡ true → row_sound T v ≡ true
    → Each (Deep (Calm T)) fs → SlotsProper T any_rows fs → Found T l any_rows fs
    → row_stays v (show (face_stays T) (slot_in T l v)) ≡ true
unfolding deep_ok
deep_row T l fs (row n m k) d s g h o =
    let p = and_parts (mode_fits m k) (sound T k) s in
    ⊎_elim (λ (x : is_calm k ≡ true). first_calm T m k (own (row n m k) l) p.0 x)
    (λ (x : some_gives any_rows n k ≡ true). some_gives_stays T l any_rows fs n m k x p.0 p.1 g h o)
    (or_cases (is_calm k) (some_gives any_rows n k) d)
deep_row T l fs v d s g h o = cc

-- what sound rows that pass the test read from what `any_rows` write for proper and calm forms stays
pub deep_rows : (T : Tables) (l : List (Entry Tree)) (fs : List Form) (vs : List Row) → every deep_ok vs ≡ true
    → Each (λ w. row_sound T w ≡ true) vs → Each (Deep (Calm T)) fs → SlotsProper T any_rows fs
    → Found T l any_rows fs → StayAll T l vs
deep_rows T l fs [] d s g h o = tt
deep_rows T l fs (v ∷ vs) d s g h o = let p = and_parts (deep_ok v) (every deep_ok vs) d in
    (deep_row T l fs v p.0 s.0 g h o, deep_rows T l fs vs p.1 s.1 g h o)
