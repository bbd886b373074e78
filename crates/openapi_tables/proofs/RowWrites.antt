-- A proper form is written as a node that conforms to the kind: for rows.
use Rattle.openapi_tables.proofs.RowLaws.{takes_cond}
use Rattle.std.proofs.Common.{ℕ, Bool, true, false, not, cond, ◌&&◌, ◌||◌, List, [], ◌∷◌, ◌≡◌, refl, sym, ap, ◌∙◌}
use Rattle.std.proofs.Common.{subst, ⊎_elim}
use Rattle.std.proofs.lemmas.Bool.{and_parts, and_from, or_right, or_cases}
use Rattle.openapi_tables.specs.Prelude.{Kind, Tables, Row, Mode, Class, class, row, map_of, in_class, optional}
use Rattle.openapi_tables.specs.Prelude.{nullable, constant, either, required, proper, row_proper, rows_proper, Held}
use Rattle.openapi_tables.specs.Prelude.{face_proper, is_written, may_be_absent, of_kind, Form, Named, Pair, named}
use Rattle.openapi_tables.specs.Prelude.{named_list, absent, deciding, sound, row_sound, mode_fits, conforms, row_holds}
use Rattle.openapi_tables.specs.Prelude.{may_miss, name_holds, skips_null, root_conforms, constant_holds, either_holds}
use Rattle.openapi_tables.specs.Prelude.{Entry, Seen, is_silent, row_print, print, one, members_in, text_of_key, every}
use Rattle.openapi_tables.specs.Prelude.{each, same_text, own, is_null, same_key, key_in}
use Rattle.openapi_tables.specs.Conforms.{Judged}
use Rattle.openapi_node.specs.Tree.{Tree}
use Rattle.openapi_tables.proofs.RowLaws.{OwnWrites, TakesAll, Found}
use Rattle.openapi_tables.proofs.ListLaws.{Each, same_text-refl}
use Rattle.openapi_tables.proofs.FormLaws.{show, Deep, on_pair, of_named_lem, named_of-list}
use Rattle.openapi_tables.proofs.PrintLaws.{printed, entry_of, print-map}
use Rattle.openapi_tables.proofs.FaultLaws.{judged, own_judged}
use Rattle.openapi_tables.proofs.TreeLaws.{members_list-of}
use Rattle.openapi_tables.proofs.SoundLaws.{sound_pick}

-- a mode that writes nothing for a form accepts a missing member
pub silent_may_miss : (m : Mode) (f : Form) → is_silent m f ≡ true → may_miss m ≡ true
silent_may_miss required f h = cc
silent_may_miss m f h = refl

-- a row of a class writes a member for each entry of its slot
pub class_prints : (T : Tables) (c : Class) (k : Kind) (es : Named)
    → row_print (class c k) (printed T (named es)) ≡ each (entry_of T k) (named_list es)
class_prints T c k es =
    ap (λ x. members_in (print T (map_of k) (named x))) (sym (named_of-list es))
    ∙ ap members_in (print-map T k (named_list es)) ∙ members_list-of (each (entry_of T k) (named_list es))

-- if the check of the entries of a class passes, each key is read again from its name, and each value is proper
pub class_entries : (T : Tables) (c : Class) (k : Kind) (es : List (Pair Form))
    → every (λ (e : Pair Held). is_written c e.key && e.value.answer (of_kind k))
    (each (on_pair (show (face_proper T))) es) ≡ true
    → Each (λ (e : Pair Form). (is_written c e.key ≡ true) × (proper T k e.value ≡ true)) es
class_entries T c k [] h = tt
class_entries T c k (e ∷ es) h =
    let p = and_parts (is_written c e.key && proper T k e.value)
    (every (λ (e : Pair Held). is_written c e.key && e.value.answer (of_kind k))
    (each (on_pair (show (face_proper T))) es)) h in
    (and_parts (is_written c e.key) (proper T k e.value) p.0, class_entries T c k es p.1)

-- in a proper slot of a class each key is read again from its name, and each value is proper
pub of_class_entries : (T : Tables) (c : Class) (k : Kind) (es : Named)
    → row_proper (class c k) (show (face_proper T) (named es)) ≡ true
    → Each (λ (e : Pair Form). (is_written c e.key ≡ true) × (proper T k e.value ≡ true)) (named_list es)
of_class_entries T c k es h =
    class_entries T c k (named_list es)
    (subst (λ (l : List (Pair Held)). every (λ (e : Pair Held). is_written c e.key && e.value.answer (of_kind k))
    l ≡ true) (of_named_lem (face_proper T) es) h)

takes_entries : (T : Tables) (c : Class) (k : Kind) (es : List (Pair Form))
    → Each (λ (e : Pair Form). (is_written c e.key ≡ true) × (proper T k e.value ≡ true)) es
    → TakesAll (class c k) (each (entry_of T k) es)
takes_entries T c k [] h = tt
takes_entries T c k (e ∷ es) h = (
  (and_parts (same_key (key_in c (text_of_key e.key)) e.key) (in_class c (text_of_key e.key)) h.0.0).1,
  takes_entries T c k es h.1,
)

pub takes_proper : (T : Tables) (w : Row) (f : Form) → row_proper w (show (face_proper T) f) ≡ true
    → TakesAll w (row_print w (printed T f))
takes_proper T (row n m k) f h = takes_cond n m k (print T k f) (is_silent m f)
takes_proper T (either a j b k) (deciding n f) h =
    ((and_parts (same_text a n || same_text b n) (proper T (cond (same_text a n) j k) f) h).0, tt)
takes_proper T (either a j b k) f h = cc
takes_proper T (class c k) (named es) h =
    subst (λ l. TakesAll (class c k) l) (sym (class_prints T c k es))
    (takes_entries T c k (named_list es) (of_class_entries T c k es h))
takes_proper T (class c k) f h = cc
takes_proper T (constant n v) f h = (same_text-refl n, tt)

-- there is one slot for each row, and it is proper for the row
abbrev pub SlotsProper : (T : Tables) → List Row → List Form → Type 0
SlotsProper T [] [] = Unit {0}
SlotsProper T [] (f ∷ fs) = ⊥
SlotsProper T (w ∷ ws) [] = ⊥
SlotsProper T (w ∷ ws) (f ∷ fs) = (row_proper w (show (face_proper T) f) ≡ true) × SlotsProper T ws fs

-- if the check of the slots of rows passes, each slot is proper for its row
pub slots_proper : (T : Tables) (ws : List Row) (fs : List Form)
    → rows_proper ws (each (show (face_proper T)) fs) ≡ true → SlotsProper T ws fs
slots_proper T [] [] h = tt
slots_proper T [] (f ∷ fs) h = cc
slots_proper T (w ∷ ws) [] h = cc
slots_proper T (w ∷ ws) (f ∷ fs) h =
    let p = and_parts (row_proper w (show (face_proper T) f)) (rows_proper ws (each (show (face_proper T)) fs)) h in
    (p.0, slots_proper T ws fs p.1)

-- rows with proper slots each take all that they write
pub proper_writes : (T : Tables) (ws : List Row) (fs : List Form) → SlotsProper T ws fs → OwnWrites T ws fs
proper_writes T [] [] h = tt
proper_writes T [] (f ∷ fs) h = h
proper_writes T (w ∷ ws) [] h = h
proper_writes T (w ∷ ws) (f ∷ fs) h = (takes_proper T w f h.0, proper_writes T ws fs h.1)

-- if a form is proper for a sound kind, it is written as a node that conforms
abbrev pub Writes : (T : Tables) → Form → Type 0
Writes T f = (k : Kind) → sound T k ≡ true → proper T k f ≡ true → conforms T k (print T k f) ≡ true

name_writes : (T : Tables) (n : List ℕ) (m : Mode) (k : Kind) (f : Form)
    → (proper T k f ≡ true → conforms T k (print T k f) ≡ true) → (may_be_absent m f || proper T k f) ≡ true
    → (b : Bool) → is_silent m f ≡ b
    → name_holds m k (judged T (cond b [] (one n (print T k f)))) ≡ true
name_writes T n m k f g h true e = silent_may_miss m f e
name_writes T n m k f g h false e =
    ⊎_elim (λ (x : may_be_absent m f ≡ true). absent_writes m f x e)
    (λ (x : proper T k f ≡ true). or_right (skips_null m && is_null (print T k f)) (conforms T k (print T k f))
    (g x)) (or_cases (may_be_absent m f) (proper T k f) h)
  where
    absent_writes : (m : Mode) (f : Form) → may_be_absent m f ≡ true → is_silent m f ≡ false
        → (skips_null m && is_null (print T k f) || conforms T k (print T k f)) ≡ true
    absent_writes optional absent x y = cc
    absent_writes nullable absent x y = refl
    absent_writes m f x y = cc

class_writes : (T : Tables) (c : Class) (k : Kind) (es : List (Pair Form)) → sound T k ≡ true
    → Each (λ (e : Pair Form). Writes T e.value) es
    → Each (λ (e : Pair Form). (is_written c e.key ≡ true) × (proper T k e.value ≡ true)) es
    → every (λ (e : Entry (Seen (Kind → Bool))). e.value.answer k) (judged T (each (entry_of T k) es)) ≡ true
class_writes T c k [] s g h = refl
class_writes T c k (e ∷ es) s g h =
    and_from (conforms T k (print T k e.value)) _ (g.0 k s h.0.1) (class_writes T c k es s g.1 h.1)

-- whether a row holds, by the members that it takes
abbrev pub row_holds_own : Row → Judged → Bool
row_holds_own (row n m k) es = name_holds m k es
row_holds_own (either a j b k) es = either_holds a j k es
row_holds_own (class c k) es = every (λ (e : Entry (Seen (Kind → Bool))). e.value.answer k) es
row_holds_own (constant n v) es = constant_holds v es

-- whether a row holds depends only on the members that it takes
pub row_holds_lem : (w : Row) (es : Judged) → row_holds es w ≡ row_holds_own w (own w es)
row_holds_lem (row n m k) es = refl
row_holds_lem w es = refl

-- a row holds for what it writes
own_writes_holds : (T : Tables) (w : Row) (f : Form) → row_sound T w ≡ true → Deep (Writes T) f
    → row_proper w (show (face_proper T) f) ≡ true → row_holds_own w (judged T (row_print w (printed T f))) ≡ true
own_writes_holds T (row n m k) f s g h =
    name_writes T n m k f (λ x. g.0 k (and_parts (mode_fits m k) (sound T k) s).1 x) h (is_silent m f) refl
own_writes_holds T (either a j b k) (deciding n f) s g h =
    let p = and_parts (same_text a n || same_text b n) (proper T (cond (same_text a n) j k) f) h in
    let q = and_parts (sound T j && sound T k) (not (same_text a b)) s in
    let r = and_parts (sound T j) (sound T k) q.0 in
    g.1 (cond (same_text a n) j k) (sound_pick T (same_text a n) j k r.0 r.1) p.1
own_writes_holds T (either a j b k) f s g h = cc
own_writes_holds T (class c k) (named es) s g h =
    ap (λ l. every (λ (e : Entry (Seen (Kind → Bool))). e.value.answer k) (judged T l)) (class_prints T c k es)
    ∙ class_writes T c k (named_list es) s g.1 (of_class_entries T c k es h)
own_writes_holds T (class c k) f s g h = cc
own_writes_holds T (constant n v) f s g h = same_text-refl v

pub row_writes : (T : Tables) (w : Row) (f : Form) (l : List (Entry Tree)) → row_sound T w ≡ true → Deep (Writes T) f
    → row_proper w (show (face_proper T) f) ≡ true → own w l ≡ row_print w (printed T f)
    → row_holds (judged T l) w ≡ true
row_writes T w f l s g h e =
    row_holds_lem w (judged T l) ∙ ap (row_holds_own w) (own_judged (root_conforms T) w l ∙ ap (judged T) e)
    ∙ own_writes_holds T w f s g h

-- sound rows hold if each finds what it writes for a proper slot, and the forms are written as nodes that conform
pub rows_write : (T : Tables) (l : List (Entry Tree)) (ws : List Row) (fs : List Form)
    → Each (λ w. row_sound T w ≡ true) ws → Each (Deep (Writes T)) fs → SlotsProper T ws fs → Found T l ws fs
    → Each (λ w. row_holds (judged T l) w ≡ true) ws
rows_write T l [] fs s g h o = tt
rows_write T l (w ∷ ws) [] s g h o = absurd h
rows_write T l (w ∷ ws) (f ∷ fs) s g h o = (row_writes T w f l s.0 g.0 h.0 o.0, rows_write T l ws fs s.1 g.1 h.1 o.1)
