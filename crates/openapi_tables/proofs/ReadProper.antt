-- The form that is read from a node that conforms is proper: for rows.
use Rattle.std.proofs.Common.{ℕ, Bool, true, false, not, cond, ◌&&◌, ◌||◌, List, [], ◌∷◌, ◌≡◌, refl, sym, ap, ◌∙◌}
use Rattle.std.proofs.Common.{eq-eqb, ⊎_elim}
use Rattle.std.proofs.lemmas.Bool.{and_parts, and_from, or_left, or_right, or_cases}
use Rattle.openapi_tables.specs.Prelude.{Kind, Tables, Row, Class, Code, Mode, class, code, constant, either}
use Rattle.openapi_tables.specs.Prelude.{flagged, format, formatted, in_class, list_of, listed, nullable}
use Rattle.openapi_tables.specs.Prelude.{one_of, optional, range, required, row, styled, conforms, either_holds}
use Rattle.openapi_tables.specs.Prelude.{may_miss, name_holds, skips_null, Form, Key, Pair, coded, name, each, every}
use Rattle.openapi_tables.specs.Prelude.{same_text, first_tree, is_null, own, text_of_key, Held, face_proper}
use Rattle.openapi_tables.specs.Prelude.{is_written, may_be_absent, of_kind, proper, row_proper, rows_proper}
use Rattle.openapi_tables.specs.Prelude.{class_form, default_of, form, gather, key_in, name_slot, same_code, same_key}
use Rattle.openapi_tables.specs.Prelude.{slot_of_own, mode_fits, row_sound, sound, Entry, Seen}
use Rattle.openapi_tables.proofs.FaultLaws.{judged}
use Rattle.openapi_tables.proofs.FormLaws.{of_named-of, on_pair, show}
use Rattle.openapi_tables.proofs.KeyLaws.{Both, Both-gather}
use Rattle.openapi_tables.proofs.ListLaws.{Each, Each-only, Each_within-only, same_text-refl}
use Rattle.openapi_tables.proofs.ReadLaws.{class_form-reads, pair_of, reads, slot_in}
use Rattle.openapi_tables.proofs.again.RowsBack.{Keyed, keyed}
use Rattle.openapi_tables.proofs.RowLaws.{TakesAll}
use Rattle.openapi_tables.proofs.RowWrites.{row_holds_own}
use Rattle.openapi_tables.proofs.SortHolds.{AllHold, not_null_conforms, null_refused}
use Rattle.openapi_node.specs.Tree.{Tree}
use Rattle.openapi_tables.proofs.SoundLaws.{sound_pick}

-- a node that conforms to a sound kind is read as a proper form
abbrev pub ReadsProper : (T : Tables) → Tree → Type 0
ReadsProper T t = (k : Kind) → sound T k ≡ true → conforms T k t ≡ true → proper T k (form T k t) ≡ true

-- the value of each member is read as a proper form under each sound kind that it conforms to
abbrev pub ValuesProper : (T : Tables) → List (Entry Tree) → Type 0
ValuesProper T es = Each (λ (e : Entry Tree). ReadsProper T e.value) es

-- what a row must find for its slot to be proper
abbrev pub RowReads : (T : Tables) → List (Entry Tree) → Row → Type 0
RowReads T l (row n m k) = (name_holds optional k (judged T l) ≡ true)
    × ((may_miss m || not (is_null (first_tree l))) ≡ true)
RowReads T l (either a j b k) = either_holds a j k (judged T l) ≡ true
RowReads T l (class c k) = every (λ (e : Entry (Seen (Kind → Bool))). e.value.answer k) (judged T l) ≡ true
RowReads T l (constant n v) = Unit {0}

default_proper : (T : Tables) (n : List ℕ) (m : Mode) (k : Kind) → mode_fits m k ≡ true → may_miss m ≡ true
    → row_proper (row n m k) (show (face_proper T) (default_of m k)) ≡ true
default_proper T n (styled u) (one_of ws) s h = s
default_proper T n formatted (format ws b) s h = s
default_proper T n m (list_of k) s h = cc
default_proper T n m k s h = cc

-- if `b || false` is true, `b` is true
pub or_false_right : (b : Bool) → (b || false) ≡ true → b ≡ true
or_false_right true h = refl
or_false_right false h = cc

value_proper : (T : Tables) (n : List ℕ) (m : Mode) (k : Kind) (t : Tree) → mode_fits m k ≡ true
    → (conforms T k t ≡ true → proper T k (form T k t) ≡ true) → (is_null t || conforms T k t) ≡ true
    → (may_miss m || not (is_null t)) ≡ true
    → (b : Bool) → is_null t ≡ b → row_proper (row n m k)
    (show (face_proper T) (cond b (default_of m k) (form T k t))) ≡ true
value_proper T n m k t s g h p true e =
    default_proper T n m k s (or_false_right (may_miss m) (sym (ap (λ b. may_miss m || not b) e) ∙ p))
value_proper T n m k t s g h p false e =
    or_right (may_be_absent m (form T k t)) (proper T k (form T k t)) (g (sym (ap (λ b. b || conforms T k t) e) ∙ h))

name_proper : (T : Tables) (n : List ℕ) (m : Mode) (k : Kind) (l : List (Entry Tree)) → mode_fits m k ≡ true
    → sound T k ≡ true → ValuesProper T l → RowReads T l (row n m k)
    → row_proper (row n m k) (show (face_proper T) (name_slot m k (reads T l))) ≡ true
name_proper T n m k [] s d g h = default_proper T n m k s (or_false_right (may_miss m) h.1)
name_proper T n m k (e ∷ l) s d g h = value_proper T n m k e.value s (λ x. g.0 k d x) h.0 h.1 (is_null e.value) refl

-- a code is the same as itself
pub same_code-refl : (c : Code) → same_code c c ≡ true
same_code-refl (code n) = eq-eqb n n refl
same_code-refl (range n) = eq-eqb n n refl

-- a key is the same as itself
pub same_key-refl : (n : Key) → same_key n n ≡ true
same_key-refl (name n) = same_text-refl n
same_key-refl (coded c) = same_code-refl c

keyed_written : (c : Class) (n : Key) → Keyed c n → is_written c n ≡ true
keyed_written c n h = and_from (same_key (key_in c (text_of_key n)) n) (in_class c (text_of_key n))
    (ap (λ m. same_key m n) h.0 ∙ same_key-refl n) h.1

class_pairs : (T : Tables) (c : Class) (k : Kind) (l : List (Entry Tree)) → sound T k ≡ true → TakesAll (class c k) l
    → ValuesProper T l → every (λ (e : Entry (Seen (Kind → Bool))). e.value.answer k) (judged T l) ≡ true
    → Each (Both (λ n. is_written c n ≡ true) (λ f. proper T k f ≡ true)) (each (pair_of T (key_in c) k) l)
class_pairs T c k [] s a g h = tt
class_pairs T c k (e ∷ l) s a g h =
    let p = and_parts (conforms T k e.value)
    (every (λ (e : Entry (Seen (Kind → Bool))). e.value.answer k) (judged T l)) h in
    ((keyed_written c (key_in c e.name) (keyed c e.name a.0), g.0 k s p.0), class_pairs T c k l s a.1 g.1 p.1)

pairs_proper : (T : Tables) (c : Class) (k : Kind) (m : List (Pair Form))
    → Each (Both (λ n. is_written c n ≡ true) (λ f. proper T k f ≡ true)) m
    → every (λ (e : Pair Held). is_written c e.key && e.value.answer (of_kind k))
    (each (on_pair (show (face_proper T))) m) ≡ true
pairs_proper T c k [] h = refl
pairs_proper T c k (e ∷ m) h = and_from (is_written c e.key && proper T k e.value) _
    (and_from (is_written c e.key) (proper T k e.value) h.0.0 h.0.1) (pairs_proper T c k m h.1)

class_form_proper : (T : Tables) (c : Class) (k : Kind) (l : List (Entry Tree)) → sound T k ≡ true
    → TakesAll (class c k) l → ValuesProper T l
    → every (λ (e : Entry (Seen (Kind → Bool))). e.value.answer k) (judged T l) ≡ true
    → row_proper (class c k) (show (face_proper T) (class_form c k (reads T l))) ≡ true
class_form_proper T c k l s a g h =
    let m = gather c (each (pair_of T (key_in c) k) l) in
    ap (λ f. row_proper (class c k) (show (face_proper T) f)) (class_form-reads T c k l)
    ∙ ap (λ (x : List (Pair Held)). every (λ (e : Pair Held). is_written c e.key && e.value.answer (of_kind k)) x)
    (of_named-of (face_proper T) m)
    ∙ pairs_proper T c k m
    (Both-gather (λ n. is_written c n ≡ true) (λ f. proper T k f ≡ true) c (each (pair_of T (key_in c) k) l)
    (class_pairs T c k l s a g h))

row_reads_proper : (T : Tables) (w : Row) (l : List (Entry Tree)) → row_sound T w ≡ true → TakesAll w l
    → ValuesProper T l → RowReads T l w → row_proper w (show (face_proper T) (slot_of_own w (reads T l))) ≡ true
row_reads_proper T (row n m k) l s a g h = let p = and_parts (mode_fits m k) (sound T k) s in
    name_proper T n m k l p.0 p.1 g h
row_reads_proper T (either a j b k) [] s t g h = cc
row_reads_proper T (either a j b k) (e ∷ l) s t g h =
    let q = and_parts (sound T j && sound T k) (not (same_text a b)) s in
    let r = and_parts (sound T j) (sound T k) q.0 in
    and_from (same_text a e.name || same_text b e.name)
    (proper T (cond (same_text a e.name) j k) (form T (cond (same_text a e.name) j k) e.value)) t.0
    (g.0 (cond (same_text a e.name) j k) (sound_pick T (same_text a e.name) j k r.0 r.1) h)
row_reads_proper T (class c k) l s a g h = class_form_proper T c k l s a g h
row_reads_proper T (constant n v) l s a g h = refl

-- each row finds in a list of members what it must for its slot to be proper
abbrev pub AllRead : (T : Tables) → List (Entry Tree) → List Row → Type 0
AllRead T es ws = Each (λ w. RowReads T (own w es) w) ws

-- sound rows that find what they must read proper slots, if the values of the members are read as proper forms
pub rows_read_proper : (T : Tables) (es : List (Entry Tree)) (ws : List Row) → Each (λ w. row_sound T w ≡ true) ws
    → ValuesProper T es → AllRead T es ws → rows_proper ws (each (show (face_proper T)) (each (slot_in T es) ws)) ≡ true
rows_read_proper T es [] s g h = refl
rows_read_proper T es (w ∷ ws) s g h =
    and_from (row_proper w (show (face_proper T) (slot_in T es w))) _
    (row_reads_proper T w (own w es) s.0 (Each-only _ es)
    (Each_within-only (λ (e : Entry Tree). ReadsProper T e.value) _ es g) h.0) (rows_read_proper T es ws s.1 g h.1)

-- a row of one name that holds finds what it must
name_reads : (T : Tables) (m : Mode) (k : Kind) (l : List (Entry Tree)) → mode_fits m k ≡ true
    → name_holds m k (judged T l) ≡ true → (name_holds optional k (judged T l) ≡ true)
    × ((may_miss m || not (is_null (first_tree l))) ≡ true)
name_reads T m k [] s h = (refl, or_left (may_miss m) false h)
name_reads T m k (e ∷ l) s h = (
  ⊎_elim (λ (x : (skips_null m && is_null e.value) ≡ true). or_left (is_null e.value) (conforms T k e.value)
      (and_parts (skips_null m) (is_null e.value) x).1)
      (λ (x : conforms T k e.value ≡ true). or_right (is_null e.value) (conforms T k e.value) x)
      (or_cases (skips_null m && is_null e.value) (conforms T k e.value) h),
  there m s h,
)
  where
    there : (m : Mode) → mode_fits m k ≡ true → (skips_null m && is_null e.value || conforms T k e.value) ≡ true
        → (may_miss m || not (is_null e.value)) ≡ true
    there required s h = not_null_conforms T k e.value (null_refused T k s) h
    there optional s h = refl
    there nullable s h = refl
    there listed s h = refl
    there flagged s h = refl
    there (styled u) s h = refl
    there formatted s h = refl

row_reads : (T : Tables) (w : Row) (l : List (Entry Tree)) → row_sound T w ≡ true
    → row_holds_own w (judged T l) ≡ true → RowReads T l w
row_reads T (row n m k) l s h = name_reads T m k l (and_parts (mode_fits m k) (sound T k) s).0 h
row_reads T (either a j b k) l s h = h
row_reads T (class c k) l s h = h
row_reads T (constant n v) l s h = tt

-- sound rows that hold find what they must
pub all_read : (T : Tables) (es : List (Entry Tree)) (ws : List Row) → Each (λ w. row_sound T w ≡ true) ws
    → AllHold T es ws → AllRead T es ws
all_read T es [] s h = tt
all_read T es (w ∷ ws) s h = (row_reads T w (own w es) s.0 h.0, all_read T es ws s.1 h.1)
