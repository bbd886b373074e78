-- What rows read from members, written and read again.
use Rattle.std.proofs.Common.{ℕ, Bool, true, false, not, cond, ◌&&◌, List, [], ◌∷◌, Option, Some, None, ◌≡◌, refl, sym}
use Rattle.std.proofs.Common.{ap, ◌∙◌, subst}
use Rattle.std.proofs.lemmas.Bool.{and_parts}
use Rattle.openapi_tables.specs.Prelude.{each, every, same_text, Entry, Kind, map_of, Mode, Row, row, either, class}
use Rattle.openapi_tables.specs.Prelude.{constant, Class, status_names, Code, code_of, is_code, in_class, text_of}
use Rattle.openapi_tables.specs.Prelude.{Tables, is_null, Form, named, deciding, Key, named_of, Pair, default_of}
use Rattle.openapi_tables.specs.Prelude.{slot_of_own, code_key, key_in, class_form, form, gather, text_of_key}
use Rattle.openapi_tables.specs.Prelude.{row_print, again, members_in, mode_fits, sound, row_sound, stays, face_stays}
use Rattle.openapi_tables.specs.Prelude.{row_stays, Checks}
use Rattle.openapi_node.specs.Tree.{Tree}
use Rattle.openapi_tables.proofs.ListLaws.{Each, each_under, same_text-refl}
use Rattle.openapi_tables.proofs.TreeLaws.{members_list-of}
use Rattle.openapi_tables.proofs.FormLaws.{on_pair, show, of_named-of}
use Rattle.openapi_tables.proofs.KeyLaws.{Both, Both-gather, gather-gathered, Gathered-gather}
use Rattle.openapi_tables.proofs.CodeLaws.{code_of-text_of, writable-code_of}
use Rattle.openapi_tables.proofs.ReadLaws.{reads, pair_of, class_form-reads}
use Rattle.openapi_tables.proofs.PrintLaws.{printed, entry_of, print-map}
use Rattle.openapi_tables.proofs.RowLaws.{TakesAll}
use Rattle.openapi_tables.proofs.SlotLaws.{Good, Settled, settled_default, settled_value}
use Rattle.openapi_tables.proofs.SoundLaws.{sound_pick}

-- a form that stays is unchanged when it is written and read again
abbrev pub Back : (T : Tables) → Kind → Form → Type 0
Back T k f = stays T k f ≡ true → again T k f ≡ f

-- if the check of the entries of a map passes, each of its values stays
stays_pairs : (T : Tables) (k : Kind) (es : List (Pair Form))
    → every (λ (e : Pair Checks). e.value.answer k) (each (on_pair (show (face_stays T))) es) ≡ true
    → Each (λ (e : Pair Form). stays T k e.value ≡ true) es
stays_pairs T k [] h = tt
stays_pairs T k (e ∷ es) h = let p = and_parts _ _ h in (p.0, stays_pairs T k es p.1)

-- if a map stays, each of its values does
pub stays-map : (T : Tables) (k : Kind) (es : List (Pair Form)) → stays T (map_of k) (named (named_of es)) ≡ true
    → Each (λ (e : Pair Form). stays T k e.value ≡ true) es
stays-map T k es h =
    stays_pairs T k es
    (subst (λ (l : List (Pair Checks)). every (λ (e : Pair Checks). e.value.answer k) l ≡ true)
    (of_named-of (face_stays T) es) h)

abbrev pub pair : Key → Form → Pair Form
pair a x = record { key = a; value = x }

same_pair : (a b : Key) (x y : Form) → a ≡ b → x ≡ y → pair a x ≡ pair b y
same_pair a b x y p q = ap (λ c. pair c x) p ∙ ap (λ z. pair b z) q

-- entries are unchanged when they are written and read again, if each key is read again from its name and each value
-- from its node
pub around_same : (T : Tables) (g : List ℕ → Key) (k : Kind) (m : List (Pair Form))
    → Each (λ (e : Pair Form). g (text_of_key e.key) ≡ e.key) m
    → Each (λ (e : Pair Form). again T k e.value ≡ e.value) m
    → each (pair_of T g k) (each (entry_of T k) m) ≡ m
around_same T g k [] h v = refl
around_same T g k (e ∷ m) h v =
    ap (λ x. x ∷ each (pair_of T g k) (each (entry_of T k) m)) (same_pair _ _ _ _ h.0 v.0)
    ∙ ap (λ l. e ∷ l) (around_same T g k m h.1 v.1)

-- what holds for the keys and values of entries holds for the keys
pub both_keys : (K : Key → Type 0) (V : Form → Type 0) (m : List (Pair Form)) → Each (Both K V) m
    → Each (λ (e : Pair Form). K e.key) m
both_keys K V m h = each_under (λ (e : Pair Form) (x : Both K V e). x.0) m h

pub back_values : (T : Tables) (k : Kind) (K : Key → Type 0) (m : List (Pair Form)) → Each (Both K (Back T k)) m
    → Each (λ (e : Pair Form). stays T k e.value ≡ true) m → Each (λ (e : Pair Form). again T k e.value ≡ e.value) m
back_values T k K [] h s = tt
back_values T k K (e ∷ m) h s = (h.0.1 s.0, back_values T k K m h.1 s.1)

-- the entries that a class reads from a list of members
abbrev pub class_read : (T : Tables) → Class → Kind → List (Entry Tree) → List (Pair Form)
class_read T c k es = gather c (each (pair_of T (key_in c) k) es)

pub pairs_both : (T : Tables) (g : List ℕ → Key) (k : Kind) (K : Key → Type 0) (es : List (Entry Tree))
    → Each (λ (e : Entry Tree). K (g e.name)) es → Each (λ (e : Entry Tree). Back T k (form T k e.value)) es
    → Each (Both K (Back T k)) (each (pair_of T g k) es)
pairs_both T g k K [] h v = tt
pairs_both T g k K (e ∷ es) h v = ((h.0, v.0), pairs_both T g k K es h.1 v.1)

pub class_back : (T : Tables) (c : Class) (k : Kind) (es : List (Entry Tree))
    → Each (λ (e : Entry Tree). key_in c (text_of_key (key_in c e.name)) ≡ key_in c e.name) es
    → Each (λ (e : Entry Tree). Back T k (form T k e.value)) es
    → Each (λ (e : Pair Form). stays T k e.value ≡ true) (class_read T c k es)
    → gather c (each (pair_of T (key_in c) k) (each (entry_of T k) (class_read T c k es))) ≡ class_read T c k es
class_back T c k es h v s =
    let K : Key → Type 0 = λ (n : Key). key_in c (text_of_key n) ≡ n in
    let both : Each (Both K (Back T k)) (class_read T c k es) =
    Both-gather K (Back T k) c (each (pair_of T (key_in c) k) es) (pairs_both T (key_in c) k K es h v) in
    ap (λ l. gather c l)
    (around_same T (key_in c) k (class_read T c k es) (both_keys K (Back T k) (class_read T c k es) both)
    (back_values T k K (class_read T c k es) both s))
    ∙ gather-gathered c (class_read T c k es) (Gathered-gather c (each (pair_of T (key_in c) k) es))

-- a key is written as a name of the class, and read again from it
abbrev pub Keyed : Class → Key → Type 0
Keyed c n = (key_in c (text_of_key n) ≡ n) × (in_class c (text_of_key n) ≡ true)

keyed_status : (n : List ℕ) (o : Option Code) → code_of n ≡ o → is_code o ≡ true → Keyed status_names (code_key n o)
keyed_status n None e h = cc
keyed_status n (Some c) e h =
    let p = code_of-text_of c (writable-code_of n c e) in
    (ap (code_key (text_of c)) p, ap is_code p)

-- the key of a name in a class is written as a name of the class and read again from it
pub keyed : (c : Class) (n : List ℕ) → in_class c n ≡ true → Keyed c (key_in c n)
keyed status_names n h = keyed_status n (code_of n) refl h
keyed c n h = (refl, h)

good_values : (T : Tables) (k : Kind) → sound T k ≡ true → (es : List (Entry Tree))
    → Each (λ (e : Entry Tree). Good T e.value) es → Each (λ (e : Entry Tree). Back T k (form T k e.value)) es
good_values T k s es h = each_under (λ (e : Entry Tree) (x : Good T e.value). x k s) es h

-- a row of a class takes the members that entries are written as, if their keys are written as names of the class and
-- read again
pub takes_keyed : (T : Tables) (c : Class) (m : List (Pair Form)) (k : Kind)
    → Each (λ (e : Pair Form). Keyed c e.key) m → TakesAll (class c k) (each (entry_of T k) m)
takes_keyed T c [] k h = tt
takes_keyed T c (e ∷ m) k h = (h.0.1, takes_keyed T c m k h.1)

settled_class : (T : Tables) (c : Class) (k : Kind) (es : List (Entry Tree)) → sound T k ≡ true
    → TakesAll (class c k) es → Each (λ (e : Entry Tree). Good T e.value) es
    → stays T (map_of k) (named (named_of (class_read T c k es))) ≡ true
    → Settled T (class c k) (named (named_of (class_read T c k es)))
settled_class T c k es s h g st = (
  subst (λ l. TakesAll (class c k) l) (sym written) (takes_keyed T c m k keys),
  ap (λ l. class_form c k (reads T l)) written ∙ class_form-reads T c k (each (entry_of T k) m)
      ∙ ap (λ l. named (named_of l)) (class_back T c k es names (good_values T k s es g) (stays-map T k m st)),
)
  where
    m : List (Pair Form)
    m = class_read T c k es

    written : row_print (class c k) (printed T (named (named_of m))) ≡ each (entry_of T k) m
    written = ap members_in (print-map T k m) ∙ members_list-of (each (entry_of T k) m)

    names : Each (λ (e : Entry Tree). key_in c (text_of_key (key_in c e.name)) ≡ key_in c e.name) es
    names = each_under (λ (e : Entry Tree) (x : in_class c e.name ≡ true). (keyed c e.name x).0) es h

    pairs : (l : List (Entry Tree)) → TakesAll (class c k) l
        → Each (Both (Keyed c) (λ (f : Form). Unit {0})) (each (pair_of T (key_in c) k) l)
    pairs [] x = tt
    pairs (e ∷ l) x = ((keyed c e.name x.0, tt), pairs l x.1)

    keys : Each (λ (e : Pair Form). Keyed c e.key) m
    keys = both_keys (Keyed c) (λ (f : Form). Unit {0}) m
        (Both-gather (Keyed c) (λ (f : Form). Unit {0}) c (each (pair_of T (key_in c) k) es) (pairs es h))

settled_first : (T : Tables) (n : List ℕ) (m : Mode) (k : Kind) (t : Tree) → mode_fits m k ≡ true → (b : Bool)
    → is_null t ≡ b → Back T k (form T k t) → stays T k (cond b (default_of m k) (form T k t)) ≡ true
    → Settled T (row n m k) (cond b (default_of m k) (form T k t))
settled_first T n m k t g true e h s = settled_default T n m k g
settled_first T n m k t g false e h s = settled_value T n m k t g e (h s) _ refl

-- a sound row takes what it writes for the slot that it reads, and reads that slot again, if the slot stays
pub settled_row : (T : Tables) (w : Row) (es : List (Entry Tree)) → row_sound T w ≡ true → TakesAll w es
    → Each (λ (e : Entry Tree). Good T e.value) es
    → row_stays w (show (face_stays T) (slot_of_own w (reads T es))) ≡ true → Settled T w (slot_of_own w (reads T es))
settled_row T (row n m k) [] s h g st = settled_default T n m k (and_parts (mode_fits m k) (sound T k) s).0
settled_row T (row n m k) (e ∷ es) s h g st =
    let p = and_parts (mode_fits m k) (sound T k) s in
    settled_first T n m k e.value p.0 (is_null e.value) refl (g.0 k p.1) st
settled_row T (either a j b k) [] s h g st = (tt, refl)
settled_row T (either a j b k) (e ∷ es) s h g st =
    let p = and_parts (sound T j && sound T k) (not (same_text a b)) s in
    let q = and_parts (sound T j) (sound T k) p.0 in (
      (h.0, tt),
      ap (deciding e.name)
          (g.0 (cond (same_text a e.name) j k) (sound_pick T (same_text a e.name) j k q.0 q.1) st),
    )
settled_row T (class c k) es s h g st =
    let p : slot_of_own (class c k) (reads T es) ≡ named (named_of (class_read T c k es)) = class_form-reads T c k es in
    subst (λ f. Settled T (class c k) f) (sym p)
    (settled_class T c k es s h g (subst (λ f. stays T (map_of k) f ≡ true) p st))
settled_row T (constant n v) es s h g st = ((same_text-refl n, tt), refl)
