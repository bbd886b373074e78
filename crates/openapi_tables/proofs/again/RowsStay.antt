-- A form that is read from a node, and is unchanged when it is written and read again, stays: for rows.
use Rattle.openapi_tables.proofs.RowLaws.{takes_cond}
use Rattle.std.proofs.Common.{ℕ, Bool, true, false, not, cond, ◌&&◌, List, [], ◌∷◌, ◌≡◌, refl, sym, ap, ◌∙◌, subst}
use Rattle.std.proofs.lemmas.Bool.{and_parts, and_from}
use Rattle.openapi_tables.specs.Prelude.{each, every, same_text, Entry, Class, status_names, Kind, list_of, map_of}
use Rattle.openapi_tables.specs.Prelude.{Mode, required, Row, row, either, class, constant, Tables, is_null, own, Form}
use Rattle.openapi_tables.specs.Prelude.{named, named_of, named_list, deciding, Key, Pair, same_key, default_of}
use Rattle.openapi_tables.specs.Prelude.{slot_of_own, key_in, class_form, form, gather, text_of_key, is_silent, one}
use Rattle.openapi_tables.specs.Prelude.{row_print, print, again, members_in, mode_fits, sound, row_sound, stays}
use Rattle.openapi_tables.specs.Prelude.{face_stays, row_stays, Checks}
use Rattle.openapi_node.specs.Tree.{Tree}
use Rattle.openapi_tables.proofs.ListLaws.{Each, each_under, same_text-refl, Each-only}
use Rattle.openapi_tables.proofs.TreeLaws.{members_list-of}
use Rattle.openapi_tables.proofs.FormLaws.{named_list-of, on_pair, show, of_named-of}
use Rattle.openapi_tables.proofs.KeyLaws.{Distinct, Both, Gathered, Both-gather, Gathered-gather, gather-gathered}
use Rattle.openapi_tables.proofs.Taken.{taken}
use Rattle.openapi_tables.proofs.ReadLaws.{reads, pair_of, class_form-reads, slot_in}
use Rattle.openapi_tables.proofs.PrintLaws.{printed, entry_of, print-map}
use Rattle.openapi_tables.proofs.RowLaws.{TakesAll, OwnWrites}
use Rattle.openapi_tables.proofs.SlotLaws.{not_null, silent_default}
use Rattle.openapi_tables.proofs.again.RowsBack.{Keyed, keyed, takes_keyed, both_keys, class_read}
use Rattle.openapi_tables.proofs.SoundLaws.{sound_pick}

-- if the form of a node under a sound kind is unchanged when it is written and read again, it stays
abbrev pub Firm : (T : Tables) → Tree → Type 0
Firm T t = (k : Kind) → sound T k ≡ true → again T k (form T k t) ≡ form T k t → stays T k (form T k t) ≡ true

-- a form that is unchanged when it is written and read again stays
abbrev pub Forth : (T : Tables) → Kind → Form → Type 0
Forth T k f = again T k f ≡ f → stays T k f ≡ true

keys_of : (T : Tables) (c : Class) (k : Kind) (es : List (Entry Tree)) → TakesAll (class c k) es
    → Each (λ (e : Pair Form). Keyed c e.key) (class_read T c k es)
keys_of T c k es h =
    both_keys (Keyed c) (λ (f : Form). Unit {0}) (class_read T c k es)
    (Both-gather (Keyed c) (λ (f : Form). Unit {0}) c (each (pair_of T (key_in c) k) es) (pairs es h))
  where
    pairs : (l : List (Entry Tree)) → TakesAll (class c k) l
        → Each (Both (Keyed c) (λ (f : Form). Unit {0})) (each (pair_of T (key_in c) k) l)
    pairs [] x = tt
    pairs (e ∷ l) x = ((keyed c e.name x.0, tt), pairs l x.1)

class_written : (T : Tables) (c : Class) (k : Kind) (m : List (Pair Form))
    → row_print (class c k) (printed T (named (named_of m))) ≡ each (entry_of T k) m
class_written T c k m = ap members_in (print-map T k m) ∙ members_list-of (each (entry_of T k) m)

-- a row takes all that it writes for what it reads from members that it takes
pub takes_written : (T : Tables) (w : Row) (es : List (Entry Tree)) → TakesAll w es
    → TakesAll w (row_print w (printed T (slot_of_own w (reads T es))))
takes_written T (row n m k) es h = takes_cond n m k _ _
takes_written T (either a j b k) [] h = tt
takes_written T (either a j b k) (e ∷ es) h = (h.0, tt)
takes_written T (class c k) es h =
    subst (λ l. TakesAll (class c k) l)
    (sym (ap (λ f. row_print (class c k) (printed T f)) (class_form-reads T c k es)
    ∙ class_written T c k (class_read T c k es)))
    (takes_keyed T c (class_read T c k es) k (keys_of T c k es h))
takes_written T (constant n v) es h = (same_text-refl n, tt)

-- each row takes all that it writes for what it reads from a list of members, whatever they are
pub writes_own : (T : Tables) (ws : List Row) (es : List (Entry Tree)) → OwnWrites T ws (each (slot_in T es) ws)
writes_own T [] es = tt
writes_own T (w ∷ ws) es = (takes_written T w (own w es) (Each-only _ es), writes_own T ws es)

-- the default of a row stays
pub stays-default : (T : Tables) (m : Mode) (k : Kind) → mode_fits m k ≡ true → stays T k (default_of m k) ≡ true
stays-default T required k h = cc
stays-default T m (list_of k) h = cc
stays-default T m k h = cc

firm_value : (T : Tables) (n : List ℕ) (m : Mode) (k : Kind) (t : Tree) → mode_fits m k ≡ true → sound T k ≡ true
    → Firm T t → is_null t ≡ false → (b : Bool) → is_silent m (form T k t) ≡ b
    → slot_of_own (row n m k) (reads T (row_print (row n m k) (printed T (form T k t)))) ≡ form T k t
    → stays T k (form T k t) ≡ true
firm_value T n m k t g s f h true e q =
    subst (λ x. stays T k x ≡ true) (silent_default T m k t (form T k t) (taken T k t) g e) (stays-default T m k g)
firm_value T n m k t g s f h false e q =
    let p : row_print (row n m k) (printed T (form T k t)) ≡ one n (print T k (form T k t)) =
    ap (λ b. cond b [] (one n (print T k (form T k t)))) e in
    let r : cond (is_null (print T k (form T k t))) (default_of m k) (again T k (form T k t)) ≡ form T k t =
    sym (ap (λ l. slot_of_own (row n m k) (reads T l)) p) ∙ q in
    f k s (sym
    (ap (λ b. cond b (default_of m k) (again T k (form T k t))) (not_null T k t (form T k t) (taken T k t) h)) ∙ r)

firm_first : (T : Tables) (n : List ℕ) (m : Mode) (k : Kind) (t : Tree) → mode_fits m k ≡ true → sound T k ≡ true
    → Firm T t → (b : Bool) → is_null t ≡ b
    → slot_of_own (row n m k) (reads T (row_print (row n m k) (printed T (cond b (default_of m k) (form T k t)))))
    ≡ cond b (default_of m k) (form T k t) → stays T k (cond b (default_of m k) (form T k t)) ≡ true
firm_first T n m k t g s f true e q = stays-default T m k g
firm_first T n m k t g s f false e q = firm_value T n m k t g s f e _ refl q

-- if a key differs from the keys of entries, it still does after these are written and read again, where each key is
-- read again
same_apart : (T : Tables) (n : Key) (k : Kind) (g : List ℕ → Key) (m : List (Pair Form))
    → Each (λ (e : Pair Form). g (text_of_key e.key) ≡ e.key) m → Each (λ (d : Pair Form). same_key n d.key ≡ false) m
    → Each (λ (d : Pair Form). same_key n d.key ≡ false) (each (pair_of T g k) (each (entry_of T k) m))
same_apart T n k g [] h d = tt
same_apart T n k g (e ∷ m) h d = (ap (same_key n) h.0 ∙ d.0, same_apart T n k g m h.1 d.1)

same_distinct : (T : Tables) (k : Kind) (g : List ℕ → Key) (m : List (Pair Form))
    → Each (λ (e : Pair Form). g (text_of_key e.key) ≡ e.key) m → Distinct m
    → Distinct (each (pair_of T g k) (each (entry_of T k) m))
same_distinct T k g [] h d = tt
same_distinct T k g (e ∷ m) h d = (
  subst (λ n. Each (λ (x : Pair Form). same_key n x.key ≡ false) (each (pair_of T g k) (each (entry_of T k) m)))
      (sym h.0) (same_apart T e.key k g m h.1 d.0),
  same_distinct T k g m h.1 d.1,
)

same_gathered : (T : Tables) (c : Class) (k : Kind) (m : List (Pair Form))
    → Each (λ (e : Pair Form). key_in c (text_of_key e.key) ≡ e.key) m → Gathered c m
    → Gathered c (each (pair_of T (key_in c) k) (each (entry_of T k) m))
same_gathered T status_names k m h d = same_distinct T k (key_in status_names) m h d
same_gathered T c k m h d = tt

-- if entries are unchanged when they are written and read again, each value is
pub values_back : (T : Tables) (k : Kind) (g : List ℕ → Key) (m : List (Pair Form))
    → each (pair_of T g k) (each (entry_of T k) m) ≡ m → Each (λ (e : Pair Form). again T k e.value ≡ e.value) m
values_back T k g [] h = tt
values_back T k g (e ∷ m) h = (cc, values_back T k g m cc)

-- a map stays if each of its values does
pub stays_values : (T : Tables) (k : Kind) (m : List (Pair Form))
    → Each (λ (e : Pair Form). stays T k e.value ≡ true) m → stays T (map_of k) (named (named_of m)) ≡ true
stays_values T k m h = ap (λ (l : List (Pair Checks)). every (λ (e : Pair Checks). e.value.answer k) l)
    (of_named-of (face_stays T) m) ∙ every_pair m h
  where
    every_pair : (l : List (Pair Form)) → Each (λ (e : Pair Form). stays T k e.value ≡ true) l
        → every (λ (e : Pair Checks). e.value.answer k) (each (on_pair (show (face_stays T))) l) ≡ true
    every_pair [] x = refl
    every_pair (e ∷ l) x = and_from _ _ x.0 (every_pair l x.1)

pub forth_values : (T : Tables) (k : Kind) (K : Key → Type 0) (m : List (Pair Form)) → Each (Both K (Forth T k)) m
    → Each (λ (e : Pair Form). again T k e.value ≡ e.value) m → Each (λ (e : Pair Form). stays T k e.value ≡ true) m
forth_values T k K [] h q = tt
forth_values T k K (e ∷ m) h q = (h.0.1 q.0, forth_values T k K m h.1 q.1)

forths : (T : Tables) (g : List ℕ → Key) (k : Kind) (es : List (Entry Tree)) → sound T k ≡ true
    → Each (λ (e : Entry Tree). Firm T e.value) es
    → Each (Both (λ (n : Key). Unit {0}) (Forth T k)) (each (pair_of T g k) es)
forths T g k [] s h = tt
forths T g k (e ∷ es) s h = ((tt, h.0 k s), forths T g k es s h.1)

firm_class : (T : Tables) (c : Class) (k : Kind) (es : List (Entry Tree)) → sound T k ≡ true
    → TakesAll (class c k) es → Each (λ (e : Entry Tree). Firm T e.value) es
    → slot_of_own (class c k) (reads T (row_print (class c k) (printed T (named (named_of (class_read T c k es))))))
    ≡ named (named_of (class_read T c k es))
    → stays T (map_of k) (named (named_of (class_read T c k es))) ≡ true
firm_class T c k es s h g q =
    stays_values T k m (forth_values T k (λ (n : Key). Unit {0}) m both (values_back T k (key_in c) m same))
  where
    m : List (Pair Form)
    m = class_read T c k es

    both : Each (Both (λ (n : Key). Unit {0}) (Forth T k)) (class_read T c k es)
    both = Both-gather (λ (n : Key). Unit {0}) (Forth T k) c (each (pair_of T (key_in c) k) es)
        (forths T (key_in c) k es s g)

    again_keys : Each (λ (e : Pair Form). key_in c (text_of_key e.key) ≡ e.key) (class_read T c k es)
    again_keys = each_under (λ (e : Pair Form) (x : Keyed c e.key). x.0) (class_read T c k es) (keys_of T c k es h)

    apart_again : Gathered c (each (pair_of T (key_in c) k) (each (entry_of T k) (class_read T c k es)))
    apart_again = same_gathered T c k (class_read T c k es) again_keys
        (Gathered-gather c (each (pair_of T (key_in c) k) es))

    lists : named (named_of (gather c (each (pair_of T (key_in c) k) (each (entry_of T k) (class_read T c k es)))))
        ≡ named (named_of (class_read T c k es))
    lists = sym (ap (λ l. class_form c k (reads T l)) (class_written T c k (class_read T c k es))
        ∙ class_form-reads T c k (each (entry_of T k) (class_read T c k es))) ∙ q

    listed_of : Form → List (Pair Form)
    listed_of (named es') = named_list es'
    listed_of f = []

    same : each (pair_of T (key_in c) k) (each (entry_of T k) (class_read T c k es)) ≡ class_read T c k es
    same = sym
        (gather-gathered c (each (pair_of T (key_in c) k) (each (entry_of T k) (class_read T c k es))) apart_again)
        ∙ sym (named_list-of (gather c (each (pair_of T (key_in c) k) (each (entry_of T k) (class_read T c k es)))))
        ∙ ap listed_of lists ∙ named_list-of (class_read T c k es)

deciding_same : (n : List ℕ) (f g : Form) → deciding n f ≡ deciding n g → f ≡ g
deciding_same n f g h = cc

-- the slot of a sound row stays, if the row reads it again from what it writes for it
pub firm_row : (T : Tables) (w : Row) (es : List (Entry Tree)) → row_sound T w ≡ true → TakesAll w es
    → Each (λ (e : Entry Tree). Firm T e.value) es
    → slot_of_own w (reads T (row_print w (printed T (slot_of_own w (reads T es))))) ≡ slot_of_own w (reads T es)
    → row_stays w (show (face_stays T) (slot_of_own w (reads T es))) ≡ true
firm_row T (row n m k) [] s h g q = stays-default T m k (and_parts (mode_fits m k) (sound T k) s).0
firm_row T (row n m k) (e ∷ es) s h g q = let p = and_parts (mode_fits m k) (sound T k) s in
    firm_first T n m k e.value p.0 p.1 g.0 (is_null e.value) refl q
firm_row T (either a j b k) [] s h g q = refl
firm_row T (either a j b k) (e ∷ es) s h g q =
    let p = and_parts (sound T j && sound T k) (not (same_text a b)) s in
    let r = and_parts (sound T j) (sound T k) p.0 in
    g.0 (cond (same_text a e.name) j k) (sound_pick T (same_text a e.name) j k r.0 r.1) (deciding_same e.name _ _ q)
firm_row T (class c k) es s h g q =
    let p = class_form-reads T c k es in
    subst (λ f. stays T (map_of k) f ≡ true) (sym p)
    (firm_class T c k es s h g
    (subst (λ f. slot_of_own (class c k) (reads T (row_print (class c k) (printed T f))) ≡ f) p q))
firm_row T (constant n v) es s h g q = refl
