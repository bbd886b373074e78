-- A node that conforms is normalized to one of at most twice its size: for rows.
use Rattle.std.proofs.Common.{ℕ, suc, Bool, true, false, not, cond, ◌&&◌, ◌||◌, List, [], ◌∷◌, Some, ◌≡◌, refl, sym, ap}
use Rattle.std.proofs.Common.{◌∙◌, subst, ◌≤◌, ◌+◌, ◌*◌, arith, nat_le, leb-true}
use Rattle.std.proofs.lemmas.Bool.{and_parts}
use Rattle.openapi_tables.specs.Prelude.{Kind, Tables, Row, Class, Mode, class, constant, either, flagged, formatted}
use Rattle.openapi_tables.specs.Prelude.{list_of, listed, map_of, nullable, optional, required, row, status_names}
use Rattle.openapi_tables.specs.Prelude.{styled, takes, conforms, may_miss, Form, Key, Pair, each, every, join}
use Rattle.openapi_tables.specs.Prelude.{same_text, Choice, choice, is_null, own, rows_of, clean, is_silent, members_in}
use Rattle.openapi_tables.specs.Prelude.{one, print, row_print, class_form, default_of, form, gather, key_in, name_slot}
use Rattle.openapi_tables.specs.Prelude.{put, put_all, same_key, slot_of_own, apart, mode_fits, row_sound, rows_apart}
use Rattle.openapi_tables.specs.Prelude.{sound, Entry, Seen, members_of}
use Rattle.openapi_tables.proofs.FaultLaws.{judged}
use Rattle.openapi_tables.proofs.ListLaws.{Each, Each_within-only, each_under, every_each}
use Rattle.openapi_tables.proofs.PrintLaws.{entry_of, members_for, print-fields, print-map, printed}
use Rattle.openapi_tables.proofs.ReadLaws.{class_form-reads, form-fields, pair_of, reads, slot_in}
use Rattle.openapi_tables.proofs.ReadProper.{AllRead, RowReads, or_false_right}
use Rattle.openapi_tables.proofs.RowLaws.{apart_takes}
use Rattle.openapi_tables.proofs.TreeLaws.{members_list-of}
use Rattle.openapi_tables.specs.Sound.{extra, extras}
use Rattle.openapi_node.specs.Tree.{Tree, members_size, null, object, size_of}
use Rattle.openapi_tables.proofs.SoundLaws.{sound_pick}

-- the number of values in members, at every depth
abbrev pub total : List (Entry Tree) → ℕ
total [] = 0
total (e ∷ es) = size_of e.value + total es

-- a node contains at least one value, itself
pub size_positive : (t : Tree) → 1 ≤ size_of t
size_positive null = omega arith
size_positive t = omega arith

members_size-of : (es : List (Entry Tree)) → members_size (members_of es) ≡ total es
members_size-of [] = refl
members_size-of (e ∷ es) = ap (λ n. size_of e.value + n) (members_size-of es)

total-join : (xs ys : List (Entry Tree)) → total (join xs ys) ≡ total xs + total ys
total-join [] ys = omega arith
total-join (x ∷ xs) ys = let p = total-join xs ys in omega arith

-- the number of values in the members that rows take, added row by row
abbrev owned : List Row → List (Entry Tree) → ℕ
owned [] es = 0
owned (w ∷ ws) es = total (own w es) + owned ws es

owned-nil : (ws : List Row) → owned ws [] ≡ 0
owned-nil [] = refl
owned-nil (w ∷ ws) = let p = owned-nil ws in omega arith

owned_none : (ws : List Row) (e : Entry Tree) (es : List (Entry Tree)) → Each (λ v. takes v e.name ≡ false) ws
    → owned ws (e ∷ es) ≡ owned ws es
owned_none [] e es h = refl
owned_none (w ∷ ws) e es h = ap (λ b. total (cond b (e ∷ own w es) (own w es)) + owned ws (e ∷ es)) h.0
    ∙ ap (λ n. total (own w es) + n) (owned_none ws e es h.1)

owned_more : (ws : List Row) (e : Entry Tree) (es : List (Entry Tree)) → rows_apart ws ≡ true
    → owned ws (e ∷ es) ≤ size_of e.value + owned ws es
owned_more [] e es h = omega arith
owned_more (w ∷ ws) e es h = at (takes w e.name) refl
    (owned_more ws e es (and_parts (every (apart w) ws) (rows_apart ws) h).1)
  where
    others : takes w e.name ≡ true → Each (λ v. takes v e.name ≡ false) ws
    others x = each_under (λ v (y : apart w v ≡ true). apart_takes w v e.name y x) ws
        (every_each (apart w) ws (and_parts (every (apart w) ws) (rows_apart ws) h).0)

    at : (b : Bool) → takes w e.name ≡ b → owned ws (e ∷ es) ≤ size_of e.value + owned ws es
        → total (cond b (e ∷ own w es) (own w es)) + owned ws (e ∷ es)
        ≤ size_of e.value + (total (own w es) + owned ws es)
    at true x y = let p : owned ws (e ∷ es) ≡ owned ws es = owned_none ws e es (others x) in omega arith
    at false x y = omega arith

owned_le : (ws : List Row) (es : List (Entry Tree)) → rows_apart ws ≡ true → owned ws es ≤ total es
owned_le ws [] h = let p = owned-nil ws in omega arith
owned_le ws (e ∷ es) h = let p = owned_more ws e es h in let q = owned_le ws es h in omega arith

-- a node that conforms to a sound kind is normalized to one of at most twice its size
abbrev pub Small : (T : Tables) → Tree → Type 0
Small T t = (k : Kind) → sound T k ≡ true → conforms T k t ≡ true → size_of (clean T k t) ≤ 2 * size_of t

-- the value of each member, if it conforms, is normalized to one of at most twice its size
abbrev pub Smalls : (T : Tables) → List (Entry Tree) → Type 0
Smalls T es = Each (λ (e : Entry Tree). Small T e.value) es

default_small : (T : Tables) (n : List ℕ) (m : Mode) (k : Kind) → mode_fits m k ≡ true → may_miss m ≡ true
    → total (row_print (row n m k) (printed T (default_of m k))) ≤ extra (row n m k)
default_small T n required k s h = cc
default_small T n optional k s h = let p : 0 ≤ 0 = omega arith in p
default_small T n nullable k s h = let p : 1 ≤ 1 = omega arith in p
default_small T n listed (list_of k) s h = let p : 0 ≤ 0 = omega arith in p
default_small T n listed (map_of k) s h = let p : 0 ≤ 0 = omega arith in p
default_small T n listed k s h = cc
default_small T n flagged k s h = let p : 0 ≤ 0 = omega arith in p
default_small T n (styled u) k s h = let p : 1 ≤ 1 = omega arith in p
default_small T n formatted k s h = let p : 0 ≤ 0 = omega arith in p

one_small : (b : Bool) (n : List ℕ) (t : Tree) → total (cond b [] (one n t)) ≤ size_of t
one_small true n t = omega arith
one_small false n t = omega arith

value_small : (T : Tables) (n : List ℕ) (m : Mode) (k : Kind) (t : Tree) → mode_fits m k ≡ true
    → (conforms T k t ≡ true → size_of (clean T k t) ≤ 2 * size_of t) → (is_null t || conforms T k t) ≡ true
    → (may_miss m || not (is_null t)) ≡ true
    → (b : Bool) → is_null t ≡ b → total (row_print (row n m k) (printed T (cond b (default_of m k) (form T k t))))
    ≤ 2 * size_of t + extra (row n m k)
value_small T n m k t s g h p true e =
    let q = default_small T n m k s (or_false_right (may_miss m) (sym (ap (λ b. may_miss m || not b) e) ∙ p)) in
    omega arith
value_small T n m k t s g h p false e =
    let q : size_of (clean T k t) ≤ 2 * size_of t = g (sym (ap (λ b. b || conforms T k t) e) ∙ h) in
    let r : total (cond (is_silent m (form T k t)) [] (one n (clean T k t))) ≤ size_of (clean T k t) =
    one_small (is_silent m (form T k t)) n (clean T k t) in
    omega arith

put_small : (T : Tables) (k : Kind) (n : Key) (x : Form) (m : List (Pair Form))
    → total (each (entry_of T k) (put n x m)) ≤ size_of (print T k x) + total (each (entry_of T k) m)
put_small T k n x [] = omega arith
put_small T k n x (e ∷ m) = at (same_key e.key n) (put_small T k n x m)
  where
    at : (b : Bool) → total (each (entry_of T k) (put n x m)) ≤ size_of (print T k x) + total (each (entry_of T k) m)
        → total (each (entry_of T k) (cond b (record { key = e.key; value = x } ∷ m) (e ∷ put n x m)))
        ≤ size_of (print T k x) + (size_of (print T k e.value) + total (each (entry_of T k) m))
    at true p = omega arith
    at false p = omega arith

put_all_small : (T : Tables) (k : Kind) (m es : List (Pair Form))
    → total (each (entry_of T k) (put_all m es)) ≤ total (each (entry_of T k) m) + total (each (entry_of T k) es)
put_all_small T k m [] = omega arith
put_all_small T k m (e ∷ es) = let p = put_all_small T k (put e.key e.value m) es in let q =
    put_small T k e.key e.value m in omega arith

gather_small : (T : Tables) (k : Kind) (c : Class) (es : List (Pair Form))
    → total (each (entry_of T k) (gather c es)) ≤ total (each (entry_of T k) es)
gather_small T k status_names es = let p = put_all_small T k [] es in omega arith
gather_small T k c es = omega arith

pairs_small : (T : Tables) (g : List ℕ → Key) (k : Kind) (l : List (Entry Tree)) → sound T k ≡ true → Smalls T l
    → every (λ (e : Entry (Seen (Kind → Bool))). e.value.answer k) (judged T l) ≡ true
    → total (each (entry_of T k) (each (pair_of T g k) l)) ≤ 2 * total l
pairs_small T g k [] s d h = omega arith
pairs_small T g k (e ∷ l) s d h =
    let p = and_parts (conforms T k e.value)
    (every (λ (e : Entry (Seen (Kind → Bool))). e.value.answer k) (judged T l)) h in
    let q : size_of (clean T k e.value) ≤ 2 * size_of e.value = d.0 k s p.0 in
    let r = pairs_small T g k l s d.1 p.1 in
    omega arith

-- a row of a constant text takes at least one member. For other rows this is true
abbrev pub Full : List (Entry Tree) → Row → Type 0
Full l (constant n v) = 1 ≤ total l
Full l (row n m k) = Unit {0}
Full l (either a j b k) = Unit {0}
Full l (class c k) = Unit {0}

row_small : (T : Tables) (w : Row) (l : List (Entry Tree)) → row_sound T w ≡ true → Smalls T l → RowReads T l w
    → Full l w → total (row_print w (printed T (slot_of_own w (reads T l)))) ≤ 2 * total l + extra w
row_small T (row n m k) [] s d h f = let p =
    default_small T n m k (and_parts (mode_fits m k) (sound T k) s).0 (or_false_right (may_miss m) h.1) in omega arith
row_small T (row n m k) (e ∷ l) s d h f =
    let p = and_parts (mode_fits m k) (sound T k) s in
    let q : total (row_print (row n m k) (printed T (name_slot m k (reads T (e ∷ l)))))
    ≤ 2 * size_of e.value + extra (row n m k) =
    value_small T n m k e.value p.0 (λ x. d.0 k p.1 x) h.0 h.1 (is_null e.value) refl in
    omega arith
row_small T (either a j b k) [] s d h f = cc
row_small T (either a j b k) (e ∷ l) s d h f =
    let q = and_parts (sound T j && sound T k) (not (same_text a b)) s in
    let r = and_parts (sound T j) (sound T k) q.0 in
    let p : size_of (clean T (cond (same_text a e.name) j k) e.value) ≤ 2 * size_of e.value =
    d.0 (cond (same_text a e.name) j k) (sound_pick T (same_text a e.name) j k r.0 r.1) h in
    let g : size_of (clean T (cond (same_text a e.name) j k) e.value) + 0 ≤ 2 * (size_of e.value + total l) + 0 =
    omega arith in
    g
row_small T (class c k) l s d h f =
    let m = each (pair_of T (key_in c) k) l in
    let p : row_print (class c k) (printed T (class_form c k (reads T l))) ≡ each (entry_of T k) (gather c m) =
    ap (λ f. row_print (class c k) (printed T f)) (class_form-reads T c k l)
    ∙ ap members_in (print-map T k (gather c m)) ∙ members_list-of (each (entry_of T k) (gather c m)) in
    let q = gather_small T k c m in
    let r = pairs_small T (key_in c) k l s d h in
    subst (λ x. total x ≤ 2 * total l + 0) (sym p) (omega arith)
row_small T (constant n v) l s d h f = let p : 1 ≤ 2 * total l + 0 = omega arith in p

-- each row of a constant text, such as a tag, takes at least one member of a list
abbrev pub AllFull : List (Entry Tree) → List Row → Type 0
AllFull es ws = Each (λ w. Full (own w es) w) ws

rows_small : (T : Tables) (es : List (Entry Tree)) (ws : List Row) → Each (λ w. row_sound T w ≡ true) ws
    → Smalls T es → AllRead T es ws → AllFull es ws
    → total (members_for T ws (each (slot_in T es) ws)) ≤ 2 * owned ws es + extras ws
rows_small T es [] s d h f = omega arith
rows_small T es (w ∷ ws) s d h f =
    let p = row_small T w (own w es) s.0 (Each_within-only (λ (e : Entry Tree). Small T e.value) _ es d) h.0 f.0 in
    let q = rows_small T es ws s.1 d h.1 f.1 in
    let r = total-join (row_print w (printed T (slot_in T es w))) (members_for T ws (each (slot_in T es) ws)) in
    omega arith

-- an object is normalized to at most twice its size if its values are and its rows add at most one member
pub object_small : (T : Tables) (k : Kind) (c : Choice) (es : List (Entry Tree)) → choice k es ≡ Some c
    → rows_apart (rows_of T k c) ≡ true → Each (λ w. row_sound T w ≡ true) (rows_of T k c)
    → nat_le (extras (rows_of T k c)) 1 ≡ true
    → Smalls T es → AllRead T es (rows_of T k c) → AllFull es (rows_of T k c)
    → size_of (clean T k (object (members_of es))) ≤ 2 * size_of (object (members_of es))
object_small T k c es e a s x d h f =
    let ws = rows_of T k c in
    let l = members_for T ws (each (slot_in T es) ws) in
    let p : clean T k (object (members_of es)) ≡ object (members_of l) = ap (print T k) (form-fields T k c es e)
    ∙ print-fields T k c es (each (slot_in T es) ws) e in
    let q : total l ≤ 2 * owned ws es + extras ws = rows_small T es ws s d h f in
    let r : owned ws es ≤ total es = owned_le ws es a in
    let u : extras ws ≤ 1 = leb-true (extras ws) 1 x in
    let v = members_size-of l in
    let w = members_size-of es in
    subst (λ t. size_of t ≤ 2 * suc (members_size (members_of es))) (sym p) (omega arith)
