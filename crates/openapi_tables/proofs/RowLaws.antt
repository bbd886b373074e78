-- Rows that are apart: no name is taken by two of them. From what such rows write, each takes its own members and no
-- others.
use Rattle.std.proofs.Common.{ℕ, Bool, true, false, not, cond, ◌&&◌, ◌≤◌, nat_le, List, [], ◌∷◌, Some, None, ◌≡◌, refl}
use Rattle.std.proofs.Common.{sym, ap, ◌∙◌, subst, codes, eqb-true, leb-true, arith, ⊎_elim}
use Rattle.std.proofs.lemmas.Bool.{and_parts, or_cases, or_from, cases_Bool, both_ways, not-true}
use Rattle.openapi_tables.specs.Prelude.{join, only, every, same_text, Entry, Code, Row, row, either, class, constant}
use Rattle.openapi_tables.specs.Prelude.{Class, extensions, callback_names, Mode, Kind, status_names, takes, in_class}
use Rattle.openapi_tables.specs.Prelude.{is_code, Tables, own, Form, apart, rows_apart, row_print, one}
use Rattle.openapi_node.specs.Tree.{Tree}
use Rattle.openapi_tables.specs.Kind.{path_names, is_digit, is_x, begins}
use Rattle.openapi_tables.specs.Sound.{classes_meet}
use Rattle.openapi_tables.proofs.ListLaws.{same_text-refl, Each, each_under, only-join, only_all, only_none, join-nil}
use Rattle.openapi_tables.proofs.ListLaws.{join_assoc, same_text-refl, same_text_eq, every_each}
use Rattle.openapi_tables.proofs.PrintLaws.{printed, members_for}

-- a boolean that cannot be true is false
pub not_both : (b : Bool) → (b ≡ true → ⊥) → b ≡ false
not_both b h = ⊎_elim (λ (e : b ≡ true). absurd (h e)) (λ (e : b ≡ false). e) (cases_Bool b)

-- the first byte of a name in a class
abbrev first_byte : List ℕ → ℕ
first_byte [] = 0
first_byte (b ∷ t) = b

extension_first : (n : List ℕ) → in_class extensions n ≡ true → first_byte n ≡ 120
extension_first [] h = cc
extension_first (b ∷ t) h = sym (eqb-true 120 b (and_parts _ _ h).0)

path_first : (n : List ℕ) → in_class path_names n ≡ true → first_byte n ≡ 47
path_first [] h = cc
path_first (b ∷ t) h = sym (eqb-true 47 b (and_parts _ _ h).0)

digit_first : (a : ℕ) → is_digit a ≡ true → (48 ≤ a) × (a ≤ 57)
digit_first a h = let p = and_parts (nat_le 48 a) (nat_le a 57) h in (leb-true 48 a p.0, leb-true a 57 p.1)

code_first : (a b c : ℕ) (u v : Bool) → u ≡ (nat_le 49 a && nat_le a 57 && is_digit b && is_digit c)
    → v ≡ (is_digit a && is_x b && is_x c)
    → (x y : Code) → is_code (cond u (Some x) (cond v (Some y) None)) ≡ true → (48 ≤ a) × (a ≤ 57)
code_first a b c true v e g x y h =
    let p = and_parts (nat_le 49 a && nat_le a 57 && is_digit b) (is_digit c) (sym e) in
    let q = and_parts (nat_le 49 a && nat_le a 57) (is_digit b) p.0 in
    let r = and_parts (nat_le 49 a) (nat_le a 57) q.0 in
    let l : 49 ≤ a = leb-true 49 a r.0 in
    (omega arith, leb-true a 57 r.1)
code_first a b c false true e g x y h =
    let p = and_parts (is_digit a && is_x b) (is_x c) (sym g) in
    digit_first a (and_parts (is_digit a) (is_x b) p.0).0
code_first a b c false false e g x y h = cc

status_first : (n : List ℕ) → in_class status_names n ≡ true → (48 ≤ first_byte n) × (first_byte n ≤ 57)
status_first (a ∷ b ∷ c ∷ []) h = code_first a b c _ _ refl refl _ _ h
status_first (a ∷ b ∷ []) h = cc
status_first n h = cc

begins_both : (n : List ℕ) → begins (codes "x-") n ≡ true → not (begins (codes "x-") n) ≡ true → ⊥
begins_both n h g = both_ways (begins (codes "x-") n) (not-true (begins (codes "x-") n) g) h

classes_apart : (c d : Class) (n : List ℕ) → classes_meet c d ≡ false → in_class c n ≡ true → in_class d n ≡ true → ⊥
classes_apart extensions callback_names n e h g = begins_both n h g
classes_apart callback_names extensions n e h g = begins_both n g h
classes_apart extensions path_names n e h g = let p = extension_first n h in let q = path_first n g in omega arith
classes_apart path_names extensions n e h g = let p = path_first n h in let q = extension_first n g in omega arith
classes_apart extensions status_names n e h g = let p = extension_first n h in let q = status_first n g in omega arith
classes_apart status_names extensions n e h g = let q = status_first n h in let p = extension_first n g in omega arith
classes_apart path_names status_names n e h g = let p = path_first n h in let q = status_first n g in omega arith
classes_apart status_names path_names n e h g = let q = status_first n h in let p = path_first n g in omega arith
classes_apart c extensions n e h g = cc
classes_apart c d n e h g = cc

at_name : (v : Row) (a n : List ℕ) → not (takes v a) ≡ true → same_text a n ≡ true → takes v n ≡ false
at_name v a n h e = subst (λ m. takes v m ≡ false) (same_text_eq a n e) (not-true (takes v a) h)

class_name : (c : Class) (b n : List ℕ) → not (in_class c b) ≡ true → in_class c n ≡ true → same_text b n ≡ true → ⊥
class_name c b n h e g =
    both_ways (in_class c n) (subst (λ m. in_class c m ≡ false) (same_text_eq b n g) (not-true (in_class c b) h)) e

-- a name that one row takes is not taken by a row that is apart from it
pub apart_takes : (w v : Row) (n : List ℕ) → apart w v ≡ true → takes w n ≡ true → takes v n ≡ false
apart_takes (row a m k) v n h e = at_name v a n h e
apart_takes (constant a u) v n h e = at_name v a n h e
apart_takes (either a j b k) v n h e =
    let p = and_parts (not (takes v a)) (not (takes v b)) h in
    ⊎_elim (λ (x : same_text a n ≡ true). at_name v a n p.0 x) (λ (x : same_text b n ≡ true). at_name v b n p.1 x)
    (or_cases (same_text a n) (same_text b n) e)
apart_takes (class c k) (row b m i) n h e = not_both (same_text b n) (class_name c b n h e)
apart_takes (class c k) (constant b u) n h e = not_both (same_text b n) (class_name c b n h e)
apart_takes (class c k) (either b j d i) n h e =
    let p = and_parts (not (in_class c b)) (not (in_class c d)) h in
    or_from (same_text b n) (same_text d n) (not_both (same_text b n) (class_name c b n p.0 e))
    (not_both (same_text d n) (class_name c d n p.1 e))
apart_takes (class c k) (class d i) n h e =
    not_both (in_class d n) (classes_apart c d n (not-true (classes_meet c d) h) e)

-- of two rows that are apart, the first takes no name that the second takes
pub apart_back : (w v : Row) (n : List ℕ) → apart w v ≡ true → takes v n ≡ true → takes w n ≡ false
apart_back w v n h e = not_both (takes w n) (λ x. both_ways (takes v n) (apart_takes w v n h x) e)

-- a row takes all of a list of members
abbrev pub TakesAll : Row → List (Entry Tree) → Type 0
TakesAll w es = Each (λ (e : Entry Tree). takes w e.name ≡ true) es

pub own_all : (w : Row) (es : List (Entry Tree)) → TakesAll w es → own w es ≡ es
own_all w es h = only_all (λ (e : Entry Tree). takes w e.name) es h

pub own_none : (w v : Row) (es : List (Entry Tree)) → apart w v ≡ true → TakesAll w es → own v es ≡ []
own_none w v es h g =
    only_none (λ (e : Entry Tree). takes v e.name) es
    (each_under (λ (e : Entry Tree) (x : takes w e.name ≡ true). apart_takes w v e.name h x) es g)

pub own_none_back : (w v : Row) (es : List (Entry Tree)) → apart w v ≡ true → TakesAll v es → own w es ≡ []
own_none_back w v es h g =
    only_none (λ (e : Entry Tree). takes w e.name) es
    (each_under (λ (e : Entry Tree) (x : takes v e.name ≡ true). apart_back w v e.name h x) es g)

-- each row takes all that it writes for its form
abbrev pub OwnWrites : (T : Tables) → List Row → List Form → Type 0
OwnWrites T [] [] = Unit {0}
OwnWrites T [] (f ∷ fs) = ⊥
OwnWrites T (w ∷ ws) [] = ⊥
OwnWrites T (w ∷ ws) (f ∷ fs) = TakesAll w (row_print w (printed T f)) × OwnWrites T ws fs

-- the members that each row takes from a list are those that it writes for its form
abbrev pub Found : (T : Tables) → List (Entry Tree) → List Row → List Form → Type 0
Found T es [] [] = Unit {0}
Found T es [] (f ∷ fs) = ⊥
Found T es (w ∷ ws) [] = ⊥
Found T es (w ∷ ws) (f ∷ fs) = (own w es ≡ row_print w (printed T f)) × Found T es ws fs

-- a row that is apart from all rows takes nothing from what they write
pub own_others : (T : Tables) (w : Row) (ws : List Row) (fs : List Form) → Each (λ v. apart w v ≡ true) ws
    → OwnWrites T ws fs → own w (members_for T ws fs) ≡ []
own_others T w [] fs h g = refl
own_others T w (v ∷ ws) [] h g = absurd g
own_others T w (v ∷ ws) (f ∷ fs) h g =
    only-join (λ (e : Entry Tree). takes w e.name) (row_print v (printed T f)) (members_for T ws fs)
    ∙ ap (λ l. join l (own w (members_for T ws fs))) (own_none_back w v (row_print v (printed T f)) h.0 g.0)
    ∙ own_others T w ws fs h.1 g.1

found_after : (T : Tables) (pre : List (Entry Tree)) (ws : List Row) (fs : List Form) → rows_apart ws ≡ true
    → Each (λ w. own w pre ≡ []) ws → OwnWrites T ws fs → Found T (join pre (members_for T ws fs)) ws fs
found_after T pre [] [] a h g = tt
found_after T pre [] (f ∷ fs) a h g = g
found_after T pre (w ∷ ws) [] a h g = g
found_after T pre (w ∷ ws) (f ∷ fs) a h g = (
  here,
  subst (λ es. Found T es ws fs) (join_assoc pre mine rest)
      (found_after T (join pre mine) ws fs parts.1 (later ws others h.1) g.1),
)
  where
    mine : List (Entry Tree)
    mine = row_print w (printed T f)

    rest : List (Entry Tree)
    rest = members_for T ws fs

    parts : (every (apart w) ws ≡ true) × (rows_apart ws ≡ true)
    parts = and_parts (every (apart w) ws) (rows_apart ws) a

    others : Each (λ v. apart w v ≡ true) ws
    others = every_each (apart w) ws parts.0

    here : own w (join pre (join mine rest)) ≡ mine
    here =
        only-join (λ (e : Entry Tree). takes w e.name) pre (join mine rest)
        ∙ ap (λ l. join l (own w (join mine rest))) h.0
        ∙ only-join (λ (e : Entry Tree). takes w e.name) mine rest
        ∙ ap (λ l. join l (own w rest)) (own_all w mine g.0)
        ∙ ap (λ l. join mine l) (own_others T w ws fs others g.1)
        ∙ join-nil mine

    later : (vs : List Row) → Each (λ v. apart w v ≡ true) vs → Each (λ v. own v pre ≡ []) vs
        → Each (λ v. own v (join pre mine) ≡ []) vs
    later [] x y = tt
    later (v ∷ vs) x y = (
      only-join (λ (e : Entry Tree). takes v e.name) pre mine
          ∙ ap (λ l. join l (own v mine)) y.0
          ∙ own_none w v mine x.0 g.0,
      later vs x.1 y.1,
    )

nothing_before : (ws : List Row) → Each (λ w. own {X = Tree} w [] ≡ []) ws
nothing_before [] = tt
nothing_before (w ∷ ws) = (refl, nothing_before ws)

-- from what rows write that are apart, each takes its own members
pub found : (T : Tables) (ws : List Row) (fs : List Form) → rows_apart ws ≡ true → OwnWrites T ws fs
    → Found T (members_for T ws fs) ws fs
found T ws fs a g = found_after T [] ws fs a (nothing_before ws) g

-- if no row takes a name, no member that they write has it
pub no_name : (T : Tables) (n : List ℕ) (ws : List Row) (fs : List Form) → Each (λ w. takes w n ≡ false) ws
    → OwnWrites T ws fs → only (λ (e : Entry Tree). same_text n e.name) (members_for T ws fs) ≡ []
no_name T n [] fs h g = refl
no_name T n (w ∷ ws) [] h g = absurd g
no_name T n (w ∷ ws) (f ∷ fs) h g =
    only-join (λ (e : Entry Tree). same_text n e.name) (row_print w (printed T f)) (members_for T ws fs)
    ∙ ap (λ l. join l (only (λ (e : Entry Tree). same_text n e.name) (members_for T ws fs)))
    (only_none (λ (e : Entry Tree). same_text n e.name) (row_print w (printed T f))
    (each_under other (row_print w (printed T f)) g.0))
    ∙ no_name T n ws fs h.1 g.1
  where
    other : (e : Entry Tree) → takes w e.name ≡ true → same_text n e.name ≡ false
    other e x = not_both (same_text n e.name)
        (λ y. both_ways (takes w e.name) (subst (λ m. takes w m ≡ false) (same_text_eq n e.name y) h.0) x)

-- a row of one name takes what it writes at the name, which is one member or none
pub takes_cond : (n : List ℕ) (m : Mode) (k : Kind) (t : Tree) (b : Bool) → TakesAll (row n m k) (cond b [] (one n t))
takes_cond n m k t true = tt
takes_cond n m k t false = (same_text-refl n, tt)
