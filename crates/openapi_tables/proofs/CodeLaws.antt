-- A code is read again from its text, and what is read as a code can be written.
use Rattle.std.proofs.Common.{ℕ, Bool, true, false, not, cond, ◌&&◌, ◌||◌, ◌≤◌, ◌+◌, ◌-◌, ◌*◌, nat_le, List, [], ◌∷◌}
use Rattle.std.proofs.Common.{Option, Some, None, ◌≡◌, refl, ap, subst, arith, eqb-true, leb-true, le-leb}
use Rattle.std.proofs.lemmas.Bool.{agree_below, agree_below_at, and_parts, and_from}
use Rattle.openapi_tables.specs.Kind.{Code, code, range, code_of, text_of, writable_code, is_digit, is_x}
use Rattle.openapi_tables.specs.Read.{same_code}

abbrev is_again : Code → Option Code → Bool
is_again c None = false
is_again c (Some d) = same_code d c

-- codes that are the same by `same_code` are equal
pub same_code_eq : (c d : Code) → same_code c d ≡ true → c ≡ d
same_code_eq (code m) (code n) h = ap code (eqb-true m n h)
same_code_eq (code m) (range n) h = cc
same_code_eq (range m) (code n) h = cc
same_code_eq (range m) (range n) h = ap range (eqb-true m n h)

is_again_eq : (c : Code) (o : Option Code) → is_again c o ≡ true → o ≡ Some c
is_again_eq c None h = cc
is_again_eq c (Some d) h = ap (λ (x : Code). Some x) (same_code_eq d c h)

code_again : ℕ → Bool
code_again n = not (writable_code (code n)) || is_again (code n) (code_of (text_of (code n)))

range_again : ℕ → Bool
range_again n = is_again (range n) (code_of (text_of (range n)))

every_code : agree_below code_again (λ n. true) 1000 ≡ true
unfolding code_again
every_code = refl

every_range : agree_below range_again (λ n. true) 10 ≡ true
unfolding range_again
every_range = refl

of_or : (a b : Bool) → (not a || b) ≡ true → a ≡ true → b ≡ true
of_or true b h e = h
of_or false b h e = cc

-- a code that can be written is read again from its text
pub code_of-text_of : (c : Code) → writable_code c ≡ true → code_of (text_of c) ≡ Some c
unfolding code_again range_again
code_of-text_of (code n) h =
    let e = and_parts (nat_le 100 n) (nat_le n 999) h in
    let b : n ≤ 999 = leb-true n 999 e.1 in
    is_again_eq (code n) (code_of (text_of (code n)))
    (of_or (writable_code (code n)) (is_again (code n) (code_of (text_of (code n))))
    (agree_below_at code_again (λ x. true) 1000 n every_code (omega arith)) h)
code_of-text_of (range n) h =
    let b : n ≤ 9 = leb-true n 9 h in
    is_again_eq (range n) (code_of (text_of (range n)))
    (agree_below_at range_again (λ x. true) 10 n every_range (omega arith))

writable_of : (b1 b2 : Bool) (x y c : Code) → (b1 ≡ true → writable_code x ≡ true)
    → (b2 ≡ true → writable_code y ≡ true) → cond b1 (Some x) (cond b2 (Some y) None) ≡ Some c → writable_code c ≡ true
writable_of true b2 x y c h g e = let p : x ≡ c = cc in subst (λ z. writable_code z ≡ true) p (h refl)
writable_of false true x y c h g e = let p : y ≡ c = cc in subst (λ z. writable_code z ≡ true) p (g refl)
writable_of false false x y c h g e = cc

code_fits : (a b c : ℕ) → (nat_le 49 a && nat_le a 57 && is_digit b && is_digit c) ≡ true
    → writable_code (code (100 * (a - 48) + 10 * (b - 48) + (c - 48))) ≡ true
code_fits a b c h =
    let p = and_parts (nat_le 49 a && nat_le a 57 && is_digit b) (is_digit c) h in
    let q = and_parts (nat_le 49 a && nat_le a 57) (is_digit b) p.0 in
    let r = and_parts (nat_le 49 a) (nat_le a 57) q.0 in
    let s = and_parts (nat_le 48 b) (nat_le b 57) q.1 in
    let t = and_parts (nat_le 48 c) (nat_le c 57) p.1 in
    let a1 : 49 ≤ a = leb-true 49 a r.0 in
    let a2 : a ≤ 57 = leb-true a 57 r.1 in
    let b1 : 48 ≤ b = leb-true 48 b s.0 in
    let b2 : b ≤ 57 = leb-true b 57 s.1 in
    let c1 : 48 ≤ c = leb-true 48 c t.0 in
    let c2 : c ≤ 57 = leb-true c 57 t.1 in
    and_from _ _ (le-leb 100 (100 * (a - 48) + 10 * (b - 48) + (c - 48)) (omega arith))
    (le-leb (100 * (a - 48) + 10 * (b - 48) + (c - 48)) 999 (omega arith))

range_fits : (a b c : ℕ) → (is_digit a && is_x b && is_x c) ≡ true → writable_code (range (a - 48)) ≡ true
range_fits a b c h =
    let p = and_parts (is_digit a && is_x b) (is_x c) h in
    let q = and_parts (is_digit a) (is_x b) p.0 in
    let r = and_parts (nat_le 48 a) (nat_le a 57) q.0 in
    let a2 : a ≤ 57 = leb-true a 57 r.1 in
    le-leb (a - 48) 9 (omega arith)

-- a code that is read from a text can be written
pub writable-code_of : (s : List ℕ) (c : Code) → code_of s ≡ Some c → writable_code c ≡ true
writable-code_of (x ∷ y ∷ z ∷ []) c h =
    writable_of _ _ (code (100 * (x - 48) + 10 * (y - 48) + (z - 48))) (range (x - 48)) c (code_fits x y z)
    (range_fits x y z) h
writable-code_of (x ∷ y ∷ []) c h = cc
writable-code_of s c h = cc
