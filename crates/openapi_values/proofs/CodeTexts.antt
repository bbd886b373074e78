-- The text of a status code is its number as `{}` writes it, followed by `XX` for a range.
use Rattle.std.proofs.Common.{◌≡◌, ℕ, ◌+◌, ◌/◌, ◌%◌, ◌<◌, ◌≤◌, ◌^◌, Bool, true, false, cond, ◌&&◌, nat_le, List, []}
use Rattle.std.proofs.Common.{◌∷◌, ◌++◌, refl, sym, ap, arith, leb-true}
use Rattle.std.proofs.lemmas.Bool.{and_parts}
use Rattle.std.proofs.lemmas.Fmt.{decimal_digit, decimal_step}
use Rattle.std.specs.Fmt.{decimal}
use Rattle.std.specs.Prelude.{codes}
use Rattle.openapi_tables.specs.Kind.{code, range, text_of}

-- the digits of a number below 1000, with leading zeros
abbrev three_digits : ℕ → List ℕ
three_digits n = (48 + n / 100) ∷ (48 + n / 10 % 10) ∷ (48 + n % 10) ∷ []

three_digits-decimal : (n : ℕ) → 100 ≤ n → n ≤ 999 → three_digits n ≡ decimal n
three_digits-decimal n low high =
    let tens : 10 ≤ n / 10 = omega arith in
    let hundreds : n / 10 / 10 < 10 = omega arith in
    let same : n / 10 / 10 ≡ n / 100 = omega arith in
    let fits : n < 2 ^ 64 = omega arith in
    let tens_fit : n / 10 < 2 ^ 64 = omega arith in
    let first = decimal_digit (n / 10 / 10) hundreds in
    rw (decimal_step n (omega arith) fits, decimal_step (n / 10) tens tens_fit, first, same)

by_digits : (n : ℕ) (b : Bool) → (nat_le 100 n && nat_le n 999) ≡ b → cond b (three_digits n) (decimal n) ≡ decimal n
by_digits n false e = refl
by_digits n true e =
    let fits = and_parts (nat_le 100 n) (nat_le n 999) e in
    three_digits-decimal n (leb-true 100 n fits.0) (leb-true n 999 fits.1)

by_digit : (n : ℕ) (b : Bool) → nat_le n 9 ≡ b
    → cond b ((48 + n) ∷ codes "XX") (decimal n ++ codes "XX") ≡ decimal n ++ codes "XX"
by_digit n false e = refl
by_digit n true e =
    let small : n ≤ 9 = leb-true n 9 e in
    ap (λ l. l ++ codes "XX") (sym (decimal_digit n (omega arith)))

pub text_of_code : (n : ℕ) → text_of (code n) ≡ decimal n
text_of_code n = by_digits n _ refl

pub text_of_range : (n : ℕ) → text_of (range n) ≡ decimal n ++ codes "XX"
text_of_range n = by_digit n _ refl
