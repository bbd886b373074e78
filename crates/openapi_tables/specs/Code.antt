-- Status codes, as names of responses of an operation. Each is one HTTP status code or a range of them.
use Rattle.std.specs.Prelude.{ℕ, Bool, true, false, ◌&&◌, ◌||◌, cond, List, [], ◌∷◌, ◌++◌, ◌==◌, nat_le, Option, Some}
use Rattle.std.specs.Prelude.{None, codes, ◌+◌, ◌-◌, ◌*◌, ◌/◌, ◌%◌, decimal}

-- A status code: one number, or a range of numbers by its first digit.
pub data Code : Type 0 where
  code : ℕ → Code
  range : ℕ → Code

-- whether a byte is one of the digits 0 to 9
abbrev pub is_digit : ℕ → Bool
is_digit b = nat_le 48 b && nat_le b 57

-- whether a byte is the letter X or x
abbrev pub is_x : ℕ → Bool
is_x b = b == 88 || b == 120

-- the status code of three bytes, if they have one: a number from 100 to 999, or one digit and two letters X or x
abbrev pub code_of_bytes : ℕ → ℕ → ℕ → Option Code
code_of_bytes a b c =
    cond (nat_le 49 a && nat_le a 57 && is_digit b && is_digit c)
    (Some (code (100 * (a - 48) + 10 * (b - 48) + (c - 48))))
    (cond (is_digit a && is_x b && is_x c) (Some (range (a - 48))) None)

-- the status code of a text, if it has one: only a text of three bytes does
abbrev pub code_of : List ℕ → Option Code
code_of [] = None
code_of (a ∷ []) = None
code_of (a ∷ b ∷ []) = None
code_of (a ∷ b ∷ c ∷ []) = code_of_bytes a b c
code_of (a ∷ b ∷ c ∷ d ∷ e) = None

-- whether an option contains a code
abbrev pub is_code : Option Code → Bool
is_code None = false
is_code (Some c) = true

-- whether a code is read again from its text: a number from 100 to 999, or a range of one digit
abbrev pub writable_code : Code → Bool
writable_code (code n) = nat_le 100 n && nat_le n 999
writable_code (range n) = nat_le n 9

-- the text of a code: its number in decimal digits, and `XX` after it for a range
abbrev pub text_of : Code → List ℕ
text_of (code n) = cond (writable_code (code n)) ((48 + n / 100) ∷ (48 + n / 10 % 10) ∷ (48 + n % 10) ∷ []) (decimal n)
text_of (range n) = cond (writable_code (range n)) ((48 + n) ∷ codes "XX") (decimal n ++ codes "XX")
