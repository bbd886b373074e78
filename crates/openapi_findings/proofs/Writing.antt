-- What loops over characters and over steps have written so far.
use Rattle.std.proofs.Common.{◌≡◌, ◌≢◌, ℕ, ◌+◌, ◌-◌, ◌/◌, ◌%◌, ◌^◌, ◌<◌, false, List, [], ◌∷◌, ◌++◌, length, get_or, take, flat_map, sym, ap, ◌∙◌, append_assoc, append-nil, arith, inl, inr}
use Rattle.std.proofs.lemmas.Bool.{cases_lt}
use Rattle.std.proofs.lemmas.Bool.Decides.{nat_tests}
use Rattle.std.proofs.lemmas.Fmt.{hex_one_digit, hex_two_digits}
use Rattle.std.proofs.lemmas.List.{nil_from_length, flat_map_more, take_more}
use Rattle.std.proofs.lemmas.Str.{chars-nil, chars_past_char}
use Rattle.std.specs.Char.{encode_utf8}
use Rattle.std.specs.Fmt.{char_count, digit_glyph, digits, format_spec, padded_integral}
use Rattle.std.specs.Str.{IsUtf8, chars}
use Rattle.std.specs.Prelude.{codes}
use Rattle.openapi_findings.specs.Escaped.{in_json}

module _ (e : ℕ → List ℕ) where
  -- the next character is written, and the rest is left
  pub next_char : (done bs rest whole : List ℕ) (c : ℕ) → IsUtf8 bs → bs ≡ encode_utf8 c ++ rest
      → done ++ flat_map e (chars bs) ≡ whole → (done ++ e c) ++ flat_map e (chars rest) ≡ whole
  next_char done bs rest whole c u s h =
      append_assoc done (e c) (flat_map e (chars rest))
      ∙ ap (λ (cs : List ℕ). done ++ flat_map e cs) (sym (chars_past_char bs rest c u s))
      ∙ h

  -- no character is left
  pub no_char : (done bs whole : List ℕ) → length bs ≡ 0 → done ++ flat_map e (chars bs) ≡ whole → done ≡ whole
  no_char done bs whole n h =
      sym (append-nil done)
      ∙ ap (λ (cs : List ℕ). done ++ flat_map e cs) (sym (ap chars (nil_from_length bs n) ∙ chars-nil))
      ∙ h

-- the next element of a list is written
pub next_element : {X : Type 0} (f : X → List ℕ) (xs : List X) (i : ℕ) (x : X) → i < length xs → x ≡ get_or xs i x
    → flat_map f (take i xs) ++ f x ≡ flat_map f (take (i + 1) xs)
next_element f xs i x lt is =
    flat_map_more f [] (take i xs) x
    ∙ ap (λ y. flat_map f (take i xs ++ y ∷ [])) is
    ∙ ap (flat_map f) (sym (take_more xs i x lt))

-- what `{:04x}` writes for a byte
pub hex_of_control : (n : ℕ) → n < 256
    → padded_integral (format_spec 32 0 4 4 (2 ^ 64 - 1)) false [] (digits 16 false n)
    ≡ 48 ∷ 48 ∷ digit_glyph false (n / 16) ∷ digit_glyph false (n % 16) ∷ []
unfolding padded_integral char_count
hex_of_control n small =
    elim (cases_lt n 16) [
      | inl one ↦ let high : n / 16 ≡ 0 = omega arith in let low : n % 16 ≡ n = omega arith in rw (hex_one_digit false n one, high, low)
      | inr two ↦ rw (hex_two_digits false n two small)
    ]

-- a control character with no escape of its own in a string of JSON
pub control_in_json : (c : ℕ) → c < 32 → c ≢ 10 → c ≢ 13 → c ≢ 9
    → codes "\\u" ++ padded_integral (format_spec 32 0 4 4 (2 ^ 64 - 1)) false [] (digits 16 false c) ≡ in_json c
unfolding in_json
control_in_json c lt feed return tab = rw (hex_of_control c (omega arith)) (grind (arith, nat_tests))
