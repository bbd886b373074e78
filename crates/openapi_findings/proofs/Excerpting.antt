-- How far a line goes before an offset and from it on, a byte at a time.
use Rattle.std.proofs.Common.{◌≡◌, ◌≢◌, ℕ, ◌+◌, ◌-◌, ◌<◌, ◌≤◌, ◌==◌, true, false, ◌&&◌, ◌||◌, if◌then◌else◌, List, length, get_or, drop, take, reverse, ap, ◌∙◌, arith, get_or-take, length-take-le}
use Rattle.std.proofs.lemmas.Bool.Decides.{nat_tests}
use Rattle.std.proofs.lemmas.List.{at_drop_all, at_drop_more, get_or-reverse, length-reverse}
use Rattle.std.specs.Fmt.{is_char_start}
use Rattle.openapi_findings.specs.Excerpts.{back_len, front_len, left_behind}

module _ (n : ℕ) (xs : List ℕ) (i : ℕ) where
  pub front_at_end : length xs ≤ i → front_len n (drop i xs) ≡ 0
  unfolding front_len
  front_at_end le = at_drop_all (front_len n) xs i le

  -- b is the next byte
  module _ (b : ℕ) (lt : i < length xs) (is : get_or xs i 0 ≡ b) where
    front_step : front_len n (drop i xs)
        ≡ (if b == 10 || (is_char_start b && n == 0) then 0 else front_len (left_behind n b) (drop (i + 1) xs) + 1)
    unfolding front_len
    front_step =
        at_drop_more (front_len n) xs i 0 lt
        ∙ ap (λ x. if x == 10 || (is_char_start x && n == 0) then 0 else front_len (left_behind n x) (drop (i + 1) xs) + 1) is

    back_step : back_len n (drop i xs) ≡ (if b == 10 || n == 0 then 0 else back_len (left_behind n b) (drop (i + 1) xs) + 1)
    unfolding back_len
    back_step =
        at_drop_more (back_len n) xs i 0 lt
        ∙ ap (λ x. if x == 10 || n == 0 then 0 else back_len (left_behind n x) (drop (i + 1) xs) + 1) is

    pub front_at_feed : b ≡ 10 → front_len n (drop i xs) ≡ 0
    front_at_feed e = grind (arith, nat_tests, front_step)

    pub front_at_limit : is_char_start b ≡ true → n ≡ 0 → front_len n (drop i xs) ≡ 0
    front_at_limit s z = grind (arith, nat_tests, front_step)

    pub front_within : b ≢ 10 → is_char_start b ≡ false → front_len n (drop i xs) ≡ front_len n (drop (i + 1) xs) + 1
    front_within e s = grind (arith, nat_tests, front_step)

    pub front_begins : b ≢ 10 → is_char_start b ≡ true → 0 < n → front_len n (drop i xs) ≡ front_len (n - 1) (drop (i + 1) xs) + 1
    front_begins e s z = grind (arith, nat_tests, front_step)

    pub back_at_feed : b ≡ 10 → back_len n (drop i xs) ≡ 0
    back_at_feed e = grind (arith, nat_tests, back_step)

    pub back_at_limit : n ≡ 0 → back_len n (drop i xs) ≡ 0
    back_at_limit z = grind (arith, nat_tests, back_step)

    pub back_within : b ≢ 10 → is_char_start b ≡ false → 0 < n → back_len n (drop i xs) ≡ back_len n (drop (i + 1) xs) + 1
    back_within e s z = grind (arith, nat_tests, back_step)

    pub back_begins : b ≢ 10 → is_char_start b ≡ true → 0 < n → back_len n (drop i xs) ≡ back_len (n - 1) (drop (i + 1) xs) + 1
    back_begins e s z = grind (arith, nat_tests, back_step)

-- the bytes before an offset, backwards
module _ (bs : List ℕ) (o : ℕ) (le : o ≤ length bs) where
  pub length_back : length (reverse (take o bs)) ≡ o
  length_back = length-reverse (take o bs) ∙ length-take-le o bs le

  pub byte_back : (i : ℕ) → i < o → get_or (reverse (take o bs)) i 0 ≡ get_or bs (o - 1 - i) 0
  byte_back i lt =
      let size = length-take-le o bs le in
      get_or-reverse (take o bs) i 0 (omega (arith, size))
      ∙ ap (λ k. get_or (take o bs) (k - 1 - i) 0) size
      ∙ get_or-take o bs (o - 1 - i) 0 (omega arith)
