-- Laws of masks.
use Rattle.std.proofs.Common.{◌≡◌, ℕ, zero, suc, ◌+◌, ◌*◌, ◌^◌, ◌%◌, ◌<◌, Bool, true, false, not, cond, ◌&&◌, ◌||◌}
use Rattle.std.proofs.Common.{codes, List, [], ◌∷◌, length, take, get_or, refl, ap, ◌∙◌, arith, add-one, eqb, eqb-true}
use Rattle.std.proofs.Common.{eq-eqb}
use mir.Val.{bool_byte}
use Rattle.std.specs.Int.Bits.{bit_and, bit_or}
use Rattle.std.specs.Cmp.{both_ways}
use Rattle.std.proofs.Math.Nat.{pow-suc}
use Rattle.std.proofs.lemmas.Nat.{and_block, or_shifted, or_comm, shl_whole}
use Rattle.openapi_tables.specs.Prelude.{each, every, has, Entry, Sort, allowed, any_sort, held, is_null, is_present}
use Rattle.openapi_tables.specs.Prelude.{kind_names, possible_sort}
use Rattle.openapi_node.specs.Tree.{Tree}
use Rattle.openapi_schema_types.specs.Masks.{mask_of, presence, allowance, sort_by_names}

bit-lt : (b : Bool) → cond b 1 0 < 2 ^ 1
bit-lt true = let p : 1 < 2 ^ 1 = omega arith in p
bit-lt false = let p : 0 < 2 ^ 1 = omega arith in p

and_bit : (b c : Bool) → bit_and (cond b 1 0) (cond c 1 0) ≡ cond (b && c) 1 0
and_bit true true = refl
and_bit true false = refl
and_bit false true = refl
and_bit false false = refl

-- what two masks have in common is the mask of the flags that are set in both
mask_of-and : {A : Type 0} → (p q : A → Bool) (ns : List A)
    → bit_and (mask_of (each p ns)) (mask_of (each q ns)) ≡ mask_of (each (λ n. p n && q n) ns)
mask_of-and p q [] = refl
mask_of-and p q (n ∷ ns) =
    and_block 1 (mask_of (each p ns)) (mask_of (each q ns)) (cond (p n) 1 0) (cond (q n) 1 0) (bit-lt (p n)) (bit-lt
    (q n))
    ∙ ap (λ m. m * 2 + bit_and (cond (p n) 1 0) (cond (q n) 1 0)) (mask_of-and p q ns)
    ∙ ap (λ b. mask_of (each (λ m. p m && q m) ns) * 2 + b) (and_bit (p n) (q n))

-- the lowest bits and the others are compared apart
lowest_bits : (b c : Bool) (x y : ℕ) → eqb (x * 2 + cond (b && c) 1 0) (y * 2 + cond b 1 0) ≡ ((not b || c) && eqb x y)
lowest_bits true true x y =
    both_ways (eqb (x * 2 + 1) (y * 2 + 1)) (eqb x y)
    (λ h. eq-eqb x y (omega (arith, eqb-true (x * 2 + 1) (y * 2 + 1) h)))
    (λ h. eq-eqb (x * 2 + 1) (y * 2 + 1) (omega (arith, eqb-true x y h)))
lowest_bits true false x y =
    both_ways (eqb (x * 2 + 0) (y * 2 + 1)) false
    (λ h. absurd (omega (arith, eqb-true (x * 2 + 0) (y * 2 + 1) h)))
    (λ h. absurd cc)
lowest_bits false c x y =
    both_ways (eqb (x * 2 + 0) (y * 2 + 0)) (eqb x y)
    (λ h. eq-eqb x y (omega (arith, eqb-true (x * 2 + 0) (y * 2 + 0) h)))
    (λ h. eq-eqb (x * 2 + 0) (y * 2 + 0) (omega (arith, eqb-true x y h)))

same_mask : {A : Type 0} → (p q : A → Bool) (ns : List A)
    → eqb (mask_of (each (λ n. p n && q n) ns)) (mask_of (each p ns)) ≡ every (λ n. not (p n) || q n) ns
same_mask p q [] = refl
same_mask p q (n ∷ ns) =
    lowest_bits (p n) (q n) (mask_of (each (λ m. p m && q m) ns)) (mask_of (each p ns))
    ∙ ap (λ b. (not (p n) || q n) && b) (same_mask p q ns)

-- a mask is within another one if and only if each flag of it is set in the other one too
pub within : {A : Type 0} → (p q : A → Bool) (ns : List A)
    → eqb (bit_and (mask_of (each p ns)) (mask_of (each q ns))) (mask_of (each p ns)) ≡ every (λ n. not (p n) || q n) ns
within p q ns = ap (λ m. eqb m (mask_of (each p ns))) (mask_of-and p q ns) ∙ same_mask p q ns

-- the mask of some flags, and of one more
taken-lt : (bs : List Bool) (i : ℕ) → mask_of (take i bs) < 2 ^ i
taken-lt [] zero = let p : 0 < 2 ^ 0 = omega arith in p
taken-lt [] (suc i) = rw pow-suc (omega (arith, taken-lt [] i))
taken-lt (b ∷ bs) zero = let p : 0 < 2 ^ 0 = omega arith in p
taken-lt (b ∷ bs) (suc i) = rw pow-suc (omega (arith, taken-lt bs i, bit-lt b))

taken-suc : (bs : List Bool) (i : ℕ) → i < length bs
    → mask_of (take (suc i) bs) ≡ mask_of (take i bs) + cond (get_or bs i false) 1 0 * 2 ^ i
taken-suc [] i low = absurd (omega arith)
taken-suc (b ∷ bs) zero low = let p : 0 * 2 + cond b 1 0 ≡ 0 + cond b 1 0 * 2 ^ 0 = omega arith in p
taken-suc (b ∷ bs) (suc i) low =
    rw pow-suc (omega (arith, taken-suc bs i (omega arith), ap (λ x. x * 2) (taken-suc bs i (omega arith))))

shifted : (b : Bool) (i : ℕ) → i < 24 → (cond b 1 0 * 2 ^ i) % 4294967296 ≡ cond b 1 0 * 2 ^ i
shifted b i low = shl_whole (cond b 1 0) 1 i 32 (bit-lt b) (omega arith)

byte_bit : (b : Bool) → bool_byte b ≡ cond b 1 0
byte_bit true = refl
byte_bit false = refl

-- one more flag is set by its bit
pub mask_of-more : (bs : List Bool) (i m x : ℕ) → i < length bs → i < 24 → m ≡ mask_of (take i bs)
    → x ≡ bool_byte (get_or bs i false) → bit_or m ((x * 2 ^ i) % 4294967296) ≡ mask_of (take (i + 1) bs)
mask_of-more bs i m x low few is flag =
    let b = get_or bs i false in
    ap (λ y. bit_or m ((y * 2 ^ i) % 4294967296)) (flag ∙ byte_bit b)
    ∙ ap (λ y. bit_or m y) (shifted b i few)
    ∙ or_comm m (cond b 1 0 * 2 ^ i)
    ∙ ap (λ y. bit_or (cond b 1 0 * 2 ^ i) y) is
    ∙ or_shifted (cond b 1 0) i (mask_of (take i bs)) (taken-lt bs i)
    ∙ rw add-one (omega (arith, taken-suc bs i low))

-- the names that are present are all allowed if and only if each name is allowed or absent
allowed_or_null : (a n : Bool) → (not (not n) || a) ≡ (a || n)
allowed_or_null true true = refl
allowed_or_null true false = refl
allowed_or_null false true = refl
allowed_or_null false false = refl

every_same : {A : Type 0} → (p q : A → Bool) → ((x : A) → p x ≡ q x) → (xs : List A) → every p xs ≡ every q xs
every_same p q h [] = refl
every_same p q h (x ∷ xs) = ap (λ b. b && every p xs) (h x) ∙ ap (λ b. q x && b) (every_same p q h xs)

pub names_within : (es : List (Entry Tree)) (s : Sort)
    → eqb (bit_and (mask_of (presence es)) (mask_of (allowance s))) (mask_of (presence es))
    ≡ every (λ n. has (allowed s) n || is_null (held n es)) kind_names
unfolding presence allowance
names_within es s =
    within (is_present es) (has (allowed s)) kind_names
    ∙ every_same (λ n. not (is_present es n) || has (allowed s) n) (λ n. has (allowed s) n || is_null (held n es))
    (λ n. allowed_or_null (has (allowed s) n) (is_null (held n es))) kind_names

-- the other way round: all names of a mask are present
pub names_present : (es : List (Entry Tree)) (s : Sort)
    → eqb (bit_and (mask_of (allowance s)) (mask_of (presence es))) (mask_of (allowance s))
    ≡ every (λ n. not (has (allowed s) n) || is_present es n) kind_names
unfolding presence allowance
names_present es s = within (has (allowed s)) (is_present es) kind_names

-- the sort by the names, from the possible one and from the test of the masks
pub sort_by_masks : (es : List (Entry Tree)) (s : Sort) (b : Bool) → s ≡ possible_sort (held (codes "type") es) es
    → b ≡ eqb (bit_and (mask_of (presence es)) (mask_of (allowance s))) (mask_of (presence es))
    → cond b s any_sort ≡ sort_by_names es
unfolding sort_by_names
sort_by_masks es s b is test =
    ap (λ c. cond c s any_sort) (test ∙ names_within es s)
    ∙ ap (λ r. cond (every (λ n. has (allowed r) n || is_null (held n es)) kind_names) r any_sort) is
