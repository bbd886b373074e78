-- The whole numbers that fit an `i64` or a `u64`, and how one of them is stored in 64 bits.
use Rattle.std.specs.Prelude.{◌≡◌, ℤ, pos, negsuc, ◌≤ℤ◌}
use Rattle.std.proofs.Common.{refl}
use Rattle.openapi_node.specs.declared.whole.Kept.{Kept}
use Rattle.openapi_node.specs.declared.whole.Kept.TheVariants as v

-- the number is in the range of `i64` or in that of `u64`
abbrev pub IsWhole : ℤ → Type 0
IsWhole z = (negsuc 9223372036854775807 ≤ℤ z) × (z ≤ℤ pos 18446744073709551615)

-- the number that is stored
abbrev pub kept_number : Kept → ℤ
kept_number (v.Negative z) = z
kept_number (v.Natural n) = pos n

-- the value of `Negative` is below zero, so that each number is stored in only one way
abbrev pub IsKept : Kept → Type 0
IsKept (v.Negative z) = z ≤ℤ negsuc 0
IsKept (v.Natural n) = Unit {0}

-- the way in which a number is stored
abbrev pub kept_of : ℤ → Kept
kept_of (pos n) = v.Natural n
kept_of (negsuc n) = v.Negative (negsuc n)

-- a stored number is stored in the way that `kept_of` gives
pub kept_of-kept_number : (k : Kept) → IsKept k → kept_of (kept_number k) ≡ k
kept_of-kept_number (v.Negative (pos n)) h = absurd h.le
kept_of-kept_number (v.Negative (negsuc n)) h = refl
kept_of-kept_number (v.Natural n) h = refl
