-- Laws of booleans.
use Rattle.std.proofs.Common.{Bool, true, false, ◌&&◌, ◌≡◌, refl}

-- `&&` is associative
pub assoc : (a b c : Bool) → (a && (b && c)) ≡ ((a && b) && c)
assoc true b c = refl
assoc false b c = refl

-- of two pairs of booleans, all joined by `&&`, the two in the middle may be swapped
pub shuffle : (a b c d : Bool) → ((a && b) && (c && d)) ≡ ((a && c) && (b && d))
shuffle true true c d = refl
shuffle true false true d = refl
shuffle true false false d = refl
shuffle false b c d = refl

-- `b` is `b && true`
pub and_true : (b : Bool) → b ≡ (b && true)
and_true true = refl
and_true false = refl

-- `b && false` is false
pub and_false : (b : Bool) → (b && false) ≡ false
and_false true = refl
and_false false = refl
