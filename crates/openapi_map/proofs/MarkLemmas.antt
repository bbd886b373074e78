-- The marks of names: what they become as a name is appended or removed, and what they show of a name.
use Rattle.std.proofs.Common.{◌≡◌, ℕ, zero, suc, ◌^◌, ◌<◌, ◌==◌, Bool, true, false, List, [], ◌∷◌, ◌++◌, length, get_or}
use Rattle.std.proofs.Common.{bit_or, remove, refl, sym, ap, ◌∙◌, arith, true≢false}
use Rattle.std.proofs.lemmas.Nat.Bits.{bit_at_or, bit_at-pow_same}
use Rattle.std.proofs.lemmas.Slice.Eq.{bytes_eq-Decides}
use Rattle.std.specs.Int.{bit_at}
use Rattle.std.specs.Str.{bytes_eq}
use Rattle.openapi_map.specs.Index.{AreMarked, mark}

-- a bit that is set stays set
bit-stays : (m k i : ℕ) → bit_at m i ≡ 1 → bit_at (bit_or m (2 ^ k)) i ≡ 1
bit-stays m k i is = omega (arith, bit_at_or m (2 ^ k) i, is)

-- the bit that is added is set
bit-put : (m k : ℕ) → bit_at (bit_or m (2 ^ k)) k ≡ 1
bit-put m k = omega (arith, bit_at_or m (2 ^ k) k, bit_at-pow_same k)

-- marks of one more name, with its mark added
pub marked-push : (names : List (List ℕ)) (n : List ℕ) (m : ℕ) → AreMarked names m
    → AreMarked (names ++ n ∷ []) (bit_or m (2 ^ mark n))
marked-push [] n m is = (bit-put m (mark n), tt)
marked-push (x ∷ names) n m is = (bit-stays m (mark n) (mark x) is.0, marked-push names n m is.1)

-- if a name is removed, its mark may stay
pub marked-remove : (names : List (List ℕ)) (i m : ℕ) → AreMarked names m → AreMarked (remove names i) m
marked-remove [] zero m is = tt
marked-remove [] (suc i) m is = tt
marked-remove (x ∷ names) zero m is = is.1
marked-remove (x ∷ names) (suc i) m is = (is.0, marked-remove names i m is.1)

marked-at : (names : List (List ℕ)) (m k : ℕ) → AreMarked names m → k < length names → bit_at m (mark (get_or names k [])) ≡ 1
marked-at [] m k is h = absurd (omega (arith, h))
marked-at (x ∷ names) m zero is h = is.0
marked-at (x ∷ names) m (suc k) is h = marked-at names m k is.1 (omega (arith, h))

-- a name whose mark is not set is none of the names
pub unmarked : (name : List ℕ) (names : List (List ℕ)) (m : ℕ) → AreMarked names m → (bit_at m (mark name) == 1) ≡ false
    → (k : ℕ) → k < length names → bytes_eq name (get_or names k []) ≡ false
unmarked name names m is none k h = by (bytes_eq name (get_or names k [])) refl
  where
    by : (t : Bool) → bytes_eq name (get_or names k []) ≡ t → t ≡ false
    by true e =
        let same = (bytes_eq-Decides name (get_or names k [])).0 e in
        let set : bit_at m (mark name) ≡ 1 = ap (λ n. bit_at m (mark n)) same ∙ marked-at names m k is h in
        absurd (true≢false (sym (ap (λ b. b == 1) set) ∙ none))
    by false e = refl
