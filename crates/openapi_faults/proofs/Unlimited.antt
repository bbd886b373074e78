-- The kinds that do not require a whole number within limits.
use Rattle.std.proofs.Common.{◌≡◌, false, refl}
use Rattle.openapi_faults.specs.Limited.{is_limited}
use Rattle.openapi_faults.specs.Meaning.{kind_of}
use Rattle.openapi_faults.specs.declared.kind.Kind.{Kind}
use Rattle.openapi_faults.specs.declared.kind.Kind.TheVariants as v
use Rattle.openapi_faults.specs.declared.kind.Limits.{Limits}

-- all but those of numbers
pub not_limited : (k : Kind) → ((w : Limits) → k ≡ v.Number w → ⊥) → ((w : Limits) → k ≡ v.NumberOrNull w → ⊥)
    → is_limited (kind_of k) ≡ false
not_limited (v.Number w) n m = absurd (n w refl)
not_limited (v.NumberOrNull w) n m = absurd (m w refl)
not_limited k n m = refl
