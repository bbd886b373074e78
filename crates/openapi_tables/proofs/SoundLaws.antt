-- Parts of kinds that are well made are well made.
use Rattle.std.proofs.Common.{Bool, true, false, cond, ◌≡◌}
use Rattle.openapi_tables.specs.Prelude.{Kind, Tables, sound}

-- the one of two sound kinds that a boolean selects is sound
pub sound_pick : (T : Tables) (b : Bool) (j k : Kind) → sound T j ≡ true → sound T k ≡ true
    → sound T (cond b j k) ≡ true
sound_pick T true j k h g = h
sound_pick T false j k h g = g
