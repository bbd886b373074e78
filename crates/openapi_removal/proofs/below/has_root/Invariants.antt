use Rattle.std.proofs.Common.{◌≡◌, drop}
use Rattle.openapi_faults.specs.Without.{has_root}
use Rattle.openapi_removal.specs.Below.{places_of}
use Rattle.openapi_removal.proofs.below.has_root.Given as goal

abbrev pub invariant-loop-place : goal.invariant-loop-place
invariant-loop-place l = has_root (places_of (drop l.place-index l.places)) ≡ has_root (places_of l.places)
