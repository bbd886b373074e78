use Rattle.std.proofs.Common.{◌≡◌, ◌++◌, ℕ, drop}
use Rattle.openapi_node.specs.Place.{indexed}
use Rattle.openapi_faults.specs.Without.{inside}
use Rattle.openapi_removal.specs.Below.{at_index, places_of}
use Rattle.openapi_removal.proofs.below.by_index.Given as goal

-- the locations so far, with those of the rest, are all of an index
abbrev pub invariant-loop-place : goal.invariant-loop-place
invariant-loop-place l =
    (i : ℕ) → at_index l.groups i ++ inside (indexed i) (places_of (drop l.place-index l.places)) ≡ inside (indexed i) (places_of l.places)
