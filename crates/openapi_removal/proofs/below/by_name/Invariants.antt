use Rattle.std.proofs.Common.{◌≡◌, ◌++◌, ℕ, List, drop}
use Rattle.openapi_node.specs.Place.{named}
use Rattle.openapi_faults.specs.Without.{inside}
use Rattle.openapi_removal.specs.Below.{at_name, places_of}
use Rattle.openapi_removal.proofs.below.by_name.Given as goal

-- the locations so far, with those of the rest, are all of a name
abbrev pub invariant-loop-place : goal.invariant-loop-place
invariant-loop-place l =
    (n : List ℕ) → at_name l.groups n ++ inside (named n) (places_of (drop l.place-index l.places)) ≡ inside (named n) (places_of l.places)
