-- The locations of the members that are reported.
use Rattle.std.proofs.Common.{◌≡◌, List, [], ◌∷◌, map, refl, ap}
use Rattle.openapi_node.specs.Fault.{step_of}
use Rattle.openapi_tables.specs.Lists.{each}
use Rattle.openapi_faults.specs.Dropped.{dropped_of}
use Rattle.openapi_faults.specs.declared.dropped.Dropped.{Dropped}
use Rattle.openapi_removal.specs.Cleaned.{places_in}

pub places_reported : (ds : List Dropped) → places_in ds ≡ each (λ d. d.0) (map dropped_of ds)
places_reported [] = refl
places_reported (d ∷ ds) = ap (λ ps. map step_of d.place.items ∷ ps) (places_reported ds)
