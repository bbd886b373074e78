-- Locations, and groups of them by the step with which they begin.
use Rattle.std.specs.Prelude.{ℕ, List, [], map}
use Rattle.std.specs.BTreeMap.{BTreeMap, get, get_by}
use Rattle.std.specs.Borrow.{Bor}
use Rattle.std.specs.Cmp.Lexicographic.{slice_cmp}
use Rattle.std.specs.Global.{Vec}
use Rattle.std.specs.Option.{option_map_or}
use Rattle.std.specs.Ordering.{nat_cmp}
use Rattle.openapi_node.specs.Fault.{step_of}
use Rattle.openapi_node.specs.Place.{Place}
use Rattle.openapi_node.specs.declared.fault.PlaceStep.{PlaceStep}

-- the location that steps lead to
abbrev pub place_of : Bor (List PlaceStep) → Place
place_of p = map step_of p.now

abbrev pub places_of : List (Bor (List PlaceStep)) → List Place
places_of ps = map place_of ps

-- the locations of a group
abbrev pub grouped : Vec (Bor (List PlaceStep)) → List Place
grouped v = places_of v.items

-- the locations in the group of a name; none if there is no group
abbrev pub at_name : BTreeMap (Bor (List ℕ)) (Vec (Bor (List PlaceStep))) → List ℕ → List Place
at_name m n = option_map_or grouped (get_by (λ k. slice_cmp nat_cmp n k.now) m) []

-- the locations in the group of an index; none if there is no group
abbrev pub at_index : BTreeMap ℕ (Vec (Bor (List PlaceStep))) → ℕ → List Place
at_index m i = option_map_or grouped (get nat_cmp m i) []
