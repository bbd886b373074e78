use Rattle.std.proofs.Common.{◌≡◌, take}
use Rattle.openapi_removal.specs.Below.{places_of}
use Rattle.openapi_removal.specs.Cleaned.{places_in}
use Rattle.openapi_removal.proofs.removal.places_of.Given as goal

abbrev pub invariant-loop-member : goal.invariant-loop-member
invariant-loop-member l = places_of l.places.items ≡ places_in (take l.member-index l.dropped)
