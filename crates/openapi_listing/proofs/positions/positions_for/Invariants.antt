use Rattle.std.proofs.Common.{◌≡◌, map, take}
use Rattle.openapi_node.specs.Fault.{step_of}
use Rattle.openapi_listing.proofs.positions.positions_for.Given as goal

-- the locations so far
abbrev pub invariant-loop-it : goal.invariant-loop-it
invariant-loop-it g l = map (λ p. map step_of p.now) l.places.items ≡ map g.T.Located.place_in (take l.it-index l.located)
