use Rattle.std.proofs.Common.{◌≡◌, drop, map}
use Rattle.openapi_node.specs.Fault.{step_of}
use Rattle.openapi_findings.specs.Numbers.{is_among}
use Rattle.openapi_findings.proofs.places.find_among.Given as goal

-- the location is among those that are left if and only if it is among all
abbrev pub invariant-loop-index : goal.invariant-loop-index
invariant-loop-index l =
    is_among (map step_of l.place) (map (λ p. map step_of p.now) (drop l.index l.places))
    ≡ is_among (map step_of l.place) (map (λ p. map step_of p.now) l.places)
