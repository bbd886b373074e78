use Rattle.std.proofs.Common.{◌≡◌, map, take}
use Rattle.openapi_node.specs.Fault.{step_of}
use Rattle.openapi_faults.specs.Limited.{limited_place}
use Rattle.openapi_findings.proofs.number_reports.limited_places.Given as goal

-- the locations so far
abbrev pub invariant-loop-number : goal.invariant-loop-number
invariant-loop-number l = map (λ p. map step_of p.now) l.places.items ≡ map limited_place (take l.number-index l.limited)
