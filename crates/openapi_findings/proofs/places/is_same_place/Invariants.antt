use Rattle.std.proofs.Common.{◌≡◌, drop, map}
use Rattle.openapi_node.specs.Fault.{step_of}
use Rattle.openapi_findings.specs.Numbers.{same_place}
use Rattle.openapi_findings.proofs.places.is_same_place.Given as goal

-- the steps that are left are the same if and only if the locations are
abbrev pub invariant-loop-index : goal.invariant-loop-index
invariant-loop-index l =
    same_place (map step_of (drop l.index l.one)) (map step_of (drop l.index l.other))
    ≡ same_place (map step_of l.one) (map step_of l.other)
