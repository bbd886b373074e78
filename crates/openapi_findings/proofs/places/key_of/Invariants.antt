use Rattle.std.proofs.Common.{◌≡◌, ◌++◌, drop, map, string_bytes}
use Rattle.std.specs.List.{flat_map}
use Rattle.openapi_node.specs.Fault.{step_of}
use Rattle.openapi_findings.specs.Numbers.{step_key}
use Rattle.openapi_findings.proofs.places.key_of.Given as goal

-- the key so far, with the keys of the steps that are left, is that of all
abbrev pub invariant-loop-step : goal.invariant-loop-step
invariant-loop-step l =
    string_bytes l.key ++ flat_map step_key (map step_of (drop l.step-index l.place)) ≡ flat_map step_key (map step_of l.place)
