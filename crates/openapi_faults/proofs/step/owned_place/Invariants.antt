use Rattle.std.proofs.Common.{◌≡◌, map, take}
use Rattle.openapi_node.specs.Fault as fault
use Rattle.openapi_faults.specs.Walk.{step_of}
use Rattle.openapi_faults.proofs.step.owned_place.Given as goal

abbrev pub invariant-loop-step : goal.invariant-loop-step
invariant-loop-step l = map fault.step_of l.steps.items ≡ map step_of (take l.step-index l.place)
