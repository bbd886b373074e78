use Rattle.std.proofs.Common.{◌≡◌, map, take}
use Rattle.openapi_node.specs.Fault.{step_of}
use Rattle.openapi_json.proofs.copy.copied_place.Given as goal

abbrev pub invariant-loop-step : goal.invariant-loop-step
invariant-loop-step l = map step_of l.copy.items ≡ map step_of (take l.step-index l.place)
