use Rattle.openapi_json.proofs.Sorted.{AscendsTo}
use Rattle.openapi_json.proofs.write.are_in_order.Given as goal

abbrev pub invariant-loop-i : goal.invariant-loop-i
invariant-loop-i l = AscendsTo l.i l.members
