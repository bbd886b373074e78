use Rattle.std.proofs.Common.{◌≡◌, take}
use Rattle.openapi_json.specs.Writing.{lent}
use Rattle.openapi_json.proofs.write.by_name.Given as goal

abbrev pub invariant-loop-i : goal.invariant-loop-i
invariant-loop-i l = lent l.sorted.items ≡ take l.i l.members
