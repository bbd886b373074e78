use Rattle.std.proofs.Common.{◌≡◌}
use Rattle.openapi_visit_mut.proofs.parts_mut.PartsMut.list.Given as goal

abbrev pub invariant-loop-value : goal.invariant-loop-value
invariant-loop-value g l = l.index ≡ l.value-index
