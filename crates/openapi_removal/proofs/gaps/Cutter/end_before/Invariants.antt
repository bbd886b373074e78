use Rattle.std.proofs.Common.{◌≤◌, length}
use Rattle.openapi_removal.proofs.gaps.Cutter.end_before.Given as goal

abbrev pub invariant-loop-end : goal.invariant-loop-end
invariant-loop-end l = l.end ≤ length l.self.text.now

abbrev pub decreases-loop-end : goal.decreases-loop-end
decreases-loop-end l = l.end
