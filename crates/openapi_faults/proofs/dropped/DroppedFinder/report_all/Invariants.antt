use Rattle.std.proofs.Common.{map}
use Rattle.openapi_node.specs.Tree.{members_of}
use Rattle.openapi_faults.specs.Adds.{Adds}
use Rattle.openapi_faults.specs.Dropped.{dropped_of}
use Rattle.openapi_faults.specs.Meaning.{kind_of}
use Rattle.openapi_faults.specs.Walk.{step_of}
use Rattle.openapi_faults.proofs.Dropping.{dropped_before}
use Rattle.openapi_faults.proofs.dropped.DroppedFinder.report_all.Given as goal

-- the members so far that are dropped were appended
abbrev pub invariant-loop-i : goal.invariant-loop-i
invariant-loop-i l =
    Adds dropped_of l.initial.self.found.items l.self.found.items
    (dropped_before (map step_of l.place) (kind_of l.kind) (members_of l.members) l.members l.i)
