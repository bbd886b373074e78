use Rattle.std.proofs.Common.{map}
use Rattle.openapi_node.specs.Tree.{members_of}
use Rattle.openapi_faults.specs.Meaning.{kind_of}
use Rattle.openapi_faults.specs.Walk.{step_of}
use Rattle.openapi_faults.proofs.Dropping.{dropped_next}
use Rattle.openapi_faults.proofs.dropped.DroppedFinder.report_all.Goals as goal

pub loop-i-preserved : goal.loop-i-preserved
loop-i-preserved c =
    dropped_next (map step_of c.args.place.now) (kind_of c.args.kind) (members_of c.args.members.now) c.args.members.now
    c.loop-i.i c.entry_at.result.0.now c.entry_at.result.1.now c.entry_at.ensures c.args.self.now.found.items
    c.loop-i.self.found.items c.report.new.self.found.items c.why_dropped.result c.why_dropped.ensures c.loop-i.invariant
    c.in_ok-report.ensures
