use Rattle.std.proofs.Common.{map}
use Rattle.openapi_node.specs.Tree.{members_of}
use Rattle.openapi_tables.specs.Tree.{members_list}
use Rattle.openapi_faults.specs.Walk.{step_of}
use Rattle.openapi_faults.proofs.Telling.{found_next}
use Rattle.openapi_faults.proofs.fault.Finder.report_rows.Goals as goal

pub loop-row-preserved : goal.loop-row-preserved
loop-row-preserved c =
    found_next (members_list (members_of c.args.members.now)) (map step_of c.args.place.now) c.args.rows.now
    c.loop-row.row-index _ c.loop-row-test.true
    c.args.self.now.found.items c.loop-row.self.found.items c.report.new.self.found.items c.row_cause.result
    c.loop-row.invariant c.row_cause.ensures c.in_ok-report.ensures
