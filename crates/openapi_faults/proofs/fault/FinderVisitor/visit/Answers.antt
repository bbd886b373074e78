use Rattle.std.proofs.Common.{map}
use Rattle.openapi_node.specs.View.{shown}
use Rattle.openapi_faults.specs.Meaning.{kind_of}
use Rattle.openapi_faults.specs.Walk.{step_of}
use Rattle.openapi_faults.proofs.Telling.{found_both}
use Rattle.openapi_faults.proofs.fault.FinderVisitor.visit.Goals as goal

pub returns : goal.returns
returns c =
    found_both (map step_of c.args.place.now) (kind_of c.args.kind) (shown c.args.view.now) c.args.self.now.found.items
    c.report.new.self.found.items c.report_missing.new.self.found.items c.cause_of.result c.cause_of.ensures
    c.in_ok-report.ensures c.report_missing.result c.report_missing.ensures
