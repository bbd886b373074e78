use Rattle.openapi_tables.specs.Faults.{asked}
use Rattle.openapi_tables.specs.Tables.{final_tables}
use Rattle.openapi_faults.specs.Meaning.{kind_of}
use Rattle.openapi_faults.proofs.Adding.{at_ok, walked}
use Rattle.openapi_faults.proofs.visit.visited.Goals as goal

pub returns-clause-visits : goal.returns-clause-visits
returns-clause-visits g c =
    walked g.V.Visitor.Takes (asked final_tables (kind_of c.args.kind) c.args.node.now)
    (record { visitor = c.args.visitor; place = c.new.result }) c.value-outcome.new.self c.new.ensures.items
    (at_ok _ c.value-outcome.result c.in_ok-outcome.field-0 c.in_ok-outcome.was c.value-outcome.ensures.visits)
