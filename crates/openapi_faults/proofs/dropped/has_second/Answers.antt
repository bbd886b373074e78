use Rattle.std.proofs.Common.{sym, ◌∙◌}
use Rattle.openapi_node.specs.Tree.{members_of}
use Rattle.openapi_tables.specs.Tree.{members_list}
use Rattle.openapi_faults.specs.Dropped.{takes_second}
use Rattle.openapi_faults.proofs.Dropping.{any_found, any_next}
use Rattle.openapi_faults.proofs.dropped.has_second.Goals as goal

pub returns-then-takes_second : goal.returns-then-takes_second
returns-then-takes_second c =
    any_found (takes_second (members_list (members_of c.args.members.now)) c.args.name.now) c.args.rows.now
    c.loop-row.row-index _ c.loop-row-test.true (sym c.takes_second.ensures ∙ c.if-takes_second.true)

pub loop-row-preserved : goal.loop-row-preserved
loop-row-preserved c =
    any_next (takes_second (members_list (members_of c.args.members.now)) c.args.name.now) c.args.rows.now
    c.loop-row.row-index _ c.loop-row-test.true c.loop-row.invariant
    (sym c.takes_second.ensures ∙ c.if-takes_second.false)
