use Rattle.std.proofs.Common.{sym, ◌∙◌}
use Rattle.openapi_tables.specs.Kind.{takes}
use Rattle.openapi_faults.proofs.Dropping.{any_found, any_next}
use Rattle.openapi_faults.proofs.dropped.is_taken.Goals as goal

pub returns-then-takes : goal.returns-then-takes
returns-then-takes c =
    any_found (λ w. takes w c.args.name.now) c.args.rows.now c.loop-row.row-index _ c.loop-row-test.true
    (sym c.takes.ensures ∙ c.if-takes.true)

pub loop-row-preserved : goal.loop-row-preserved
loop-row-preserved c =
    any_next (λ w. takes w c.args.name.now) c.args.rows.now c.loop-row.row-index _ c.loop-row-test.true c.loop-row.invariant
    (sym c.takes.ensures ∙ c.if-takes.false)
