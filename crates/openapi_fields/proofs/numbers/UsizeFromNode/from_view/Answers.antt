use Rattle.std.proofs.Common.{sym, true≢false}
use Rattle.openapi_node.specs.View.{shown}
use Rattle.openapi_node.specs.declared.fault.Expected.TheVariants as words
use Rattle.openapi_tables.specs.Kind.{number, sizes}
use Rattle.openapi_fields.proofs.Below.{wrong_view}
use Rattle.openapi_fields.proofs.Leaves.{not_whole, outside, below_sizes}
use Rattle.openapi_fields.proofs.numbers.UsizeFromNode.from_view.Goals as goal

pub returns-in_default : goal.returns-in_default
returns-in_default c =
    wrong_view c.new-in_default.result words.Whole (number sizes) (shown c.args.view.now) _ c.new-in_default.ensures.place
    c.new-in_default.ensures.cause (not_whole sizes c.args.view.now c.in_default.not-Whole)

pub returns-in-None-clause-reads : goal.returns-in-None-clause-reads
returns-in-None-clause-reads c =
    rw c.in-Whole.is (outside c.new.result sizes c.in-Whole.number c.new.ensures.place c.new.ensures.cause
    (below_sizes c.in-Whole.number (λ h. true≢false (sym (c.in-None.ensures.valid.1 h)))))
