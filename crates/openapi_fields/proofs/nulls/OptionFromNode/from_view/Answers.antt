use Rattle.std.proofs.Common.{◌∙◌, ap}
use Rattle.openapi_node.specs.View.{shown}
use Rattle.openapi_node.specs.declared.fault.Cause.TheVariants.{WrongKind}
use Rattle.openapi_fields.proofs.OrNull.{fails_or_null, wrong_or_null}
use Rattle.openapi_fields.proofs.nulls.OptionFromNode.from_view.Goals as goal

pub returns-in-WrongKind-clause-reads : goal.returns-in-WrongKind-clause-reads
returns-in-WrongKind-clause-reads g c =
    wrong_or_null c.in-Err.fault c.new.result c.in-WrongKind.field-0 g.T.FromNode.kind c.args.view.now
    g.met.T.Nullable.may_be_null c.in_default.not-Null c.in-WrongKind.is c.in-Err.ensures.reads c.new.ensures.place
    (c.new.ensures.cause ∙ ap WrongKind c.expected.ensures)

pub returns-in_default-cause-clause-reads : goal.returns-in_default-cause-clause-reads
returns-in_default-cause-clause-reads g c =
    fails_or_null g.T.FromNode.kind (shown c.args.view.now) g.met.T.Nullable.may_be_null c.in-Err.fault
    c.in_default-cause.not-WrongKind c.in-Err.ensures.reads
