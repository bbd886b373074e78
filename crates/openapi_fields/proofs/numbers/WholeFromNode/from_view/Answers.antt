use Rattle.openapi_node.specs.View.{shown}
use Rattle.openapi_node.specs.declared.fault.Expected.TheVariants as words
use Rattle.openapi_tables.specs.Kind.{number, unlimited}
use Rattle.openapi_fields.proofs.Below.{wrong_view}
use Rattle.openapi_fields.proofs.Leaves.{not_whole}
use Rattle.openapi_fields.proofs.numbers.WholeFromNode.from_view.Goals as goal

pub returns-in_default : goal.returns-in_default
returns-in_default c =
    wrong_view c.new.result words.Whole (number unlimited) (shown c.args.view.now) _ c.new.ensures.place
    c.new.ensures.cause (not_whole unlimited c.args.view.now c.in_default.not-Whole)
