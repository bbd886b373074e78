use Rattle.openapi_node.specs.View.{shown}
use Rattle.openapi_node.specs.declared.fault.Expected.TheVariants as words
use Rattle.openapi_tables.specs.Kind.{any_flag}
use Rattle.openapi_fields.proofs.Below.{wrong_view, not_flag}
use Rattle.openapi_fields.proofs.scalars.BoolFromNode.from_view.Goals as goal

pub returns-in_default : goal.returns-in_default
returns-in_default c =
    wrong_view c.new.result words.Flag any_flag (shown c.args.view.now) _ c.new.ensures.place
    c.new.ensures.cause (not_flag c.args.view.now c.in_default.not-Flag)
