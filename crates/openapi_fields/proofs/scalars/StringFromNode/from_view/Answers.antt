use Rattle.openapi_node.specs.View.{shown}
use Rattle.openapi_node.specs.declared.fault.Expected.TheVariants as words
use Rattle.openapi_tables.specs.Kind.{any_text}
use Rattle.openapi_fields.proofs.Below.{wrong_view, not_text}
use Rattle.openapi_fields.proofs.scalars.StringFromNode.from_view.Goals as goal

pub returns-in_default : goal.returns-in_default
returns-in_default c =
    wrong_view c.new.result words.Text any_text (shown c.args.view.now) _ c.new.ensures.place
    c.new.ensures.cause (not_text c.args.view.now c.in_default.not-Text)
