use Rattle.std.proofs.Common.{true}
use Rattle.openapi_node.specs.View.{shown}
use Rattle.openapi_node.specs.declared.fault.Expected.TheVariants as words
use Rattle.openapi_tables.specs.Kind.{format}
use Rattle.openapi_fields.proofs.Below.{wrong_view}
use Rattle.openapi_fields.proofs.Leaves.{not_format_or_null}
use Rattle.openapi_fields.proofs.formats.VariantOrUnknownOrEmptyFromNode.from_view.Goals as goal

pub returns-in_default : goal.returns-in_default
returns-in_default g c =
    wrong_view c.new.result words.TextOrNull (format g.T.Word.words true) (shown c.args.view.now) _ c.new.ensures.place
    c.new.ensures.cause (not_format_or_null g.T.Word.words c.args.view.now c.in_default.not-Null c.in_default.not-Text)
