use Rattle.openapi_node.specs.View.{shown}
use Rattle.openapi_node.specs.declared.fault.Expected.TheVariants as words
use Rattle.openapi_tables.specs.Kind.{list_of}
use Rattle.openapi_fields.proofs.Below.{wrong_view, not_list}
use Rattle.openapi_fields.proofs.lists.VecFromNode.from_view.Goals as goal

pub returns-in_default : goal.returns-in_default
returns-in_default g c =
    wrong_view c.new.result words.List (list_of g.T.FromNode.kind) (shown c.args.view.now) _ c.new.ensures.place
    c.new.ensures.cause (not_list g.T.FromNode.kind c.args.view.now c.in_default.not-List)
