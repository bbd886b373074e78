use Rattle.std.proofs.Common.{Some, ap, ◌∙◌}
use Rattle.openapi_node.specs.Tree.{object, members_of}
use Rattle.openapi_schema.proofs.TypeLaws.{type_rows_new, type_tag_new, type_written}
use Rattle.openapi_schema.proofs.members.whole_type.Goals as goal

pub put_tagged-requires-clause-tag : goal.put_tagged-requires-clause-tag
put_tagged-requires-clause-tag c =
    type_tag_new c.args.typ.now (Some c.type_word.result.now) c.type_word.ensures c.new-out.result c.args.rows
    c.new-out.ensures c.requires

pub put_tagged-requires-clause-rows : goal.put_tagged-requires-clause-rows
put_tagged-requires-clause-rows c =
    type_rows_new c.args.typ.now (Some c.type_word.result.now) c.type_word.ensures c.new-out.result c.args.rows
    c.new-out.ensures c.requires

pub returns : goal.returns
returns c =
    type_written c.args.typ.now (Some c.type_word.result.now) c.type_word.ensures c.new-out.result c.args.rows
    c.new-out.ensures c.requires c.object.result
    (c.object.ensures ∙ ap (λ es. object (members_of es)) c.in_ok-put_tagged.ensures.ok)
