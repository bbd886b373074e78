use Rattle.std.proofs.Common.{option_map, ap, ◌∙◌}
use Rattle.openapi_node.specs.Tree.{object, members_of}
use Rattle.openapi_schema.proofs.WrittenForms.{alone_rows_new, alone_tag_new, alone_written}
use Rattle.openapi_schema.proofs.members.whole_kind.Goals as goal

pub put_tagged-requires-clause-tag : goal.put_tagged-requires-clause-tag
put_tagged-requires-clause-tag c =
    alone_tag_new c.args.kind.now (option_map (λ w. w.now) c.kind_word.result) c.kind_word.ensures c.new-out.result
    c.args.rows c.new-out.ensures c.requires

pub put_tagged-requires-clause-rows : goal.put_tagged-requires-clause-rows
put_tagged-requires-clause-rows c =
    alone_rows_new c.args.kind.now (option_map (λ w. w.now) c.kind_word.result) c.kind_word.ensures c.new-out.result
    c.args.rows c.new-out.ensures c.requires

pub returns : goal.returns
returns c =
    alone_written c.args.kind.now (option_map (λ w. w.now) c.kind_word.result) c.kind_word.ensures c.new-out.result
    c.args.rows c.new-out.ensures c.requires c.object.result
    (c.object.ensures ∙ ap (λ es. object (members_of es)) c.in_ok-put_tagged.ensures.ok)
