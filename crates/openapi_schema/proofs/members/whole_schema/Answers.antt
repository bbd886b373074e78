use Rattle.std.proofs.Common.{option_map, ap, ◌∙◌}
use Rattle.openapi_node.specs.Tree.{object, members_of}
use Rattle.openapi_schema.proofs.WholeSchemas.{its_rows_new, its_tag_new, schema_written}
use Rattle.openapi_schema.proofs.members.whole_schema.Goals as goal

pub put_tagged-requires-clause-tag : goal.put_tagged-requires-clause-tag
put_tagged-requires-clause-tag c =
    its_tag_new c.args.schema.now (option_map (λ w. w.now) c.kind_word.result) c.kind_word.ensures c.args.out c.args.rows
    c.requires.data c.requires.kind

pub put_tagged-requires-clause-rows : goal.put_tagged-requires-clause-rows
put_tagged-requires-clause-rows c =
    its_rows_new c.args.schema.now (option_map (λ w. w.now) c.kind_word.result) c.kind_word.ensures c.args.out
    c.args.rows c.requires.data c.requires.kind

pub returns : goal.returns
returns c =
    schema_written c.args.schema.now (option_map (λ w. w.now) c.kind_word.result) c.kind_word.ensures c.args.out
    c.args.rows c.requires.data c.requires.kind c.object.result
    (c.object.ensures ∙ ap (λ es. object (members_of es)) c.in_ok-put_tagged.ensures.ok)
