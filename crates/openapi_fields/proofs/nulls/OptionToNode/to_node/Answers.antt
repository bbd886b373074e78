use Rattle.openapi_fields.proofs.OrNull.{written_or_null}
use Rattle.openapi_fields.proofs.nulls.OptionToNode.to_node.Goals as goal

pub returns-in-Some : goal.returns-in-Some
returns-in-Some g c =
    let k = g.T.FromNode.kind in
    let f = g.T.FromNode.form_of c.in-Some.value in
    rw c.in-Some.is (record { written = written_or_null k f c.to_node.result c.to_node.ensures.written })
