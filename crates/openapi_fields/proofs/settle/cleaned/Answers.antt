use Rattle.openapi_fields.proofs.Cleaning.{cleans, cleans_refuses}
use Rattle.openapi_fields.proofs.settle.cleaned.Goals as goal

pub returns-in-Ok-clause-gives : goal.returns-in-Ok-clause-gives
returns-in-Ok-clause-gives g c =
    cleans g.T.FromNode.form_of c.in-Ok.value g.T.FromNode.kind c.args.node.now g.met.T.FromNode.well_made
    c.in-Ok.ensures.reads c.to_node.result c.to_node.ensures.written

pub returns-in-Ok-clause-refuses : goal.returns-in-Ok-clause-refuses
returns-in-Ok-clause-refuses g c =
    cleans_refuses g.T.FromNode.form_of c.in-Ok.value g.T.FromNode.kind c.args.node.now g.met.T.FromNode.well_made
    c.in-Ok.ensures.reads c.to_node.result c.to_node.ensures.written
