use Rattle.openapi_fields.proofs.Cleaning.{settles, settles_refuses, counted}
use Rattle.openapi_fields.proofs.settle.cleaned_twice.Goals as goal

pub returns-in-Ok-clause-gives : goal.returns-in-Ok-clause-gives
returns-in-Ok-clause-gives g c =
    settles g.T.FromNode.kind c.args.node.now c.in-Ok.once g.met.T.FromNode.well_made c.in-Ok.ensures.gives
    c.cleaned-in-Ok.result c.cleaned-in-Ok.ensures.gives c.cleaned-in-Ok.ensures.refuses

pub returns-in-Ok-clause-refuses : goal.returns-in-Ok-clause-refuses
returns-in-Ok-clause-refuses g c =
    settles_refuses g.T.FromNode.kind c.args.node.now c.in-Ok.once g.met.T.FromNode.well_made c.in-Ok.ensures.gives
    c.cleaned-in-Ok.result c.cleaned-in-Ok.ensures.refuses

pub returns-in-Ok-clause-count : goal.returns-in-Ok-clause-count
returns-in-Ok-clause-count g c =
    counted g.T.FromNode.kind c.args.node.now c.in-Ok.once g.met.T.FromNode.well_made c.in-Ok.ensures.gives
    c.args.steps.now c.cleaned.new.steps c.cleaned-in-Ok.new.steps c.in-Ok.ensures.count c.cleaned-in-Ok.ensures.count
