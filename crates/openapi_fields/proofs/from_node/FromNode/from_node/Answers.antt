use Rattle.std.proofs.Common.{subst, ap, arith}
use Rattle.openapi_node.specs.Tree.{size_of}
use Rattle.openapi_fields.specs.Returned.{ReadAs}
use Rattle.openapi_fields.proofs.Below.{refuses}
use Rattle.openapi_fields.proofs.Looks.{few_looks}
use Rattle.openapi_fields.proofs.from_node.FromNode.from_node.Goals as goal

pub returns-clause-refuses : goal.returns-clause-refuses
returns-clause-refuses g c =
    let k = g.Self.FromNode.kind in
    let view = g.Self.FromNode.form_of in
    let read = subst (λ t. ReadAs view c.from_view.result k t) c.open-view.ensures.shown c.from_view.ensures.reads in
    refuses k c.args.node.now g.met.Self.FromNode.well_made view c.from_view.result read

pub returns-clause-count : goal.returns-clause-count
returns-clause-count g c =
    omega (
      arith,
      ap size_of c.open-view.ensures.shown,
      c.open-view.ensures.counted,
      c.from_view.ensures.count.1,
      few_looks g.Self.FromNode.kind g.met.Self.FromNode.well_made,
    )
