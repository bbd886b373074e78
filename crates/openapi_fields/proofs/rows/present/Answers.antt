use Rattle.std.proofs.Common.{Ok, None, sym, subst, arith}
use Rattle.openapi_node.specs.Tree.{members_of}
use Rattle.openapi_node.specs.View.{shown}
use Rattle.openapi_tables.specs.Kind.{any_tree, optional}
use Rattle.openapi_fields.specs.Returned.{MemberReadAs}
use Rattle.openapi_fields.proofs.Looks.{few_looks}
use Rattle.openapi_fields.proofs.Present.{at_member}
use Rattle.openapi_fields.proofs.RowReading.{weight_of_name}
use Rattle.openapi_fields.proofs.rows.present.Goals as goal

pub returns-in-None-clause-reads : goal.returns-in-None-clause-reads
returns-in-None-clause-reads g c =
    subst (λ o. MemberReadAs g.T.FromNode.form_of (Ok None) g.T.FromNode.kind c.args.name.now o)
    (sym c.in-None.ensures.is) tt

pub returns-in-None-clause-count : goal.returns-in-None-clause-count
returns-in-None-clause-count g c = (
  omega (arith, c.in-None.ensures.rises),
  omega (
    arith,
    c.in-None.ensures.counted,
    weight_of_name c.args.name.now optional optional g.T.FromNode.kind any_tree (members_of c.args.members.now),
  ),
)

pub returns-in-Some-clause-reads : goal.returns-in-Some-clause-reads
returns-in-Some-clause-reads g c =
    let k = g.T.FromNode.kind in
    let view = g.T.FromNode.form_of in
    let n = c.args.name.now in
    subst (λ o. MemberReadAs view c.as_member.result k n o) (sym c.in-Some.ensures.is)
    (at_member view n k (shown c.in-Some.view) c.from_view.result c.as_member.result c.as_member.ensures
    c.from_view.ensures.reads)

pub returns-in-Some-clause-count : goal.returns-in-Some-clause-count
returns-in-Some-clause-count g c = (
  omega (arith, c.from_view.ensures.count.0, c.in-Some.ensures.counted),
  omega (
    arith,
    c.in-Some.ensures.counted,
    c.in-Some.ensures.weighs,
    c.from_view.ensures.count.1,
    few_looks g.T.FromNode.kind g.met.T.FromNode.well_made,
    weight_of_name c.args.name.now optional optional g.T.FromNode.kind any_tree (members_of c.args.members.now),
  ),
)
