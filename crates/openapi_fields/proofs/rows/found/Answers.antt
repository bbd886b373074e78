use Rattle.std.proofs.Common.{sym, subst, arith}
use Rattle.openapi_node.specs.Tree.{members_of}
use Rattle.openapi_tables.specs.Prelude.{required, final_tables}
use Rattle.openapi_tables.proofs.ByRowLaws.{weight-found}
use Rattle.openapi_fields.specs.Returned.{MemberReadAs}
use Rattle.openapi_fields.proofs.Present.{at_member}
use Rattle.openapi_fields.proofs.rows.found.Goals as goal

pub returns-clause-reads : goal.returns-clause-reads
returns-clause-reads g c =
    let k = g.T.FromNode.kind in
    let view = g.T.FromNode.form_of in
    let n = c.args.name.now in
    subst (λ o. MemberReadAs view c.as_member.result k n o) c.in-Some.ensures.found
    (at_member view n k c.in-Some.node.now c.from_node.result c.as_member.result c.as_member.ensures
    c.from_node.ensures.reads)

pub returns-clause-count : goal.returns-clause-count
returns-clause-count g c = (
  omega (arith, c.from_node.ensures.rises),
  omega (
    arith,
    c.from_node.ensures.count,
    weight-found final_tables c.args.name.now required g.T.FromNode.kind
        (members_of c.args.members.now) c.in-Some.node.now (sym c.in-Some.ensures.found),
  ),
)
