use Rattle.std.proofs.Common.{arith}
use Rattle.openapi_tables.specs.Kind.{by}
use Rattle.openapi_fields.proofs.Deciding.{decided_weight, first_read, second_read}
use Rattle.openapi_fields.proofs.either.decided.Goals as goal

pub returns-in-Ok-clause-reads : goal.returns-in-Ok-clause-reads
returns-in-Ok-clause-reads g c =
    rw c.in-Ok.is at (first_read (by g.R.Object.table) c.args.first.now g.A.FromNode.kind c.args.second.now
    g.B.FromNode.kind c.args.members.now c.requires.row c.in-Ok-First.node.now (rw c.in-Ok-First.field-0-is at c.in-Ok-First.ensures)
    g.A.FromNode.form_of c.from_node.result c.at_name.result c.at_name.ensures c.from_node.ensures.reads)

pub returns-in-Err-at_name-clause-reads : goal.returns-in-Err-at_name-clause-reads
returns-in-Err-at_name-clause-reads g c =
    rw c.in-Err-at_name.is at (first_read (by g.R.Object.table) c.args.first.now g.A.FromNode.kind c.args.second.now
    g.B.FromNode.kind c.args.members.now c.requires.row c.in-Ok-First.node.now (rw c.in-Ok-First.field-0-is at c.in-Ok-First.ensures)
    g.A.FromNode.form_of c.from_node.result c.at_name.result c.at_name.ensures c.from_node.ensures.reads)

pub returns-in-Ok-at_name-clause-reads : goal.returns-in-Ok-at_name-clause-reads
returns-in-Ok-at_name-clause-reads g c =
    rw c.in-Ok-at_name.is at (second_read (by g.R.Object.table) c.args.first.now g.A.FromNode.kind c.args.second.now
    g.B.FromNode.kind c.args.members.now c.requires.row c.in-Ok-Second.node.now (rw c.in-Ok-Second.field-0-is at c.in-Ok-Second.ensures).0
    (rw c.in-Ok-Second.field-0-is at c.in-Ok-Second.ensures).1 g.B.FromNode.form_of c.from_node-in-Ok-Second.result c.at_name-in-Ok-Second.result
    c.at_name-in-Ok-Second.ensures c.from_node-in-Ok-Second.ensures.reads)

pub returns-in-Err-at_name-2-clause-reads : goal.returns-in-Err-at_name-2-clause-reads
returns-in-Err-at_name-2-clause-reads g c =
    rw c.in-Err-at_name-2.is at (second_read (by g.R.Object.table) c.args.first.now g.A.FromNode.kind c.args.second.now
    g.B.FromNode.kind c.args.members.now c.requires.row c.in-Ok-Second.node.now (rw c.in-Ok-Second.field-0-is at c.in-Ok-Second.ensures).0
    (rw c.in-Ok-Second.field-0-is at c.in-Ok-Second.ensures).1 g.B.FromNode.form_of c.from_node-in-Ok-Second.result c.at_name-in-Ok-Second.result
    c.at_name-in-Ok-Second.ensures c.from_node-in-Ok-Second.ensures.reads)

pub returns-in-Err-clause-reads : goal.returns-in-Err-clause-reads
returns-in-Err-clause-reads g c =
    c.in-Err.ensures g.R.Object.table g.A.FromNode.kind g.B.FromNode.kind c.requires.row

pub returns-in-Ok-clause-count : goal.returns-in-Ok-clause-count
returns-in-Ok-clause-count g c =
    let a = c.args.first.now in omega (
      arith,
      c.from_node.ensures.count,
      decided_weight a g.A.FromNode.kind c.args.second.now g.B.FromNode.kind a c.in-Ok-First.node.now
          c.args.members.now (rw c.in-Ok-First.field-0-is at c.in-Ok-First.ensures),
    )

pub returns-in-Err-at_name-clause-count : goal.returns-in-Err-at_name-clause-count
returns-in-Err-at_name-clause-count g c =
    let a = c.args.first.now in omega (
      arith,
      c.from_node.ensures.count,
      decided_weight a g.A.FromNode.kind c.args.second.now g.B.FromNode.kind a c.in-Ok-First.node.now
          c.args.members.now (rw c.in-Ok-First.field-0-is at c.in-Ok-First.ensures),
    )

pub returns-in-Ok-at_name-clause-count : goal.returns-in-Ok-at_name-clause-count
returns-in-Ok-at_name-clause-count g c =
    let b = c.args.second.now in omega (
      arith,
      c.from_node-in-Ok-Second.ensures.count,
      decided_weight c.args.first.now g.A.FromNode.kind b g.B.FromNode.kind b c.in-Ok-Second.node.now
          c.args.members.now (rw c.in-Ok-Second.field-0-is at c.in-Ok-Second.ensures).0,
    )

pub returns-in-Err-at_name-2-clause-count : goal.returns-in-Err-at_name-2-clause-count
returns-in-Err-at_name-2-clause-count g c =
    let b = c.args.second.now in omega (
      arith,
      c.from_node-in-Ok-Second.ensures.count,
      decided_weight c.args.first.now g.A.FromNode.kind b g.B.FromNode.kind b c.in-Ok-Second.node.now
          c.args.members.now (rw c.in-Ok-Second.field-0-is at c.in-Ok-Second.ensures).0,
    )
