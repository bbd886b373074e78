use Rattle.std.proofs.Common.{refl, arith}
use Rattle.openapi_node.specs.Tree.{members_of}
use Rattle.openapi_tables.specs.Kind.{optional, nullable}
use Rattle.openapi_fields.proofs.RowReading.{present_row, weight_of_name}
use Rattle.openapi_fields.proofs.rows.nullable.Goals as goal

pub returns-clause-reads : goal.returns-clause-reads
returns-clause-reads g c =
    present_row g.R.HasSlots.object c.args.name.now nullable g.T.FromNode.kind (members_of c.args.members.now)
    c.requires.row
    g.T.FromNode.form_of refl refl c.present.result c.present.ensures.reads

pub returns-clause-count : goal.returns-clause-count
returns-clause-count g c =
    let k = g.T.FromNode.kind in omega (
      arith,
      c.present.ensures.count.1,
      weight_of_name c.args.name.now nullable optional k k (members_of c.args.members.now),
    )
