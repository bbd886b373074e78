use Rattle.std.proofs.Common.{refl}
use Rattle.openapi_node.specs.Tree.{members_of}
use Rattle.openapi_tables.specs.Kind.{optional}
use Rattle.openapi_fields.proofs.RowReading.{present_row}
use Rattle.openapi_fields.proofs.rows.optional.Goals as goal

pub returns-clause-reads : goal.returns-clause-reads
returns-clause-reads g c =
    present_row g.R.HasSlots.object c.args.name.now optional g.T.FromNode.kind (members_of c.args.members.now)
    c.requires.row
    g.T.FromNode.form_of refl refl c.present.result c.present.ensures.reads
