use Rattle.std.proofs.Common.{arith}
use Rattle.openapi_fields.proofs.Classed.{class_gives, class_count}
use Rattle.openapi_fields.proofs.classes.class_entries.Goals as goal

pub returns-clause-reads : goal.returns-clause-reads
returns-clause-reads g c =
    class_gives g.N.ClassNames.class g.T.FromNode.kind g.N.Names.test g.met.N.ClassNames.by_class g.N.ClassNames.by_name
    g.T.FromNode.form_of c.read_entries.result g.R.HasSlots.object c.args.members.now c.requires.row
    c.read_entries.ensures.reads

pub returns-clause-count : goal.returns-clause-count
returns-clause-count g c = omega (
  arith,
  c.read_entries.ensures.count.1,
  class_count g.N.ClassNames.class g.T.FromNode.kind g.N.Names.test
      g.met.N.ClassNames.by_class g.N.ClassNames.by_name g.T.FromNode.form_of c.args.members.now,
)
