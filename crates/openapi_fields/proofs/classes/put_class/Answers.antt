use Rattle.openapi_fields.proofs.Classed.{class_new, class_written, class_loses}
use Rattle.openapi_fields.proofs.classes.put_class.Goals as goal

pub put_entries-requires : goal.put_entries-requires
put_entries-requires g c =
    let x = c.args.owner.now in
    class_new g.N.ClassNames.class g.T.FromNode.kind g.N.Names.test g.met.N.ClassNames.by_class g.N.ClassNames.by_name
    g.T.FromNode.form_of (g.R.HasSlots.slots_of x) c.args.values.now c.requires.slot c.args.out.now c.requires.before
    (g.R.HasSlots.apart x)

pub returns-clause-ok : goal.returns-clause-ok
returns-clause-ok g c =
    class_written g.N.ClassNames.class g.T.FromNode.kind g.N.Names.test g.met.N.ClassNames.by_class
    g.N.ClassNames.by_name g.T.FromNode.form_of (g.R.HasSlots.slots_of c.args.owner.now) c.args.values.now
    c.requires.slot c.args.out.now c.requires.before c.put_entries.result c.put_entries.new.out
    c.put_entries.ensures.ok c.put_entries.ensures.names c.put_entries.ensures.whole

pub returns-clause-err : goal.returns-clause-err
returns-clause-err g c =
    class_loses g.N.ClassNames.class g.T.FromNode.kind g.N.Names.test g.met.N.ClassNames.by_class
    g.N.ClassNames.by_name g.T.FromNode.form_of (g.R.HasSlots.slots_of c.args.owner.now) c.args.values.now
    c.requires.slot c.args.out.now c.requires.before c.put_entries.result c.put_entries.ensures.err
