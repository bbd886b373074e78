use Rattle.std.proofs.Common.{refl}
use Rattle.openapi_tables.specs.Prelude.{absent, optional, final_tables}
use Rattle.openapi_tables.proofs.SlotWriting.{row_new, row_silent}
use Rattle.openapi_fields.proofs.Losing.{value_put, value_loses, not_silent}
use Rattle.openapi_fields.proofs.put_rows.put_optional.Goals as goal

pub returns-in-None-clause-ok : goal.returns-in-None-clause-ok
returns-in-None-clause-ok g c =
    row_silent final_tables (g.R.HasSlots.slots_of c.args.owner.now) c.args.name.now optional g.T.FromNode.kind absent
    (rw c.in-None.is at c.requires.slot) c.args.out.now c.requires.before refl refl

pub put_value-requires : goal.put_value-requires
put_value-requires g c =
    let x = c.args.owner.now in
    row_new final_tables (g.R.HasSlots.slots_of x) c.args.name.now optional g.T.FromNode.kind
    (g.T.FromNode.form_of c.in-Some.value) (rw c.in-Some.is at c.requires.slot) c.args.out.now c.requires.before
    (g.R.HasSlots.apart x)

pub returns-in-Some-clause-ok : goal.returns-in-Some-clause-ok
returns-in-Some-clause-ok g c =
    let x = c.in-Some.value in
    value_put (g.R.HasSlots.slots_of c.args.owner.now) c.args.name.now optional g.T.FromNode.kind (g.T.FromNode.form_of x)
    (rw c.in-Some.is at c.requires.slot) c.args.out.now c.requires.before c.put_value.result c.put_value.new.out
    (not_silent (g.T.FromNode.form_of x) (g.met.T.ToNode.there x)) c.put_value.ensures.ok c.put_value.ensures.whole

pub returns-in-Some-clause-err : goal.returns-in-Some-clause-err
returns-in-Some-clause-err g c =
    value_loses (g.R.HasSlots.slots_of c.args.owner.now) c.args.name.now optional g.T.FromNode.kind
    (g.T.FromNode.form_of c.in-Some.value) (rw c.in-Some.is at c.requires.slot) c.args.out.now c.requires.before
    c.put_value.result c.put_value.ensures.err
