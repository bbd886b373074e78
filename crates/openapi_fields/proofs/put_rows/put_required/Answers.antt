use Rattle.std.proofs.Common.{refl}
use Rattle.openapi_tables.specs.Prelude.{required, final_tables}
use Rattle.openapi_tables.proofs.SlotWriting.{row_new}
use Rattle.openapi_fields.proofs.Losing.{value_put, value_loses}
use Rattle.openapi_fields.proofs.put_rows.put_required.Goals as goal

pub put_value-requires : goal.put_value-requires
put_value-requires g c =
    let x = c.args.owner.now in
    row_new final_tables (g.R.HasSlots.slots_of x) c.args.name.now required g.T.FromNode.kind
    (g.T.FromNode.form_of c.args.value.now) c.requires.slot c.args.out.now c.requires.before (g.R.HasSlots.apart x)

pub returns-clause-ok : goal.returns-clause-ok
returns-clause-ok g c =
    value_put (g.R.HasSlots.slots_of c.args.owner.now) c.args.name.now required g.T.FromNode.kind
    (g.T.FromNode.form_of c.args.value.now) c.requires.slot c.args.out.now c.requires.before c.put_value.result
    c.put_value.new.out refl c.put_value.ensures.ok c.put_value.ensures.whole

pub returns-clause-err : goal.returns-clause-err
returns-clause-err g c =
    value_loses (g.R.HasSlots.slots_of c.args.owner.now) c.args.name.now required g.T.FromNode.kind
    (g.T.FromNode.form_of c.args.value.now) c.requires.slot c.args.out.now c.requires.before c.put_value.result
    c.put_value.ensures.err
