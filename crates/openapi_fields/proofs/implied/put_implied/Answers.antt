use Rattle.std.proofs.Common.{sym, ◌∙◌}
use Rattle.openapi_tables.specs.Tables.{final_tables}
use Rattle.openapi_tables.proofs.SlotWriting.{row_new, row_silent}
use Rattle.openapi_fields.proofs.Losing.{value_put, value_loses, silent_lost}
use Rattle.openapi_fields.proofs.implied.put_implied.Goals as goal

pub put_value-requires : goal.put_value-requires
put_value-requires g c =
    let x = c.args.owner.now in
    row_new final_tables (g.R.HasSlots.slots_of x) c.args.name.now g.T.Implied.mode g.T.FromNode.kind
    (g.T.FromNode.form_of c.args.value.now) c.requires.slot c.args.out.now c.requires.before (g.R.HasSlots.apart x)

pub returns-then-is_left_out-clause-ok : goal.returns-then-is_left_out-clause-ok
returns-then-is_left_out-clause-ok g c =
    let f = g.T.FromNode.form_of c.args.value.now in
    let quiet = sym c.is_left_out.ensures ∙ c.if-is_left_out.true in
    row_silent final_tables (g.R.HasSlots.slots_of c.args.owner.now) c.args.name.now g.T.Implied.mode g.T.FromNode.kind f
    c.requires.slot c.args.out.now c.requires.before quiet (silent_lost g.T.Implied.mode g.T.FromNode.kind f quiet)

pub returns-clause-ok : goal.returns-clause-ok
returns-clause-ok g c =
    value_put (g.R.HasSlots.slots_of c.args.owner.now) c.args.name.now g.T.Implied.mode g.T.FromNode.kind
    (g.T.FromNode.form_of c.args.value.now) c.requires.slot c.args.out.now c.requires.before c.put_value.result
    c.put_value.new.out (sym c.is_left_out.ensures ∙ c.if-is_left_out.false) c.put_value.ensures.ok c.put_value.ensures.whole

pub returns-clause-err : goal.returns-clause-err
returns-clause-err g c =
    value_loses (g.R.HasSlots.slots_of c.args.owner.now) c.args.name.now g.T.Implied.mode g.T.FromNode.kind
    (g.T.FromNode.form_of c.args.value.now) c.requires.slot c.args.out.now c.requires.before c.put_value.result
    c.put_value.ensures.err
