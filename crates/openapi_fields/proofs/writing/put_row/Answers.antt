use Rattle.openapi_tables.specs.Tables.{final_tables}
use Rattle.openapi_tables.proofs.SlotWriting.{row_new}
use Rattle.openapi_fields.proofs.Puts.{row_left_out, row_lost_below, row_put_as}
use Rattle.openapi_fields.proofs.writing.put_row.Goals as goal

pub put-requires : goal.put-requires
put-requires g c =
    let x = c.args.owner.now in
    let s = c.requires.slot in
    row_new final_tables (g.R.HasSlots.slots_of x) c.args.name.now s.mode s.kind s.form s.at c.args.out.now
    c.requires.before (g.R.HasSlots.apart x)

pub returns-in-Some-clause-ok : goal.returns-in-Some-clause-ok
returns-in-Some-clause-ok g c =
    let s = c.requires.slot in
    row_put_as (g.R.HasSlots.slots_of c.args.owner.now) c.args.name.now s.mode s.kind s.form s.at c.args.out.now
    c.requires.before c.put.result c.put.new.out c.in-Some.node (rw c.in-Some.is at (rw c.in-Ok.is at s.is))
    c.put.ensures.ok

pub returns-in-None-clause-ok : goal.returns-in-None-clause-ok
returns-in-None-clause-ok g c =
    let s = c.requires.slot in
    row_left_out (g.R.HasSlots.slots_of c.args.owner.now) c.args.name.now s.mode s.kind s.form s.at c.args.out.now
    c.requires.before (rw c.in-None.is at (rw c.in-Ok.is at s.is))

pub returns-in-Err-clause-err : goal.returns-in-Err-clause-err
returns-in-Err-clause-err g c =
    let s = c.requires.slot in
    row_lost_below (g.R.HasSlots.slots_of c.args.owner.now) c.args.name.now s.mode s.kind s.form s.at c.args.out.now
    c.requires.before c.in-Err.fault c.at_name.result (rw c.in-Err.is at s.is) c.at_name.ensures
