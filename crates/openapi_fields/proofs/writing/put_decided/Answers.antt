use Rattle.std.proofs.Common.{cond}
use Rattle.openapi_tables.specs.Lists.{same_text}
use Rattle.openapi_fields.proofs.Deciding.{decided_new}
use Rattle.openapi_fields.proofs.Puts.{decided_as, decided_lost}
use Rattle.openapi_fields.proofs.writing.put_decided.Goals as goal

pub put_written-requires : goal.put_written-requires
put_written-requires g c =
    let x = c.args.owner.now in
    let s = c.requires.slot in
    decided_new (g.R.HasSlots.slots_of x) c.args.first.now s.first s.other s.second c.args.name.now s.form s.at
    c.args.out.now c.requires.before s.of_two (g.R.HasSlots.apart x)

pub returns-clause-ok : goal.returns-clause-ok
returns-clause-ok g c =
    let x = c.args.owner.now in
    let s = c.requires.slot in
    decided_as (g.R.HasSlots.slots_of x) c.args.first.now s.first s.other s.second c.args.name.now s.form s.at
    c.args.out.now c.requires.before s.of_two c.put_written.result c.put_written.new.out
    (c.put_written.ensures (cond (same_text c.args.first.now c.args.name.now) s.first s.second) s.form s.is)

pub returns-clause-err : goal.returns-clause-err
returns-clause-err g c =
    let x = c.args.owner.now in
    let s = c.requires.slot in
    decided_lost (g.R.HasSlots.slots_of x) c.args.first.now s.first s.other s.second c.args.name.now s.form s.at
    c.args.out.now c.requires.before s.of_two c.put_written.result c.put_written.new.out
    (c.put_written.ensures (cond (same_text c.args.first.now c.args.name.now) s.first s.second) s.form s.is)
