use Rattle.std.proofs.Common.{refl, Some, None, Ok}
use Rattle.openapi_node.specs.Tree.{members_of, object, find}
use Rattle.openapi_node.specs.declared.fault.Cause.TheVariants.{Missing}
use Rattle.openapi_tables.specs.Prelude.{required, final_tables}
use Rattle.openapi_tables.proofs.ByRowLaws.{row_missing}
use Rattle.openapi_tables.proofs.WellMade.{final_sound}
use Rattle.openapi_fields.specs.Returned.{MemberReadAs}
use Rattle.openapi_fields.proofs.Below.{fails_here}
use Rattle.openapi_fields.proofs.RowReading.{member_row, member_missing, member_fails}
use Rattle.openapi_fields.proofs.rows.required.Goals as goal

pub returns-in-Some-clause-reads : goal.returns-in-Some-clause-reads
returns-in-Some-clause-reads g c =
    let k = g.T.FromNode.kind in
    let view = g.T.FromNode.form_of in
    let n = c.args.name.now in
    let ms = members_of c.args.members.now in
    let read : MemberReadAs view (Ok (Some c.in-Some.value)) k n (find n ms) = rw c.in-Some.is at
    c.in-Ok.ensures.reads in
    member_row g.R.HasSlots.object n required k ms c.requires.row view refl c.in-Some.value read

pub returns-in-None-clause-reads : goal.returns-in-None-clause-reads
returns-in-None-clause-reads g c =
    let o = g.R.HasSlots.object in
    let n = c.args.name.now in
    let k = g.T.FromNode.kind in
    let ms = members_of c.args.members.now in
    let view = g.T.FromNode.form_of in
    let read : MemberReadAs view (Ok None) k n (find n ms) = rw c.in-None.is at c.in-Ok.ensures.reads in
    fails_here c.new.result (Missing c.args.name) o (object ms) c.new.ensures.place c.new.ensures.cause
    (row_missing final_tables final_sound o n k ms c.requires.row
    (member_missing o n required k ms c.requires.row view read))

pub returns-in-Err-clause-reads : goal.returns-in-Err-clause-reads
returns-in-Err-clause-reads g c =
    member_fails g.R.HasSlots.object c.args.name.now required g.T.FromNode.kind (members_of c.args.members.now)
    c.requires.row
    g.T.FromNode.form_of refl c.in-Err.fault c.in-Err.ensures.reads
