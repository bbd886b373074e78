use Rattle.std.proofs.Common.{Some, None, Ok, sym, ◌∙◌, arith}
use Rattle.openapi_node.specs.Tree.{members_of, find}
use Rattle.openapi_tables.specs.Kind.{required}
use Rattle.openapi_fields.specs.Returned.{MemberReadAs}
use Rattle.openapi_fields.proofs.RowReading.{member_row, member_missing, member_fails, row_default, weight_of_name}
use Rattle.openapi_fields.proofs.implied.or_implied.Goals as goal

pub returns-in-Some-clause-reads : goal.returns-in-Some-clause-reads
returns-in-Some-clause-reads g c =
    let n = c.args.name.now in
    let ms = members_of c.args.members.now in
    let read : MemberReadAs g.T.FromNode.form_of (Ok (Some c.in-Some.value)) g.T.FromNode.kind n (find n ms) = rw
    c.in-Some.is at c.in-Ok.ensures.reads in
    member_row g.R.HasSlots.object n g.T.Implied.mode g.T.FromNode.kind ms c.requires.row g.T.FromNode.form_of g.met.T.Implied.keeps_null
    c.in-Some.value read

pub returns-in-None-clause-reads : goal.returns-in-None-clause-reads
returns-in-None-clause-reads g c =
    let o = g.R.HasSlots.object in
    let n = c.args.name.now in
    let ms = members_of c.args.members.now in
    let read : MemberReadAs g.T.FromNode.form_of (Ok None) g.T.FromNode.kind n (find n ms) = rw c.in-None.is at
    c.in-Ok.ensures.reads in
    let row = row_default o n g.T.Implied.mode g.T.FromNode.kind ms c.requires.row (member_missing o n g.T.Implied.mode g.T.FromNode.kind
    ms c.requires.row g.T.FromNode.form_of read) g.met.T.Implied.may_be_missing in
    (row.0, row.1 ∙ sym c.implied.ensures)

pub returns-in-Err-clause-reads : goal.returns-in-Err-clause-reads
returns-in-Err-clause-reads g c =
    member_fails g.R.HasSlots.object c.args.name.now g.T.Implied.mode g.T.FromNode.kind (members_of c.args.members.now)
    c.requires.row g.T.FromNode.form_of g.met.T.Implied.keeps_null
    c.in-Err.fault c.in-Err.ensures.reads

pub returns-in-Some-clause-count : goal.returns-in-Some-clause-count
returns-in-Some-clause-count g c = omega (
  arith,
  c.found.ensures.count.1,
  weight_of_name c.args.name.now g.T.Implied.mode required g.T.FromNode.kind
      g.T.FromNode.kind (members_of c.args.members.now),
)

pub returns-in-None-clause-count : goal.returns-in-None-clause-count
returns-in-None-clause-count g c = omega (
  arith,
  c.found.ensures.count.1,
  weight_of_name c.args.name.now g.T.Implied.mode required g.T.FromNode.kind
      g.T.FromNode.kind (members_of c.args.members.now),
)

pub returns-in-Err-clause-count : goal.returns-in-Err-clause-count
returns-in-Err-clause-count g c = omega (
  arith,
  c.found.ensures.count.1,
  weight_of_name c.args.name.now g.T.Implied.mode required g.T.FromNode.kind
      g.T.FromNode.kind (members_of c.args.members.now),
)
