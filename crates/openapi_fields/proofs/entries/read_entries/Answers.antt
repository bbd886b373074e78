use Rattle.std.proofs.Common.{◌∙◌, sym, arith}
use Rattle.openapi_fields.proofs.Taking.{name_untaken, none_yet, passed_over, taken_all, taken_next, taken_refused}
use Rattle.openapi_fields.proofs.entries.read_entries.Goals as goal

pub loop-i-init : goal.loop-i-init
loop-i-init g c =
    none_yet g.N.Names.test g.T.FromNode.form_of g.T.FromNode.kind c.args.members.now c.args.steps.now c.new-values.result
    c.new-values.ensures

pub loop-i-preserved-then-not-contains : goal.loop-i-preserved-then-not-contains
loop-i-preserved-then-not-contains g c =
    passed_over g.N.Names.test g.T.FromNode.form_of g.T.FromNode.kind c.args.members.now c.args.steps.now c.loop-i.i
    c.entry_at.ensures c.loop-i.invariant (sym c.contains.ensures ∙ c.if-not-contains.true)

pub put_read-requires : goal.put_read-requires
put_read-requires g c =
    name_untaken g.N.Names.test g.T.FromNode.form_of g.T.FromNode.kind c.args.members.now c.loop-i.i c.entry_at.result.0.now
    c.entry_at.result.1.now c.entry_at.ensures c.loop-i.values (sym c.contains.ensures ∙ c.if-not-contains.false)
    c.len-i-end.ensures.distinct c.loop-i.invariant.read

pub returns-in-Err : goal.returns-in-Err
returns-in-Err g c =
    taken_refused g.N.Names.test g.T.FromNode.form_of g.T.FromNode.kind c.args.members.now c.args.steps.now c.loop-i.i
    c.entry_at.ensures c.loop-i.invariant (sym c.contains.ensures ∙ c.if-not-contains.false) c.put_read.new.values
    (omega (arith, c.from_node.ensures.rises), omega (arith, c.from_node.ensures.count)) c.in-Err.fault
    (rw c.in-Err.is at (c.put_read.ensures g.T.FromNode.form_of g.T.FromNode.kind c.entry_at.result.1.now c.from_node.ensures.reads))

pub loop-i-preserved : goal.loop-i-preserved
loop-i-preserved g c =
    taken_next g.N.Names.test g.T.FromNode.form_of g.T.FromNode.kind c.args.members.now c.args.steps.now c.loop-i.i
    c.entry_at.ensures c.loop-i.invariant (sym c.contains.ensures ∙ c.if-not-contains.false) c.put_read.new.values
    (omega (arith, c.from_node.ensures.rises), omega (arith, c.from_node.ensures.count))
    (rw c.in-Ok.is at (c.put_read.ensures g.T.FromNode.form_of g.T.FromNode.kind c.entry_at.result.1.now c.from_node.ensures.reads))

pub returns : goal.returns
returns g c =
    taken_all g.N.Names.test g.T.FromNode.form_of g.T.FromNode.kind c.args.members.now c.args.steps.now c.loop-i.i
    c.loop-i.values c.loop-i.steps (omega arith) c.loop-i.invariant
