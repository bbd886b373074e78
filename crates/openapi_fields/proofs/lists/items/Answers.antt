use Rattle.std.proofs.Common.{◌∙◌, ◌++◌, ◌∷◌, [], take, sym, ap, arith}
use Rattle.std.proofs.lemmas.List.{take_all}
use Rattle.openapi_node.specs.Place.{indexed}
use Rattle.openapi_node.specs.Tree.{list, items_of}
use Rattle.openapi_node.proofs.TreeLemmas.{next_item}
use Rattle.openapi_tables.specs.Prelude.{each, every, final_tables, conforms, list_of, form}
use Rattle.openapi_fields.proofs.Below.{step_ok, step_err, fails_above}
use Rattle.openapi_fields.proofs.Elements.{list_gives, every-more, each-more, item_leads, next_here}
use Rattle.openapi_fields.proofs.lists.items.Goals as goal

pub returns-in_err-push-in-Ok-at_index-clause-count : goal.returns-in_err-push-in-Ok-at_index-clause-count
returns-in_err-push-in-Ok-at_index-clause-count g c =
    let next = next_item c.args.nodes.now c.loop-i.i c.index-nodes-i.result c.loop-i-test.true c.index-nodes-i.is in
    (omega (arith, c.loop-i.invariant.rises, c.from_node.ensures.rises), omega (arith, next.within, c.from_node.ensures.count, c.loop-i.invariant.counted))

pub returns-in-Err-clause-reads : goal.returns-in-Err-clause-reads
returns-in-Err-clause-reads g c =
    let k = g.T.FromNode.kind in
    let ts = c.args.nodes.now in
    let i = c.loop-i.i in
    let t = c.index-nodes-i.result in
    fails_above (indexed i) c.in-Err.fault (list_of k) k (list (items_of ts)) t
    (item_leads k ts i t c.loop-i-test.true c.index-nodes-i.is)
    (step_err g.T.FromNode.form_of (indexed i) k t c.from_node.result c.in-Err.fault c.in-Err.ensures
    c.from_node.ensures.reads)

pub returns-in-Err-clause-count : goal.returns-in-Err-clause-count
returns-in-Err-clause-count g c =
    let next = next_item c.args.nodes.now c.loop-i.i c.index-nodes-i.result c.loop-i-test.true c.index-nodes-i.is in
    (omega (arith, c.loop-i.invariant.rises, c.from_node.ensures.rises), omega (arith, next.within, c.from_node.ensures.count, c.loop-i.invariant.counted))

pub loop-i-preserved : goal.loop-i-preserved
loop-i-preserved g c =
    let k = g.T.FromNode.kind in
    let view = g.T.FromNode.form_of in
    let ts = c.args.nodes.now in
    let i = c.loop-i.i in
    let t = c.index-nodes-i.result in
    let x = c.in-Ok-at_index.value in
    let next = next_item ts i t c.loop-i-test.true c.index-nodes-i.is in
    let here = next_here ts i t c.loop-i-test.true c.index-nodes-i.is in
    let read = step_ok view (indexed i) k t c.from_node.result x c.in-Ok-at_index.ensures c.from_node.ensures.reads in
    record {
      holds = ap (every (conforms final_tables k)) here
          ∙ every-more (conforms final_tables k) (take i ts) t c.loop-i.invariant.holds read.0;
      same = ap (each (form final_tables k)) here ∙ each-more (form final_tables k) (take i ts) t
          ∙ (λ j. c.loop-i.invariant.same j ++ read.1 j ∷ [])
          ∙ sym (ap (each view) c.in_ok-push-in-Ok-at_index.ensures.ok ∙ each-more view c.loop-i.values.items x);
      rises = omega (arith, c.from_node.ensures.rises, c.loop-i.invariant.rises);
      counted = omega (arith, next.adds, c.from_node.ensures.count, c.loop-i.invariant.counted);
    }

pub returns-clause-reads : goal.returns-clause-reads
returns-clause-reads g c =
    let ts = c.args.nodes.now in
    let k = g.T.FromNode.kind in
    let whole = take_all c.loop-i.i ts (omega arith) in
    list_gives k ts (each g.T.FromNode.form_of c.loop-i.values.items)
    (sym (ap (every (conforms final_tables k)) whole) ∙ c.loop-i.invariant.holds)
    (sym (ap (each (form final_tables k)) whole) ∙ c.loop-i.invariant.same)
