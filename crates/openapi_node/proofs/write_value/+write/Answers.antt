use Rattle.std.proofs.Common.{take, get_or, map, sym, ap, ◌∙◌, arith}
use Rattle.std.proofs.lemmas.List.{take_more, take_all}
use Rattle.serde_json.specs.View.{view}
use Rattle.openapi_node.specs.Json.{data_of}
use Rattle.openapi_node.specs.Pairs.{pair_view, pair_data}
use Rattle.openapi_node.proofs.JsonLemmas.{items_data-items_of, push_made}
use Rattle.openapi_node.proofs.PairLemmas.{members_of_pairs}
use Rattle.openapi_node.proofs.TreeLemmas.{next_item, next_member, members_size-take, take_next}
use Rattle.serde_json.specs.View.{items_of as view_items_of}
use Rattle.openapi_node.proofs.write_value.+write.Goals as goal

pub write_items-write_node-requires : goal.write_items-write_node-requires
write_items-write_node-requires t c =
    let next = next_item c.args.items.now c.loop-item.item-index c.item-item.result c.loop-item-test.true
    c.item-item.is in
    (omega (arith, next.within, c.decreases), tt)

pub write_items-returns-in_err-write_node-clause-bound : goal.write_items-returns-in_err-write_node-clause-bound
write_items-returns-in_err-write_node-clause-bound t c =
    let next = next_item c.args.items.now c.loop-item.item-index c.item-item.result c.loop-item-test.true
    c.item-item.is in
    omega (arith, next.within, c.in_err-write_node.ensures.bound, c.loop-item.invariant.counted)

pub write_items-returns-in_err-push-clause-bound : goal.write_items-returns-in_err-push-clause-bound
write_items-returns-in_err-push-clause-bound t c =
    let next = next_item c.args.items.now c.loop-item.item-index c.item-item.result c.loop-item-test.true
    c.item-item.is in
    omega (arith, next.within, c.in_ok-write_node.ensures.bound, c.loop-item.invariant.counted)

pub write_items-loop-item-preserved : goal.write_items-loop-item-preserved
write_items-loop-item-preserved t c =
    let items = c.args.items.now in
    let i = c.loop-item.item-index in
    let item = c.item-item.result in
    let next = next_item items i item c.loop-item-test.true c.item-item.is in
    record {
      written = ap (λ vs. map view vs) c.in_ok-push.ensures.items
          ∙ push_made view data_of c.loop-item.values.items c.in_ok-write_node.field-0 (take i items)
          (get_or items i item) c.loop-item.invariant.written
          (c.in_ok-write_node.ensures.ok ∙ ap data_of c.item-item.is)
          ∙ sym (ap (λ ts. map data_of ts) (take_more items i item c.loop-item-test.true));
      counted = omega (arith, next.adds, c.in_ok-write_node.ensures.counted, c.loop-item.invariant.counted);
    }

pub write_items-returns-clause-ok : goal.write_items-returns-clause-ok
write_items-returns-clause-ok t c =
    let items = c.args.items.now in
    ap view_items_of (c.loop-item.invariant.written
    ∙ ap (λ l. map data_of l) (take_all c.loop-item.item-index items c.loop-item-test.false))
    ∙ items_data-items_of items

pub write_pairs-returns-in_err-name-clause-bound : goal.write_pairs-returns-in_err-name-clause-bound
write_pairs-returns-in_err-name-clause-bound t c =
    omega (arith, members_size-take c.args.members.now c.loop-i.i, c.loop-i.invariant.counted)

pub write_pairs-write_node-requires : goal.write_pairs-write_node-requires
write_pairs-write_node-requires t c =
    let next = next_member c.args.members.now c.loop-i.i (c.entry_at.result.0.now, c.entry_at.result.1.now)
    c.entry_at.ensures in
    (omega (arith, next.within, c.decreases), tt)

pub write_pairs-returns-in_err-write_node-clause-bound : goal.write_pairs-returns-in_err-write_node-clause-bound
write_pairs-returns-in_err-write_node-clause-bound t c =
    let next = next_member c.args.members.now c.loop-i.i (c.entry_at.result.0.now, c.entry_at.result.1.now)
    c.entry_at.ensures in
    omega (arith, next.within, c.in_err-write_node.ensures.bound, c.loop-i.invariant.counted)

pub write_pairs-returns-in_err-push-clause-bound : goal.write_pairs-returns-in_err-push-clause-bound
write_pairs-returns-in_err-push-clause-bound t c =
    let next = next_member c.args.members.now c.loop-i.i (c.entry_at.result.0.now, c.entry_at.result.1.now)
    c.entry_at.ensures in
    omega (arith, next.within, c.in_ok-write_node.ensures.bound, c.loop-i.invariant.counted)

pub write_pairs-loop-i-preserved : goal.write_pairs-loop-i-preserved
write_pairs-loop-i-preserved t c =
    let members = c.args.members.now in
    let i = c.loop-i.i in
    let name = c.entry_at.result.0.now in
    let member = c.entry_at.result.1.now in
    let next = next_member members i (name, member) c.entry_at.ensures in
    record {
      written = ap (λ ps. map pair_view ps) c.in_ok-push.ensures.items
          ∙ push_made pair_view pair_data c.loop-i.pairs.items (c.in_ok-name.name, c.in_ok-write_node.field-0)
          (take i members) (name, member) c.loop-i.invariant.written
          (λ j. (c.in_ok-name.ensures.ok j, c.in_ok-write_node.ensures.ok j))
          ∙ sym (ap (λ ms. map pair_data ms) (take_next members i (name, member) c.entry_at.ensures));
      counted = omega (arith, next.adds, c.in_ok-write_node.ensures.counted, c.loop-i.invariant.counted);
    }

pub write_members-returns-clause-ok : goal.write_members-returns-clause-ok
write_members-returns-clause-ok t c =
    let pairs = c.in_ok-write_pairs in
    members_of_pairs c.map_of.result pairs.field-0.items c.args.members.now pairs.ensures.ok c.map_of.ensures
