use Rattle.std.proofs.Common.{[], ◌++◌, ◌∷◌, sym, ◌∙◌, arith}
use Rattle.std.proofs.lemmas.List.{take_more}
use Rattle.openapi_map.specs.Entries.{get}
use Rattle.openapi_map.proofs.EntryLemmas.{absent-next, push-next}
use Rattle.openapi_node.proofs.TreeLemmas.{next_item, next_member, members_size-take}
use Rattle.openapi_node.proofs.copy.+copy.Goals as goal

pub copy_items-copy_node-requires : goal.copy_items-copy_node-requires
copy_items-copy_node-requires t c =
    let next = next_item c.args.items.now c.loop-item.item-index c.item-item.result c.loop-item-test.true
    c.item-item.is in
    (omega (arith, next.within, c.decreases), tt)

pub copy_items-returns-in_err-copy_node-clause-bound : goal.copy_items-returns-in_err-copy_node-clause-bound
copy_items-returns-in_err-copy_node-clause-bound t c =
    let next = next_item c.args.items.now c.loop-item.item-index c.item-item.result c.loop-item-test.true
    c.item-item.is in
    omega (arith, next.within, c.in_err-copy_node.ensures.bound, c.loop-item.invariant.counted)

pub copy_items-returns-in_err-push-clause-bound : goal.copy_items-returns-in_err-push-clause-bound
copy_items-returns-in_err-push-clause-bound t c =
    let next = next_item c.args.items.now c.loop-item.item-index c.item-item.result c.loop-item-test.true
    c.item-item.is in
    omega (arith, next.within, c.in_ok-copy_node.ensures.bound, c.loop-item.invariant.counted)

pub copy_items-loop-item-preserved : goal.copy_items-loop-item-preserved
copy_items-loop-item-preserved t c =
    let items = c.args.items.now in
    let i = c.loop-item.item-index in
    let item = c.item-item.result in
    let next = next_item items i item c.loop-item-test.true c.item-item.is in
    record {
      copied = c.in_ok-push.ensures.items
          ∙ (λ j. c.loop-item.invariant.copied j ++ (c.in_ok-copy_node.ensures.ok ∙ c.item-item.is) j ∷ [])
          ∙ sym (take_more items i item c.loop-item-test.true);
      counted = omega (arith, next.adds, c.in_ok-copy_node.ensures.counted, c.loop-item.invariant.counted);
    }

pub copy_members-returns-in_err-name-clause-bound : goal.copy_members-returns-in_err-name-clause-bound
copy_members-returns-in_err-name-clause-bound t c =
    omega (arith, members_size-take c.args.members.now c.loop-i.i, c.loop-i.invariant.counted)

pub copy_members-copy_node-requires : goal.copy_members-copy_node-requires
copy_members-copy_node-requires t c =
    let next = next_member c.args.members.now c.loop-i.i (c.entry_at.result.0.now, c.entry_at.result.1.now)
    c.entry_at.ensures in
    (omega (arith, next.within, c.decreases), tt)

pub copy_members-returns-in_err-copy_node-clause-bound : goal.copy_members-returns-in_err-copy_node-clause-bound
copy_members-returns-in_err-copy_node-clause-bound t c =
    let next = next_member c.args.members.now c.loop-i.i (c.entry_at.result.0.now, c.entry_at.result.1.now)
    c.entry_at.ensures in
    omega (arith, next.within, c.in_err-copy_node.ensures.bound, c.loop-i.invariant.counted)

pub copy_members-returns-in_err-push_new-clause-bound : goal.copy_members-returns-in_err-push_new-clause-bound
copy_members-returns-in_err-push_new-clause-bound t c =
    let next = next_member c.args.members.now c.loop-i.i (c.entry_at.result.0.now, c.entry_at.result.1.now)
    c.entry_at.ensures in
    omega (arith, next.within, c.in_ok-copy_node.ensures.bound, c.loop-i.invariant.counted)

pub copy_members-push_new-requires : goal.copy_members-push_new-requires
copy_members-push_new-requires t c =
    let members = c.args.members.now in
    let i = c.loop-i.i in
    (λ j. get (c.in_ok-name.ensures.ok j) (c.loop-i.invariant.copied j))
    ∙ absent-next members i (c.entry_at.result.0.now, c.entry_at.result.1.now) c.len-i-end.ensures.distinct
    c.entry_at.ensures

pub copy_members-loop-i-preserved : goal.copy_members-loop-i-preserved
copy_members-loop-i-preserved t c =
    let members = c.args.members.now in
    let i = c.loop-i.i in
    let name = c.entry_at.result.0.now in
    let member = c.entry_at.result.1.now in
    let next = next_member members i (name, member) c.entry_at.ensures in
    record {
      copied = c.in_ok-push_new.ensures.entries
          ∙ (λ j. c.loop-i.invariant.copied j ++ (c.in_ok-name.ensures.ok j, c.in_ok-copy_node.ensures.ok j) ∷
          []) ∙ push-next members i (name, member) c.entry_at.ensures;
      counted = omega (arith, next.adds, c.in_ok-copy_node.ensures.counted, c.loop-i.invariant.counted);
    }
