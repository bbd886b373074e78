use Rattle.std.proofs.Common.{◌≡◌, ◌<◌, ◌++◌, ◌∷◌, [], length, get_or, subst, ◌∙◌, arith}
use Rattle.openapi_map.specs.Entries.{get}
use Rattle.openapi_map.proofs.EntryLemmas.{absent-next, push-next}
use Rattle.openapi_node.proofs.TreeLemmas.{next_item, next_member}
use Rattle.openapi_node.proofs.clone.+clone.Goals as goal

pub clone_items-clone_node-requires : goal.clone_items-clone_node-requires
clone_items-clone_node-requires t c =
    let items = c.args.items.now.items in
    let i = c.loop-item.item-index in
    let item = c.item-item.result in
    let same = c.deref-item-items.ensures.value in
    let next = next_item items i item (subst (λ xs. i < length xs) same c.loop-item-test.true)
    (subst (λ xs. item ≡ get_or xs i item) same c.item-item.is) in
    (omega (arith, next.within, c.decreases), tt)

pub clone_members-clone_node-requires : goal.clone_members-clone_node-requires
clone_members-clone_node-requires t c =
    let next = next_member c.args.members.now c.loop-i.i (c.entry_at.result.0.now, c.entry_at.result.1.now)
    c.entry_at.ensures in
    (omega (arith, next.within, c.decreases), tt)

pub clone_members-push_new-requires : goal.clone_members-push_new-requires
clone_members-push_new-requires t c =
    let members = c.args.members.now in
    let i = c.loop-i.i in
    (λ j. get (c.in_ok-name.ensures.ok j) (c.loop-i.invariant j))
    ∙ absent-next members i (c.entry_at.result.0.now, c.entry_at.result.1.now) c.len-i-end.ensures.distinct
    c.entry_at.ensures

pub clone_members-loop-i-preserved : goal.clone_members-loop-i-preserved
clone_members-loop-i-preserved t c =
    let members = c.args.members.now in
    let i = c.loop-i.i in
    c.in_ok-push_new.ensures.entries
    ∙ (λ j. c.loop-i.invariant j ++ (c.in_ok-name.ensures.ok j, c.in_ok-clone_node.ensures j) ∷ [])
    ∙ push-next members i (c.entry_at.result.0.now, c.entry_at.result.1.now) c.entry_at.ensures
