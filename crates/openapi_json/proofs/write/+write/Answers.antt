use Rattle.std.proofs.Common.{◌≡◌, ◌++◌, ◌+◌, drop, List, OnOk, subst, sym, ap, ◌∙◌, arith}
use Rattle.std.proofs.lemmas.List.{drop_all, nil_from_length}
use Rattle.std.specs.Vec.Iter.{into_iter_items}
use Rattle.openapi_node.specs.Tree.{Tree, items_of, members_of}
use Rattle.openapi_node.proofs.TreeLemmas.{next_item}
use Rattle.openapi_json.specs.Writing.{arranged, ItemsAreWhole, lent, MembersAreWhole, members_data_tokens, standing}
use Rattle.openapi_json.specs.declared.write.Order.TheVariants.{ByName}
use Rattle.openapi_json.proofs.Left.{left_after, member_next}
use Rattle.openapi_json.proofs.ReadBack.{on_ok}
use Rattle.openapi_json.proofs.Sorted.{fits_in}
use Rattle.openapi_json.proofs.write.+write.Goals as goal

pub write_items-write_node-requires : goal.write_items-write_node-requires
write_items-write_node-requires t c =
    let next = next_item c.args.items.now c.loop-item.item-index c.item-item.result c.loop-item-test.true c.item-item.is in
    (omega (arith, next.within, c.decreases), tt)

pub write_standing-write_node-requires : goal.write_standing-write_node-requires
write_standing-write_node-requires t c =
    let fits = fits_in c.args.members.now c.loop-i.i (c.entry_at.result.0.now, c.entry_at.result.1.now) c.entry_at.ensures in
    (omega (arith, fits, c.decreases), tt)

pub write_standing-loop-i-preserved : goal.write_standing-loop-i-preserved
write_standing-loop-i-preserved t c =
    let ms = c.args.members.now in
    let i = c.loop-i.i in
    let e : List _ × Tree = (c.entry_at.result.0.now, c.entry_at.result.1.now) in
    let l = c.loop-i.invariant in
    record {
      written = member_next c.args.order c.loop-i.out.tokens c.key.new.self.tokens c.write_node.new.out.tokens _ (drop i ms) e
          (drop (i + 1) ms) (left_after ms i e c.entry_at.ensures) c.in_ok-key.ensures.ok
          c.in_ok-write_node.ensures.ok l.written;
      whole = λ rest. l.whole (subst (λ es. MembersAreWhole (members_of es)) (sym (left_after ms i e c.entry_at.ensures))
          (c.in_ok-write_node.ensures.whole, rest));
      before = c.in_ok-write_node.ensures.before ∙ c.in_ok-key.ensures.room.0 ∙ l.before;
    }

pub write_items-returns-clause-whole : goal.write_items-returns-clause-whole
write_items-returns-clause-whole t c =
    let end = drop_all c.loop-item.item-index c.args.items.now (omega (arith, c.loop-item-test.false)) in
    on_ok c.end_array.result (c.loop-item.invariant.whole (subst (λ ts. ItemsAreWhole (items_of ts)) (sym end) tt))

pub write_standing-returns-clause-whole : goal.write_standing-returns-clause-whole
write_standing-returns-clause-whole t c =
    let end = drop_all c.loop-i.i c.args.members.now (omega (arith, c.loop-i-test.false, c.len-i-end.ensures.len, c.loop-i.auto.i-end)) in
    on_ok c.end_object.result (c.loop-i.invariant.whole (subst (λ es. MembersAreWhole (members_of es)) (sym end) tt))

pub write_members-returns-then-may_stand-clause-ok : goal.write_members-returns-then-may_stand-clause-ok
write_members-returns-then-may_stand-clause-ok t c =
    subst (λ ms. OnOk c.write_standing.result (c.write_standing.new.out.tokens ≡ c.args.out.now.tokens ++ members_data_tokens ms))
    (sym (c.may_stand.ensures.yes c.if-may_stand.true)) c.write_standing.ensures.ok

pub write_members-returns-clause-ok : goal.write_members-returns-clause-ok
write_members-returns-clause-ok t c =
    let ms = c.args.members.now in
    let vs = into_iter_items c.into_iter-name-iterator.result in
    let by_name : c.args.order ≡ ByName = c.may_stand.ensures.no c.if-may_stand.false in
    let given : vs ≡ c.in_ok-items.items.items = c.into_iter-name-iterator.ensures.into_iter_gives.0 in
    let same : standing c.args.order (lent vs) ≡ arranged c.args.order (standing c.args.order ms) =
    subst (λ o. standing o (lent vs) ≡ arranged o (standing o ms)) (sym by_name)
    (ap (λ es. standing ByName (lent es)) given ∙ c.in_ok-items.ensures.same) in
    let old = c.args.out.now.tokens in
    let left = c.loop-name.name-iterator in
    let none = nil_from_length (into_iter_items left) (sym left.rest.ok.0 ∙ c.in-None.ensures.steps.0) in
    subst (λ ts. OnOk c.end_object.result (c.end_object.new.self.tokens ≡ ts))
    (ap (λ es. c.loop-name.out.tokens ++ members_data_tokens (standing c.args.order (lent es))) (sym none)
    ∙ c.loop-name.invariant.written ∙ ap (λ ds. old ++ members_data_tokens ds) same)
    c.end_object.ensures.ok

pub write_members-returns-clause-whole : goal.write_members-returns-clause-whole
write_members-returns-clause-whole t c =
    let vs = into_iter_items c.into_iter-name-iterator.result in
    let given : vs ≡ c.in_ok-items.items.items = c.into_iter-name-iterator.ensures.into_iter_gives.0 in
    let left = c.loop-name.name-iterator in
    let none = nil_from_length (into_iter_items left) (sym left.rest.ok.0 ∙ c.in-None.ensures.steps.0) in
    on_ok c.end_object.result (c.in_ok-items.ensures.whole (subst (λ es. MembersAreWhole (members_of (lent es))) given
    (c.loop-name.invariant.whole (subst (λ es. MembersAreWhole (members_of (lent es))) (sym none) tt))))
