use Rattle.std.proofs.Common.{◌≡◌, ◌↔◌, ℕ, ◌<◌, List, IsTrue, true, false, refl, sym, ap, subst, ◌∙◌, true≢false, arith}
use Rattle.std.proofs.Common.{length, take, map}
use Rattle.std.proofs.lemmas.List.{take_all}
use Rattle.serde_json.specs.Data as json
use Rattle.serde_json.specs.View.{items_of as view_items_of}
use Rattle.openapi_node.specs.Json.{data_of}
use Rattle.openapi_node.specs.Tree.{Tree}
use Rattle.openapi_node.proofs.EqualLemmas.{same_length, same_item, AreFoundIn, AreFoundIn-push, equal_members, as_many}
use Rattle.openapi_node.proofs.EqualLemmas.{found_from_equal, same_found}
use Rattle.openapi_node.proofs.DataOrder.{not_both}
use Rattle.openapi_node.proofs.JsonLemmas.{items_data-items_of}
use Rattle.openapi_node.proofs.TreeLemmas.{next_item, next_member, take_next}
use Rattle.openapi_node.proofs.equal.+equal.Goals as goal

told_apart : {P : Type 0} → (P → ⊥) → IsTrue false ↔ P
told_apart apart = (λ h. absurd (true≢false (sym h)), λ p. absurd (apart p))

told_same : {P : Type 0} → P → IsTrue true ↔ P
told_same p = (λ h. p, λ h. refl)

pub equal_items-returns-then-len : goal.equal_items-returns-then-len
equal_items-returns-then-len t c =
    told_apart (λ same. c.if-len.true (omega (arith, c.len.ensures, c.len-2.ensures, same_length _ _ same)))

pub equal_items-equal_nodes-requires : goal.equal_items-equal_nodes-requires
equal_items-equal_nodes-requires t c =
    let within : c.loop-i.i < length c.args.items.now.items = omega (arith, c.loop-i-test.true, c.len-i-end.ensures) in
    let next = next_item c.args.items.now.items c.loop-i.i c.index.result.now within c.index.ensures in
    (omega (arith, next.within, c.decreases), tt)

pub equal_items-returns-then-not-equal_nodes : goal.equal_items-returns-then-not-equal_nodes
equal_items-returns-then-not-equal_nodes t c =
    told_apart (λ same. true≢false (sym (c.equal_nodes.ensures.1
    (same_item _ _ same c.loop-i.i _ _ (omega (arith, c.loop-i-test.true, c.len-i-end.ensures))
    c.index.ensures c.index-in-loop-i.ensures))
    ∙ c.if-not-equal_nodes.true))

pub equal_items-returns : goal.equal_items-returns
equal_items-returns t c =
    let items = c.args.items.now.items in
    let others = c.args.others.now.items in
    let i = c.loop-i.i in
    let all : take i items ≡ items = take_all i items (omega (arith, c.loop-i-test.false, c.len-i-end.ensures)) in
    let rest : take i others ≡ others =
    take_all i others (omega
    (arith, c.loop-i-test.false, c.len-i-end.ensures, c.if-len.false, c.len.ensures, c.len-2.ensures)) in
    let each : map data_of items ≡ map data_of others = ap (map data_of) (sym all) ∙ c.loop-i.invariant
    ∙ ap (map data_of) rest in
    told_same (ap json.array (sym (items_data-items_of items) ∙ ap view_items_of each ∙ items_data-items_of others))

pub equal_members-returns-then-len : goal.equal_members-returns-then-len
equal_members-returns-then-len t c =
    told_apart (λ same. c.if-len.true (omega (
      arith,
      c.len.ensures.len,
      c.len-2.ensures.len,
      as_many _ _ c.len.ensures.distinct c.len-2.ensures.distinct same,
    )))

pub equal_members-returns-in_default : goal.equal_members-returns-in_default
equal_members-returns-in_default t c =
    let m : List ℕ × Tree = (c.entry_at.result.0.now, c.entry_at.result.1.now) in
    told_apart (λ same.
    let found = found_from_equal _ _ c.len.ensures.distinct c.len-2.ensures.distinct same c.loop-i.i m
    c.entry_at.ensures in
    not_both (sym c.in_default.ensures) found.there)

pub equal_members-equal_nodes-requires : goal.equal_members-equal_nodes-requires
equal_members-equal_nodes-requires t c =
    let next = next_member c.args.members.now c.loop-i.i (c.entry_at.result.0.now, c.entry_at.result.1.now)
    c.entry_at.ensures in
    (omega (arith, next.within, c.decreases), tt)

pub equal_members-returns-then-not-equal_nodes : goal.equal_members-returns-then-not-equal_nodes
equal_members-returns-then-not-equal_nodes t c =
    let m : List ℕ × Tree = (c.entry_at.result.0.now, c.entry_at.result.1.now) in
    told_apart (λ same.
    let found = found_from_equal _ _ c.len.ensures.distinct c.len-2.ensures.distinct same c.loop-i.i m
    c.entry_at.ensures in
    true≢false (sym (c.equal_nodes.ensures.1 (same_found _ m _ found c.in-Some.ensures))
    ∙ c.if-not-equal_nodes.true))

pub equal_members-loop-i-preserved : goal.equal_members-loop-i-preserved
equal_members-loop-i-preserved t c =
    let others = c.args.others.now in
    let m : List ℕ × Tree = (c.entry_at.result.0.now, c.entry_at.result.1.now) in
    subst (AreFoundIn others) (sym (take_next c.args.members.now c.loop-i.i m c.entry_at.ensures))
    (AreFoundIn-push others _ m c.loop-i.invariant (record {
      found = c.in-Some.other.now;
      there = sym c.in-Some.ensures;
      same = c.equal_nodes.ensures.0 c.if-not-equal_nodes.false;
    }))

pub equal_members-returns : goal.equal_members-returns
equal_members-returns t c =
    let members = c.args.members.now in
    let others = c.args.others.now in
    let i = c.loop-i.i in
    let all : take i members ≡ members =
    take_all i members (omega (arith, c.loop-i-test.false, c.len-i-end.ensures.len)) in
    let same_len : length members ≡ length others =
    omega (arith, c.if-len.false, c.len.ensures.len, c.len-2.ensures.len) in
    told_same (equal_members members others c.len.ensures.distinct c.len-2.ensures.distinct same_len
    (subst (AreFoundIn others) all c.loop-i.invariant))
