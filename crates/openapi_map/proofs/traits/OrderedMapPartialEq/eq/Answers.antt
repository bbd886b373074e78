use Rattle.std.proofs.Common.{◌≡◌, ℕ, List, Bool, true, false, not, Some, Bor, refl, sym, ap, subst, ◌∙◌, arith}
use Rattle.std.proofs.Common.{true≢false}
use Rattle.std.proofs.lemmas.Map.Iter.{hash_map_turn, iter_end}
use Rattle.std.specs.Cmp.Lexicographic.{nat_list_eq_equiv}
use Rattle.std.specs.Map.Iter.{deref_pair}
use Rattle.std.specs.Option.{option_eq}
use Rattle.openapi_map.specs.Equality.{as_map}
use Rattle.openapi_map.proofs.EqualityLemmas.{AllAgree, AllAgree-next, unequal-at, unequal-length, equal-by_names}
use Rattle.openapi_map.proofs.traits.OrderedMapPartialEq.eq.Goals as goal

not-true : (b : Bool) → not b ≡ true → b ≡ false
not-true true h = absurd (true≢false (sym h))
not-true false h = refl

not-false : (b : Bool) → not b ≡ false → b ≡ true
not-false true h = refl
not-false false h = absurd (true≢false h)

pub returns-then-len : goal.returns-then-len
returns-then-len g c =
    unequal-length g.V.PartialEq.eq c.args.self.now c.args.other.now c.len.ensures.distinct c.len-2.ensures.distinct
    (λ same. c.if-len.true (c.len.ensures.len ∙ same ∙ sym c.len-2.ensures.len))

pub returns-then-ne : goal.returns-then-ne
returns-then-ne g c =
    let x : Bor (List ℕ) × Bor g.row.V.Denot = (c.in-Some.name, c.in-Some.value) in
    let turn = hash_map_turn deref_pair c.loop-name.yielded _ _ _ _ x c.loop-name.yielded_by c.in-Some.is
    c.next.ensures.steps nat_list_eq_equiv (as_map c.args.self.now) c.into_iter-name-iterator.ensures.into_iter_gives.0
    c.len.ensures.distinct in
    unequal-at g.V.PartialEq.eq c.args.self.now c.args.other.now x.0.now
    ((λ i. option_eq g.V.PartialEq.eq (turn.1 i) (sym c.in-Some-get.ensures i))
    ∙ not-true _ (sym c.ne.ensures ∙ c.if-ne.true))

pub returns-in-None-get : goal.returns-in-None-get
returns-in-None-get g c =
    let x : Bor (List ℕ) × Bor g.row.V.Denot = (c.in-Some.name, c.in-Some.value) in
    let turn = hash_map_turn deref_pair c.loop-name.yielded _ _ _ _ x c.loop-name.yielded_by c.in-Some.is
    c.next.ensures.steps nat_list_eq_equiv (as_map c.args.self.now) c.into_iter-name-iterator.ensures.into_iter_gives.0
    c.len.ensures.distinct in
    unequal-at g.V.PartialEq.eq c.args.self.now c.args.other.now x.0.now
    (λ i. option_eq g.V.PartialEq.eq (turn.1 i) (sym c.in-None-get.ensures i))

pub returns : goal.returns
returns g c =
    let E = g.V.PartialEq.eq in
    let whole = iter_end deref_pair c.args.self.now c.loop-name.yielded _ _ _ _
    c.into_iter-name-iterator.ensures.into_iter_gives.0 c.loop-name.yielded_by c.in-None.is c.next.ensures.steps in
    equal-by_names E c.args.self.now c.args.other.now c.len.ensures.distinct
    (subst (AllAgree E c.args.other.now) whole.0 c.loop-name.invariant)
    (omega (arith, c.if-len.false, c.len.ensures.len, c.len-2.ensures.len))

pub loop-name-preserved : goal.loop-name-preserved
loop-name-preserved g c =
    let E = g.V.PartialEq.eq in
    AllAgree-next E c.args.other.now c.loop-name.yielded (c.in-Some.name, c.in-Some.value) c.loop-name.invariant
    (ap (option_eq E (Some c.in-Some.value.now)) (sym c.in-Some-get.ensures)
    ∙ not-false _ (sym c.ne.ensures ∙ c.if-ne.false))
