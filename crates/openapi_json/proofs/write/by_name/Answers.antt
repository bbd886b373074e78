use Rattle.std.proofs.Common.{◌≡◌, ◌∷◌, [], ◌++◌, subst, sym, ap, ◌∙◌, arith, rules}
use Rattle.std.proofs.lemmas.List.{map-append, take_all}
use Rattle.std.proofs.lemmas.List.Sorted.{IsPermutation-map, answers_always}
use Rattle.std.specs.List.Sorted.{IsPermutation}
use Rattle.openapi_node.proofs.TreeLemmas.{take_next}
use Rattle.openapi_json.specs.Writing.{lent}
use Rattle.openapi_json.specs.declared.write.Order.TheVariants.{ByName}
use Rattle.openapi_json.proofs.Shuffled.{data_still, distinct_still, fit_still, lent_ascends, whole_before}
use Rattle.openapi_json.proofs.Sorted.{stand}
use Rattle.openapi_json.proofs.write.by_name.Goals as goal

pub loop-i-preserved : goal.loop-i-preserved
loop-i-preserved c =
    let ms = c.args.members.now in
    let e = c.entry_at.result in
    ap lent c.push_reserved.ensures.items ∙ map-append (λ x. (x.0.now, x.1.now)) c.loop-i.sorted.items (e ∷ [])
    ∙ ap (λ l. l ++ (e.0.now, e.1.now) ∷ []) c.loop-i.invariant
    ∙ sym (take_next ms c.loop-i.i (e.0.now, e.1.now) c.entry_at.ensures)

pub returns : goal.returns
returns c =
    let ms = c.args.members.now in
    let vs = c.sort_unstable_by_key.new.self.items in
    let all : lent c.loop-i.sorted.items ≡ ms =
    c.loop-i.invariant ∙ take_all c.loop-i.i ms (omega (arith, c.loop-i-test.false, c.len-i-end.ensures.len)) in
    let moved : IsPermutation ms (lent vs) =
    subst (λ l. IsPermutation l (lent vs)) all
    (IsPermutation-map (λ x. (x.0.now, x.1.now)) c.loop-i.sorted.items vs c.sort_unstable_by_key.ensures.permutation) in
    let distinct = c.len-i-end.ensures.distinct in
    let sorted = c.sort_unstable_by_key.ensures.sorted (λ e. e.0) (answers_always _ _ _ (λ f a r g h. search rules)) in
    record {
      same = sym (data_still ms (lent vs) moved distinct
          ∙ stand ByName (lent vs) (lent_ascends vs (distinct_still ms (lent vs) moved distinct) sorted));
      fit = fit_still ms (lent vs) moved;
      whole = whole_before ms (lent vs) moved;
    }
