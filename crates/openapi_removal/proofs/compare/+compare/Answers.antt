use Rattle.std.proofs.Common.{◌≡◌, ◌+◌, ◌-◌, ◌<◌, suc, true, Some, None, length, drop, sym, ap, ◌∙◌, arith, rules}
use Rattle.json.specs.Value.{members_view, value_view}
use Rattle.openapi_removal.specs.Below.{grouped, places_of}
use Rattle.openapi_removal.specs.Plans.{plan, planned}
use Rattle.openapi_removal.specs.Without.{json_without}
use Rattle.openapi_removal.proofs.Comparing.{next_kept, next_removed, plan_at, there}
use Rattle.openapi_removal.proofs.compare.+compare.Goals as goal

pub members_are_without-loop-left-preserved-else-not-branch : goal.members_are_without-loop-left-preserved-else-not-branch
members_are_without-loop-left-preserved-else-not-branch t c =
    let ps = places_of c.args.places.now in
    let ms = c.args.members.now.items in
    let fs = c.args.found.now.items in
    let m = c.index-in-Some.result.now in
    let f = c.index-in-Some-2.result.now in
    let l = c.loop-left.left in
    let r = c.loop-left.rest in
    let next : l ≡ l - 1 + 1 = omega arith in
    let up : suc (l - 1) ≡ l = omega arith in
    let more : r ≡ r - 1 + 1 = omega arith in
    let within : l - 1 < length ms = omega (arith, c.loop-left.invariant.within) in
    let found : r - 1 < length fs = omega (arith, c.loop-left.invariant.rest) in
    let kept : Some (grouped c.in-Some.inside) ≡ plan ps m.0.now (members_view (drop l ms)) =
    sym (ap planned c.in-Some.is)
    ∙ plan_at ps ms c.in_ok-plans.plans.items (l - 1) m c.index.result.now c.in_ok-plans.ensures.plans within c.index-in-Some.ensures c.index.ensures
    ∙ ap (λ k. plan ps m.0.now (members_view (drop k ms))) up in
    let same : f.0.now ≡ m.0.now = search rules in
    let is : c.in_ok-is_without.field-0 ≡ true = search rules in
    record {
      same = next_kept ps ms fs (l - 1) l (r - 1) r m f (grouped c.in-Some.inside) next within c.index-in-Some.ensures more found
          c.index-in-Some-2.ensures kept same
          (c.in_ok-is_without.ensures is ∙ ap (λ xs. json_without (places_of xs) (value_view m.1)) c.as_slice.ensures.value)
          c.loop-left.invariant.same;
      within = omega (arith, within);
      rest = omega (arith, found);
    }

pub members_are_without-loop-left-preserved : goal.members_are_without-loop-left-preserved
members_are_without-loop-left-preserved t c =
    let ps = places_of c.args.places.now in
    let ms = c.args.members.now.items in
    let fs = c.args.found.now.items in
    let l = c.loop-left.left in
    let next : l ≡ l - 1 + 1 = omega arith in
    let up : suc (l - 1) ≡ l = omega arith in
    let within : l - 1 < length ms = omega (arith, c.loop-left.invariant.within) in
    let m = there ms (l - 1) within in
    let gone : None ≡ plan ps m.0.0.now (members_view (drop l ms)) =
    sym (ap planned c.in_default.is)
    ∙ plan_at ps ms c.in_ok-plans.plans.items (l - 1) m.0 c.index.result.now c.in_ok-plans.ensures.plans within m.1 c.index.ensures
    ∙ ap (λ k. plan ps m.0.0.now (members_view (drop k ms))) up in
    record {
      same = next_removed ps ms fs (l - 1) l c.loop-left.rest m.0 next within m.1 gone c.loop-left.invariant.same;
      within = omega (arith, within);
      rest = c.loop-left.invariant.rest;
    }
