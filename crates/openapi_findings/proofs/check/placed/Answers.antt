use Rattle.std.proofs.Common.{◌≡◌, ◌+◌, ◌<◌, [], ◌∷◌, ◌++◌, length, map, sym, ap, ◌∙◌, subst, append_assoc, append-nil}
use Rattle.std.proofs.lemmas.List.{length_push, nil_from_length}
use Rattle.std.proofs.lemmas.List.Elements.{All-push, All-same}
use Rattle.std.specs.Vec.Iter.{into_iter_items}
use Rattle.openapi_findings.specs.Findings.{IsPlaced}
use Rattle.openapi_findings.proofs.Placing.{finds_next, in_slices, next_placed, next_within, states}
use Rattle.openapi_findings.proofs.check.placed.Goals as goal

pub bounds-positions-i : goal.bounds-positions-i
bounds-positions-i c =
    let l = c.loop-report.invariant in
    let ps = c.as_slice-positions.result.now in
    let split = l.split ∙ ap (λ rs. l.done ++ rs) c.in-Some.ensures.steps.0 in
    let all = in_slices c.args.bytes.now c.args.reports.items c.as_slice.result.now c.in_ok-found.found.items ps c.as_slice.ensures.value
    c.as_slice-positions.ensures.value c.in_ok-found.ensures in
    subst (λ n. n < length ps) (sym l.count)
    (next_within c.args.bytes.now c.args.reports.items l.done (into_iter_items c.next.new.self) c.in-Some.report ps split all)

pub loop-report-preserved : goal.loop-report-preserved
loop-report-preserved c =
    let l = c.loop-report.invariant in
    let r = c.in-Some.report in
    let f = c.at-finding.result in
    let ps = c.as_slice-positions.result.now in
    let left = into_iter_items c.next.new.self in
    let split = l.split ∙ ap (λ rs. l.done ++ rs) c.in-Some.ensures.steps.0 in
    let all = in_slices c.args.bytes.now c.args.reports.items c.as_slice.result.now c.in_ok-found.found.items ps c.as_slice.ensures.value
    c.as_slice-positions.ensures.value c.in_ok-found.ensures in
    let is = next_placed c.args.bytes.now c.args.reports.items l.done left r ps f c.loop-report.i _ split all l.count
    c.at-finding.ensures.finds c.at-finding.ensures.position in
    record {
      done = l.done ++ r ∷ [];
      split = split ∙ sym (append_assoc l.done (r ∷ []) left);
      count = ap (λ n. n + 1) l.count ∙ sym (length_push l.done r);
      finds = finds_next _ _ f l.done r c.in_ok-push.ensures.items l.finds c.at-finding.ensures.finds;
      placed = All-same (IsPlaced c.args.bytes.now) _ _ c.in_ok-push.ensures.items (All-push (IsPlaced c.args.bytes.now) _ f l.placed is);
    }

pub returns : goal.returns
returns c =
    let l = c.loop-report.invariant in
    let left = c.loop-report.report-iterator in
    let none = nil_from_length (into_iter_items left) (sym left.rest.ok.0 ∙ c.in-None.ensures.steps.0) in
    let all : c.args.reports.items ≡ l.done = l.split ∙ ap (λ rs. l.done ++ rs) none ∙ append-nil l.done in
    record { finds = l.finds ∙ ap (map states) (sym all); placed = l.placed }
