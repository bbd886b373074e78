use Rattle.std.proofs.Common.{◌≡◌, [], ◌∷◌, ◌++◌, map, sym, ap, ◌∙◌, subst, append_assoc, append-nil, rules}
use Rattle.std.proofs.lemmas.List.{nil_from_length}
use Rattle.std.specs.Vec.Iter.{into_iter_items}
use Rattle.openapi_faults.specs.Adds.{Adds}
use Rattle.openapi_findings.specs.Stated.{statement_of}
use Rattle.openapi_findings.proofs.Adding.{adds_next, losses_state, loss_of}
use Rattle.openapi_findings.proofs.dropped_reports.report_dropped.Goals as goal

pub loop-dropped-preserved : goal.loop-dropped-preserved
loop-dropped-preserved c =
    let l = c.loop-dropped.invariant in
    let left = into_iter_items c.next.new.self in
    record {
      done = l.done ++ c.in-Some.dropped ∷ [];
      split = l.split ∙ ap (λ xs. l.done ++ xs) c.in-Some.ensures.steps.0 ∙ sym (append_assoc l.done (c.in-Some.dropped ∷ []) left);
      adds = adds_next statement_of loss_of _ _ _ l.done c.in-Some.dropped c.in_ok-report.report l.adds c.in_ok-push.ensures.items
          c.in_ok-report.ensures;
    }

pub returns : goal.returns
returns c =
    let l = c.loop-dropped.invariant in
    let left = c.loop-dropped.dropped-iterator in
    let none = nil_from_length (into_iter_items left) (sym left.rest.ok.0 ∙ c.in-None.ensures.steps.0) in
    let all : into_iter_items c.into_iter-dropped-iterator.result ≡ l.done = l.split ∙ ap (λ xs. l.done ++ xs) none ∙ append-nil l.done in
    let gives : into_iter_items c.into_iter-dropped-iterator.result ≡ c.in_ok-dropped-items.dropped-items.items = search rules in
    subst (λ ys. Adds statement_of c.args.reports.now.items c.loop-dropped.reports.items ys)
    (ap (map loss_of) (sym all ∙ gives) ∙ losses_state c.in_ok-dropped-items.dropped-items.items _ c.in_ok-dropped-items.ensures.dropped) l.adds
