use Rattle.std.proofs.Common.{◌≡◌, [], ◌∷◌, ◌++◌, map, sym, ap, ◌∙◌, subst, append_assoc, append-nil, rules}
use Rattle.std.proofs.lemmas.List.{nil_from_length}
use Rattle.std.specs.Vec.Iter.{into_iter_items}
use Rattle.openapi_faults.specs.Adds.{Adds}
use Rattle.openapi_findings.specs.Stated.{statement_of}
use Rattle.openapi_findings.proofs.Adding.{adds_next, faults_state, stated_of}
use Rattle.openapi_findings.proofs.fault_reports.report_faults.Goals as goal

pub loop-fault-preserved : goal.loop-fault-preserved
loop-fault-preserved c =
    let l = c.loop-fault.invariant in
    let left = into_iter_items c.next.new.self in
    record {
      done = l.done ++ c.in-Some.fault ∷ [];
      split = l.split ∙ ap (λ xs. l.done ++ xs) c.in-Some.ensures.steps.0 ∙ sym (append_assoc l.done (c.in-Some.fault ∷ []) left);
      adds = adds_next statement_of stated_of _ _ _ l.done c.in-Some.fault c.in_ok-report.report l.adds c.in_ok-push.ensures.items
          c.in_ok-report.ensures;
    }

pub returns : goal.returns
returns c =
    let l = c.loop-fault.invariant in
    let left = c.loop-fault.fault-iterator in
    let none = nil_from_length (into_iter_items left) (sym left.rest.ok.0 ∙ c.in-None.ensures.steps.0) in
    let all : into_iter_items c.into_iter-fault-iterator.result ≡ l.done = l.split ∙ ap (λ xs. l.done ++ xs) none ∙ append-nil l.done in
    let gives : into_iter_items c.into_iter-fault-iterator.result ≡ c.in_ok-fault-items.fault-items.items = search rules in
    subst (λ ys. Adds statement_of c.args.reports.now.items c.loop-fault.reports.items ys)
    (ap (map stated_of) (sym all ∙ gives) ∙ faults_state c.in_ok-fault-items.fault-items.items _ c.in_ok-fault-items.ensures.told) l.adds
