use Rattle.std.proofs.Common.{◌≡◌, [], ◌∷◌, ◌++◌, sym, ap, ◌∙◌, subst, append_assoc, append-nil, refl, rules}
use Rattle.std.proofs.lemmas.List.{nil_from_length}
use Rattle.std.specs.Vec.Iter.{into_iter_items}
use Rattle.openapi_tables.specs.Lists.{each, flat}
use Rattle.openapi_faults.specs.Adds.{Adds}
use Rattle.openapi_findings.specs.Pointers.{leads_to_value}
use Rattle.openapi_findings.specs.Stated.{statement_of}
use Rattle.openapi_findings.proofs.Adding.{adds_none, adds_resolved, adds_stated, adds_unresolved, references_state, stated_at}
use Rattle.openapi_findings.proofs.reference_reports.report_references.Goals as goal

pub loop-reference-init : goal.loop-reference-init
loop-reference-init c = record { done = []; split = refl; adds = adds_none statement_of _ }

pub loop-reference-preserved : goal.loop-reference-preserved
loop-reference-preserved c =
    let l = c.loop-reference.invariant in
    let r = c.in-Some.reference in
    let left = into_iter_items c.next.new.self in
    let t = c.args.document.now in
    record {
      done = l.done ++ r ∷ [];
      split = l.split ∙ ap (λ rs. l.done ++ rs) c.in-Some.ensures.steps.0 ∙ sym (append_assoc l.done (r ∷ []) left);
      adds = adds_stated t _ _ _ l.done r l.adds (adds_resolved t r _ _ (c.in_ok-leads_to_value.ensures ∙ ap (λ n. leads_to_value n t) c.as_str.ensures.value)
          c.if-not-branch.false);
    }

pub loop-reference-preserved-in_ok-push : goal.loop-reference-preserved-in_ok-push
loop-reference-preserved-in_ok-push c =
    let l = c.loop-reference.invariant in
    let r = c.in-Some.reference in
    let left = into_iter_items c.next.new.self in
    let t = c.args.document.now in
    record {
      done = l.done ++ r ∷ [];
      split = l.split ∙ ap (λ rs. l.done ++ rs) c.in-Some.ensures.steps.0 ∙ sym (append_assoc l.done (r ∷ []) left);
      adds = adds_stated t _ _ _ l.done r l.adds
          (adds_unresolved t r _ _ c.in_ok-report.report _ (c.in_ok-leads_to_value.ensures ∙ ap (λ n. leads_to_value n t) c.as_str.ensures.value)
          c.if-not-branch.true
          c.in_ok-push.ensures.items c.in_ok-report.ensures);
    }

pub returns : goal.returns
returns c =
    let l = c.loop-reference.invariant in
    let left = c.loop-reference.reference-iterator in
    let none = nil_from_length (into_iter_items left) (sym left.rest.ok.0 ∙ c.in-None.ensures.steps.0) in
    let all : into_iter_items c.into_iter-reference-iterator.result ≡ l.done = l.split ∙ ap (λ rs. l.done ++ rs) none ∙ append-nil l.done in
    let gives : into_iter_items c.into_iter-reference-iterator.result ≡ c.in_ok-reference-items.reference-items.items = search rules in
    let t = c.args.document.now in
    subst (λ ys. Adds statement_of c.args.reports.now.items c.loop-reference.reports.items ys)
    (ap (λ rs. flat (each (stated_at t) rs)) (sym all ∙ gives)
    ∙ references_state t c.in_ok-reference-items.reference-items.items _ c.in_ok-reference-items.ensures.references)
    l.adds
