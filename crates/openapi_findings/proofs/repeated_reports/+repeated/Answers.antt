use Rattle.std.proofs.Common.{◌++◌, ◌∷◌, [], map, string_bytes, sym, ap, ◌∙◌, arith}
use Rattle.std.proofs.lemmas.List.{map-append}
use Rattle.json.specs.Value.{value_view}
use Rattle.openapi_node.specs.Fault.{step_of}
use Rattle.openapi_node.specs.Place.{indexed, named}
use Rattle.openapi_json.proofs.Unheld.{popped}
use Rattle.openapi_findings.specs.Repeated.{repeated_if, repeated_in}
use Rattle.openapi_findings.specs.Stated.{statement_of}
use Rattle.openapi_findings.proofs.Repeating.{items_end, items_next, members_next}
use Rattle.openapi_findings.proofs.repeated_reports.+repeated.Goals as goal

pub reports_below-returns-clause-place : goal.reports_below-returns-clause-place
reports_below-returns-clause-place t c =
    popped _ c.reports_in.new.place.items c.pop.new.self.items c.args.place.now.items c.args.step
    (sym c.reports_in.new.place.ok.0) (c.in_ok-reports.ensures.place ∙ c.in_ok-push.ensures.items) c.pop.ensures.rest

pub reports_below-returns-clause-reports : goal.reports_below-returns-clause-reports
reports_below-returns-clause-reports t c =
    c.in_ok-reports.ensures.reports
    ∙ ap (λ p. repeated_in p (value_view c.args.value.now))
    (ap (map step_of) c.in_ok-push.ensures.items ∙ map-append step_of c.args.place.now.items (c.args.step ∷ []))

pub reports_in_items-loop-index-preserved : goal.reports_in_items-loop-index-preserved
reports_in_items-loop-index-preserved t c =
    let l = c.loop-index in
    let v = c.index-value.result.now in
    let more = c.in_ok-more in
    record {
      place = more.ensures.place ∙ l.invariant.place;
      reports = items_next (map step_of c.args.place.now.items) c.args.values.now.items l.index v l.reports.items c.append.new.self.items
          more.more.items _ (omega (arith, c.loop-index-test.true, c.len-index-end.ensures)) c.index-value.ensures c.in_ok-append.ensures.items
          (more.ensures.reports ∙ ap (λ q. repeated_in (map step_of q ++ indexed l.index ∷ []) (value_view v)) l.invariant.place)
          l.invariant.reports;
    }

pub reports_in_items-returns-clause-reports : goal.reports_in_items-returns-clause-reports
reports_in_items-returns-clause-reports t c =
    let l = c.loop-index in
    items_end (map step_of c.args.place.now.items) c.args.values.now.items l.index _ _ (omega (arith, c.loop-index-test.false))
    l.invariant.reports

pub reports_in_member-returns-clause-reports : goal.reports_in_member-returns-clause-reports
reports_in_member-returns-clause-reports t c =
    let below = map step_of c.args.place.now.items ++ named c.args.name.now ∷ [] in
    let own = c.in_ok-reports.ensures ∙ ap (λ p. repeated_if c.args.is_repeated (map step_of p ++ named c.args.name.now ∷ [])) c.as_slice.ensures.value in
    let more = c.in_ok-more.ensures.reports
    ∙ ap (λ n. repeated_in (map step_of c.args.place.now.items ++ named n ∷ []) (value_view c.args.value.now)) c.in_ok-from_str.ensures.ok in
    ap (map statement_of) c.in_ok-append.ensures.items ∙ map-append statement_of c.in_ok-reports.reports.items c.in_ok-more.more.items
    ∙ (λ i. own i ++ more i)

pub reports_in_members-loop-member-preserved : goal.reports_in_members-loop-member-preserved
reports_in_members-loop-member-preserved t c =
    let l = c.loop-member in
    let m = c.member-item.result in
    let own = c.in_ok-reports in
    record {
      place = own.ensures.place ∙ l.invariant.place;
      reports = members_next (map step_of c.args.place.now.items) c.deref-member-items.result.now l.member-index m l.found c.insert.new.self
          (string_bytes c.in_ok-name.name) own.reports c.contains_key-is_repeated.result _ c.loop-member-test.true c.member-item.is
          c.in_ok-name.ensures.ok c.contains_key-is_repeated.ensures c.in_ok-insert.ensures.entries
          (own.ensures.reports
          ∙ (λ i. repeated_if c.contains_key-is_repeated.result (map step_of (l.invariant.place i) ++ named m.0.now ∷ [])
          ++ repeated_in (map step_of (l.invariant.place i) ++ named m.0.now ∷ []) (value_view m.1)))
          l.invariant.reports;
    }
