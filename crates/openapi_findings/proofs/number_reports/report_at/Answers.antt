use Rattle.std.proofs.Common.{◌≡◌, IfOk, is_some, map, option_to_list, ap, ◌∙◌, subst}
use Rattle.openapi_node.specs.Fault.{step_of}
use Rattle.openapi_findings.specs.Numbers.{is_among, places_in, stated_by}
use Rattle.openapi_findings.specs.Stated.{statement_of}
use Rattle.openapi_findings.proofs.number_reports.report_at.Goals as goal

pub returns : goal.returns
returns c =
    let p = map step_of c.args.number.now.place.items in
    let limits = places_in c.args.limits.now in
    let wrong = places_in c.args.wrong.now in
    let at = ap (map step_of) c.as_slice-place.ensures.value in
    let limited : is_some c.in_ok-limit.limit ≡ is_among p limits =
    c.in_ok-limit.ensures c.requires.limits ∙ ap (λ q. is_among q limits) at in
    let failed : c.is_some.result ≡ is_among p wrong =
    c.is_some.ensures ∙ c.in_ok-error.ensures c.requires.wrong ∙ ap (λ q. is_among q wrong) at in
    subst (λ b. IfOk c.report_by.result (λ o. map statement_of (option_to_list o) ≡ stated_by b (is_among p wrong) p)) limited
    (subst (λ b. IfOk c.report_by.result (λ o. map statement_of (option_to_list o) ≡ stated_by (is_some c.in_ok-limit.limit) b p)) failed
    c.report_by.ensures)
