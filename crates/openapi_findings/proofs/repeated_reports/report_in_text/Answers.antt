use Rattle.std.proofs.Common.{[], ◌++◌, map, sym, ap, ◌∙◌}
use Rattle.std.proofs.lemmas.List.{map-append}
use Rattle.json.specs.Value.{value_view}
use Rattle.openapi_node.specs.Fault.{step_of}
use Rattle.openapi_findings.specs.Repeated.{repeated_in}
use Rattle.openapi_findings.specs.Stated.{statement_of}
use Rattle.openapi_findings.proofs.Repeating.{one_value}
use Rattle.openapi_findings.proofs.repeated_reports.report_in_text.Goals as goal

pub returns : goal.returns
returns c =
    let j = value_view c.in-Ok.value in
    λ k is.
    ap (map statement_of) c.in_ok-append.ensures.items ∙ map-append statement_of c.args.reports.now.items c.in_ok-repeated.repeated.items
    ∙ ap (λ ss. map statement_of c.args.reports.now.items ++ ss)
    (c.in_ok-repeated.ensures.reports ∙ ap (λ p. repeated_in (map step_of p) j) c.new-place.ensures.items
    ∙ ap (repeated_in []) (sym (one_value c.args.text.now k j is c.in-Ok.ensures.ok)))
