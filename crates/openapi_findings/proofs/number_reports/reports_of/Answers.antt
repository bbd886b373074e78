use Rattle.std.proofs.Common.{◌≡◌, IfOk, List, map, ap, ◌∙◌, subst}
use Rattle.std.specs.Borrow.{Bor}
use Rattle.std.specs.List.{flat_map}
use Rattle.openapi_json.specs.Zeros.{replaced_of}
use Rattle.openapi_node.specs.Fault.{step_of}
use Rattle.openapi_node.specs.declared.fault.PlaceStep.{PlaceStep}
use Rattle.openapi_findings.specs.Numbers.{number_stated}
use Rattle.openapi_findings.specs.Stated.{place_in_report, statement_of}
use Rattle.openapi_findings.proofs.number_reports.reports_of.Goals as goal

pub returns : goal.returns
returns c =
    let place = λ (p : Bor (List PlaceStep)). map step_of p.now in
    let limits = ap (map place) c.as_slice-3.ensures.value ∙ c.in_ok-limit_places.ensures in
    let errors = ap (map place) c.as_slice-4.ensures.value ∙ c.in_ok-error_places.ensures in
    subst (λ ps. IfOk c.reports_by.result (λ v. map statement_of v.items
    ≡ flat_map (number_stated ps (map place_in_report c.args.errors.now)) (map replaced_of c.args.numbers.now))) limits
    (subst (λ ps. IfOk c.reports_by.result (λ v. map statement_of v.items
    ≡ flat_map (number_stated (map place c.as_slice-3.result.now) ps) (map replaced_of c.args.numbers.now))) errors
    c.reports_by.ensures)
