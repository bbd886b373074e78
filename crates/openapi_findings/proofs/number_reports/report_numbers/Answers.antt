use Rattle.std.proofs.Common.{◌++◌, map, ap, ◌∙◌}
use Rattle.std.proofs.lemmas.List.{map-append}
use Rattle.std.specs.List.{flat_map}
use Rattle.openapi_json.specs.Zeros.{replaced_of}
use Rattle.openapi_faults.specs.Limited.{limited_place}
use Rattle.openapi_findings.specs.Numbers.{number_stated, places_of}
use Rattle.openapi_findings.specs.Stated.{place_in_report, statement_of}
use Rattle.openapi_findings.proofs.Adding.{report_places-same}
use Rattle.openapi_findings.proofs.number_reports.report_numbers.Goals as goal

pub returns : goal.returns
returns c =
    let old = c.args.reports.now.items in
    let more = c.in_ok-more.more.items in
    let limits = ap (map limited_place) c.as_slice.ensures.value ∙ c.in_ok-limited.ensures.places in
    let errors = ap (map place_in_report) c.as_slice-2.ensures.value ∙ report_places-same old ∙ ap places_of c.requires in
    ap (map statement_of) c.in_ok-append.ensures.items ∙ map-append statement_of old more
    ∙ ap (λ ss. map statement_of old ++ ss)
    (c.in_ok-more.ensures ∙ (λ i. flat_map (number_stated (limits i) (errors i)) (map replaced_of c.args.numbers.now)))
