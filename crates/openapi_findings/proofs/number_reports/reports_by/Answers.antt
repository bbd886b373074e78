use Rattle.std.proofs.Common.{◌++◌, map, option_to_list, ap, ◌∙◌, arith}
use Rattle.std.proofs.lemmas.List.{map-append}
use Rattle.openapi_json.specs.Zeros.{replaced_of}
use Rattle.openapi_findings.specs.Numbers.{number_stated, places_in}
use Rattle.openapi_findings.specs.Stated.{statement_of}
use Rattle.openapi_findings.proofs.Looking.{flat_end, flat_next}
use Rattle.openapi_findings.proofs.number_reports.reports_by.Goals as goal

pub loop-number-preserved : goal.loop-number-preserved
loop-number-preserved c =
    let l = c.loop-number in
    let stated = number_stated (places_in c.args.limits.now) (places_in c.args.wrong.now) in
    let old = map statement_of l.reports.items in
    flat_next replaced_of stated c.args.numbers.now _ l.number-index c.number-item.result old (map statement_of c.push_if.new.reports.items)
    c.loop-number-test.true
    (ap (map statement_of) c.in_ok-push_if.ensures
    ∙ map-append statement_of l.reports.items (option_to_list c.in_ok-report.report)
    ∙ ap (λ ss. old ++ ss) c.in_ok-report.ensures ∙ ap (λ n. old ++ stated (replaced_of n)) c.number-item.is)
    l.invariant

pub returns : goal.returns
returns c =
    let l = c.loop-number in
    flat_end replaced_of (number_stated (places_in c.args.limits.now) (places_in c.args.wrong.now)) c.args.numbers.now _ l.number-index
    (map statement_of l.reports.items) (omega (arith, c.loop-number-test.false)) l.invariant
