use Rattle.std.proofs.Common.{map, subst}
use Rattle.openapi_json.specs.Zeros.{replaced_of}
use Rattle.openapi_faults.specs.Adds.{Adds}
use Rattle.openapi_findings.specs.Numbers.{numbers_stated}
use Rattle.openapi_findings.specs.Stated.{statement_of}
use Rattle.openapi_findings.proofs.Adding.{adds_all, adds_two}
use Rattle.openapi_findings.proofs.check.reports_of.Goals as goal

pub report_numbers-requires : goal.report_numbers-requires
report_numbers-requires c =
    adds_two statement_of c.new-reports.result.items c.report_version.new.reports.items c.report_faults.new.reports.items _ _
    c.new-reports.ensures.items c.in_ok-report_version.ensures c.in_ok-report_faults.ensures

pub returns : goal.returns
returns c =
    let numbers = subst (λ ns. Adds statement_of c.report_faults.new.reports.items c.report_numbers.new.reports.items
    (numbers_stated c.args.read.now.node (map replaced_of ns))) c.as_slice-numbers.ensures.value c.in_ok-report_numbers.ensures in
    λ j is.
    adds_all statement_of c.report_faults.new.reports.items c.report_numbers.new.reports.items c.report_dropped.new.reports.items
    c.report_references.new.reports.items c.report_repeated.new.reports.items _ _ _ _ _
    (adds_two statement_of c.new-reports.result.items c.report_version.new.reports.items c.report_faults.new.reports.items _ _
    c.new-reports.ensures.items c.in_ok-report_version.ensures c.in_ok-report_faults.ensures)
    numbers c.in_ok-report_dropped.ensures c.in_ok-report_references.ensures (c.in_ok-report_repeated.ensures j is)
