use Rattle.std.proofs.Common.{◌≡◌, ◌++◌, map}
use Rattle.openapi_findings.specs.Repeated.{of_all, stated_of_entry}
use Rattle.openapi_findings.specs.Stated.{statement_of}
use Rattle.openapi_findings.proofs.repeated_reports.all_reports.Given as goal

-- the reports so far, with those of the entries that are left, are those of all
abbrev pub invariant-loop-reports : goal.invariant-loop-reports
invariant-loop-reports l =
    map statement_of l.all.items ++ of_all (map stated_of_entry l.reports-iterator)
    ≡ of_all (map stated_of_entry l.initial.reports-iterator)
