use Rattle.std.proofs.Common.{◌≡◌, All, List, ◌++◌, length, map}
use Rattle.std.specs.Vec.Iter.{into_iter_items}
use Rattle.openapi_findings.specs.Findings.{IsPlaced, finds, found}
use Rattle.openapi_findings.specs.Stated.{statement_of}
use Rattle.openapi_findings.specs.declared.report.Report.{Report}
use Rattle.openapi_findings.proofs.check.placed.Given as goal

-- the findings so far are the reports so far, at their positions
abbrev pub invariant-loop-report : goal.invariant-loop-report
invariant-loop-report l =
    record {
      done : List Report;
      split : l.fn.reports.items ≡ done ++ into_iter_items l.report-iterator;
      count : l.i ≡ length done;
      finds : map finds l.findings.items ≡ map (λ r. found (statement_of r)) done;
      placed : All (IsPlaced l.bytes) l.findings.items;
    }
