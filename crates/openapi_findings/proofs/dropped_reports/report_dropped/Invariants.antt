use Rattle.std.proofs.Common.{◌≡◌, List, ◌++◌, map}
use Rattle.std.specs.Vec.Iter.{into_iter_items}
use Rattle.openapi_faults.specs.declared.dropped.Dropped.{Dropped}
use Rattle.openapi_faults.specs.Adds.{Adds}
use Rattle.openapi_findings.specs.Stated.{statement_of}
use Rattle.openapi_findings.proofs.Adding.{loss_of}
use Rattle.openapi_findings.proofs.dropped_reports.report_dropped.Given as goal

-- the statements of those so far were appended
abbrev pub invariant-loop-dropped : goal.invariant-loop-dropped
invariant-loop-dropped l =
    record {
      done : List Dropped;
      split : into_iter_items l.initial.dropped-iterator ≡ done ++ into_iter_items l.dropped-iterator;
      adds : Adds statement_of l.initial.reports.items l.reports.items (map loss_of done);
    }
