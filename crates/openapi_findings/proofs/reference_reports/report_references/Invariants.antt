use Rattle.std.proofs.Common.{◌≡◌, List, ◌++◌}
use Rattle.std.specs.Vec.Iter.{into_iter_items}
use Rattle.openapi_tables.specs.Lists.{each, flat}
use Rattle.openapi_faults.specs.Adds.{Adds}
use Rattle.openapi_faults.specs.declared.reference.Reference.{Reference}
use Rattle.openapi_findings.specs.Stated.{statement_of}
use Rattle.openapi_findings.proofs.Adding.{stated_at}
use Rattle.openapi_findings.proofs.reference_reports.report_references.Given as goal

-- what is to be reported about the references so far was appended
abbrev pub invariant-loop-reference : goal.invariant-loop-reference
invariant-loop-reference l =
    record {
      done : List Reference;
      split : into_iter_items l.initial.reference-iterator ≡ done ++ into_iter_items l.reference-iterator;
      adds : Adds statement_of l.initial.reports.items l.reports.items (flat (each (stated_at l.document) done));
    }
