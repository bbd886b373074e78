use Rattle.std.proofs.Common.{◌≡◌, List, ◌++◌, map}
use Rattle.std.specs.Vec.Iter.{into_iter_items}
use Rattle.openapi_node.specs.declared.fault.Fault.{Fault}
use Rattle.openapi_faults.specs.Adds.{Adds}
use Rattle.openapi_findings.specs.Stated.{statement_of}
use Rattle.openapi_findings.proofs.Adding.{stated_of}
use Rattle.openapi_findings.proofs.fault_reports.report_faults.Given as goal

-- the statements of those so far were appended
abbrev pub invariant-loop-fault : goal.invariant-loop-fault
invariant-loop-fault l =
    record {
      done : List Fault;
      split : into_iter_items l.initial.fault-iterator ≡ done ++ into_iter_items l.fault-iterator;
      adds : Adds statement_of l.initial.reports.items l.reports.items (map stated_of done);
    }
