use Rattle.std.proofs.Common.{map, take}
use Rattle.openapi_node.specs.Tree.{members_of}
use Rattle.openapi_tables.specs.Faults.{row_misses}
use Rattle.openapi_tables.specs.Lists.{each, flat}
use Rattle.openapi_tables.specs.Tree.{members_list}
use Rattle.openapi_faults.specs.Adds.{Adds}
use Rattle.openapi_faults.specs.Meaning.{row_of}
use Rattle.openapi_faults.specs.Told.{at, fault_in}
use Rattle.openapi_faults.specs.Walk.{step_of}
use Rattle.openapi_faults.proofs.fault.Finder.report_rows.Given as goal

-- the causes of the rows so far were appended
abbrev pub invariant-loop-row : goal.invariant-loop-row
invariant-loop-row l =
    Adds fault_in l.initial.self.found.items l.self.found.items
    (at (map step_of l.place) (flat (each (row_misses (members_list (members_of l.members))) (map row_of (take l.row-index l.rows)))))
