use Rattle.std.proofs.Common.{◌≡◌, false, map, take}
use Rattle.std.specs.List.{list_any}
use Rattle.openapi_node.specs.Tree.{members_of}
use Rattle.openapi_tables.specs.Tree.{members_list}
use Rattle.openapi_faults.specs.Dropped.{takes_second}
use Rattle.openapi_faults.specs.Meaning.{row_of}
use Rattle.openapi_faults.proofs.dropped.has_second.Given as goal

abbrev pub invariant-loop-row : goal.invariant-loop-row
invariant-loop-row l =
    list_any (takes_second (members_list (members_of l.members)) l.name) (map row_of (take l.row-index l.rows)) ≡ false
