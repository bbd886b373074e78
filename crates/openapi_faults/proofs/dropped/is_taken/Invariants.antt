use Rattle.std.proofs.Common.{◌≡◌, false, map, take}
use Rattle.std.specs.List.{list_any}
use Rattle.openapi_tables.specs.Kind.{takes}
use Rattle.openapi_faults.specs.Meaning.{row_of}
use Rattle.openapi_faults.proofs.dropped.is_taken.Given as goal

abbrev pub invariant-loop-row : goal.invariant-loop-row
invariant-loop-row l = list_any (λ w. takes w l.name) (map row_of (take l.row-index l.rows)) ≡ false
