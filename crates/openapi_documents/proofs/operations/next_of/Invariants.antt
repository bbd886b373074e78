use Rattle.std.proofs.Common.{◌≡◌, length}
use Rattle.openapi_tables.specs.Lists.{join}
use Rattle.openapi_documents.specs.AllOperations.{left_under, operations_under}
use Rattle.openapi_documents.proofs.operations.next_of.Given as goal

-- the operations that are left are those that were left before the loop
abbrev pub invariant-loop-found : goal.invariant-loop-found
invariant-loop-found l =
    join (left_under l.path.now l.under) (operations_under l.paths)
    ≡ join (left_under l.initial.path.now l.initial.under) (operations_under l.initial.paths)

abbrev pub decreases-loop-found : goal.decreases-loop-found
decreases-loop-found l = length l.paths
