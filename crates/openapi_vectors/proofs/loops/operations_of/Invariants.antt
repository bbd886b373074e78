use Rattle.std.proofs.Common.{◌≡◌, ◌++◌}
use Rattle.std.specs.Map.{values_of}
use Rattle.openapi_documents.specs.Present.{present_operations}
use Rattle.openapi_vectors.proofs.loops.operations_of.Given as goal

-- the operations so far, and those that are left
abbrev pub invariant-loop-operation : goal.invariant-loop-operation
invariant-loop-operation l =
    l.operations.items ++ values_of l.operation-iterator ≡ values_of (present_operations l.fn.path_item)
