use Rattle.std.proofs.Common.{◌≡◌, ◌++◌, map}
use Rattle.std.specs.Map.{keys_of}
use Rattle.openapi_documents.specs.Present.{present_operations}
use Rattle.openapi_vectors.proofs.loops.methods_of.Given as goal

-- the methods so far, and those that are left
abbrev pub invariant-loop-method : goal.invariant-loop-method
invariant-loop-method l =
    map (λ m. m.now) l.methods.items ++ keys_of l.method-iterator ≡ keys_of (present_operations l.path_item)
