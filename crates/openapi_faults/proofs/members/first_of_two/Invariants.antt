use Rattle.std.proofs.Common.{◌≡◌, take, []}
use Rattle.openapi_fields.specs.Entries.{chosen}
use Rattle.openapi_fields.specs.Forms.{is_either}
use Rattle.openapi_faults.proofs.members.first_of_two.Given as goal

abbrev pub invariant-loop-i : goal.invariant-loop-i
invariant-loop-i l =
    record { none : chosen (is_either l.first l.second) (take l.i l.members) ≡ [] }
