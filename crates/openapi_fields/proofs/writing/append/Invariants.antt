use Rattle.std.proofs.Common.{◌≡◌, ◌++◌}
use Rattle.openapi_map.specs.Entries.{HasDistinctNames}
use Rattle.openapi_fields.specs.Writing.{AreNew}
use Rattle.openapi_fields.proofs.writing.append.Given as goal

abbrev pub invariant-loop-name : goal.invariant-loop-name
invariant-loop-name l =
    record {
      joined : l.out ++ l.name-iterator ≡ l.initial.out ++ l.initial.name-iterator;
      distinct : HasDistinctNames l.name-iterator;
      new : AreNew l.name-iterator l.out;
    }
