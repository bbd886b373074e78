use Rattle.std.proofs.Common.{take}
use Rattle.openapi_map.specs.Entries.{names_of}
use Rattle.openapi_map.specs.Index.{AreMarked}
use Rattle.openapi_map.proofs.lookup.marks_of.Given as goal

abbrev pub invariant-loop-name : goal.invariant-loop-name
invariant-loop-name l = AreMarked (take l.name-index (names_of l.names.items)) l.marks
