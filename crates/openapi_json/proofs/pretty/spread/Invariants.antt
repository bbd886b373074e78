use Rattle.std.proofs.Common.{◌≡◌, ◌++◌, length}
use Rattle.openapi_json.specs.Scanned.{AreGood}
use Rattle.openapi_json.proofs.pretty.spread.Given as goal

abbrev pub invariant-tokens : goal.invariant-tokens
invariant-tokens l =
    record {
      good : AreGood l.reader;
      all : l.out ++ l.reader ≡ l.initial.reader;
    }

abbrev pub decreases-tokens : goal.decreases-tokens
decreases-tokens l = length l.reader
