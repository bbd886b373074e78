use Rattle.std.proofs.Common.{◌≡◌, All, None, length}
use Rattle.openapi_json.proofs.batch.no_positions.Given as goal

abbrev pub invariant-loop : goal.invariant-loop
invariant-loop l =
    record {
      length : length l.entries.items ≡ l.counter;
      none : All (λ o. o ≡ None) l.entries.items;
    }
