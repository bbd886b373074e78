use Rattle.std.proofs.Common.{◌≤◌, drop, length, map}
use Rattle.openapi_map.specs.Entries.{owned_entry}
use Rattle.openapi_json.proofs.Order.{IsFirst}
use Rattle.openapi_json.proofs.members.place_among.Given as goal

abbrev pub invariant-places : goal.invariant-places
invariant-places l =
    record {
      within : l.place ≤ length l.members.items;
      first : IsFirst l.name (drop l.place (map owned_entry l.members.items));
    }

abbrev pub decreases-places : goal.decreases-places
decreases-places l = l.place
