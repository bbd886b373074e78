use Rattle.std.proofs.Common.{◌≡◌, List, ◌++◌, map, String, Global}
use Rattle.openapi_map.specs.Entries.{owned_entry}
use Rattle.openapi_node.specs.Tree.{Tree}
use Rattle.openapi_json.specs.Gathered.{Ascends}
use Rattle.openapi_json.proofs.members.in_order.Given as goal

abbrev pub invariant-loop-name : goal.invariant-loop-name
invariant-loop-name l =
    record {
      done : List (String Global × Tree);
      split : l.fn.members.entries ≡ done ++ l.name-iterator;
      kept : l.out ≡ map owned_entry done;
      order : Ascends l.out;
    }
