use Rattle.std.proofs.Common.{◌≡◌, List, ◌++◌, map, String, Global}
use Rattle.std.specs.Vec.Iter.{into_iter_items}
use Rattle.openapi_map.specs.Entries.{owned_entry}
use Rattle.openapi_node.specs.Tree.{Tree}
use Rattle.openapi_json.proofs.members.few_in_order.Given as goal

abbrev pub invariant-loop-name : goal.invariant-loop-name
invariant-loop-name l =
    record {
      done : List (String Global × Tree);
      split : l.fn.members.items ≡ done ++ into_iter_items l.name-iterator;
      same : l.kept ≡ map owned_entry done;
    }
