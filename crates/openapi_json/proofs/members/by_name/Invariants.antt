use Rattle.std.proofs.Common.{◌≡◌, ◌++◌, map}
use Rattle.openapi_map.specs.Entries.{Entries, owned_entry}
use Rattle.openapi_node.specs.Tree.{Tree}
use Rattle.openapi_json.proofs.members.by_name.Given as goal

abbrev pub invariant-loop-name : goal.invariant-loop-name
invariant-loop-name l =
    record {
      done : Entries Tree;
      split : l.fn.members ≡ done ++ l.name-iterator;
      kept : map owned_entry l.out.entries ≡ done;
    }
