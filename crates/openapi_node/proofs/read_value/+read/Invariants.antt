use Rattle.std.proofs.Common.{◌≡◌, false, List, ◌++◌, take}
use Rattle.serde_json.proofs.Views.{Entry}
use Rattle.serde_json.specs.View.{items_view, members_view}
use Rattle.serde_json.specs.Written.{items_have_float, members_have_float}
use Rattle.openapi_node.proofs.JsonLemmas.{trees, named_trees}
use Rattle.openapi_node.proofs.read_value.+read.Given as goal

abbrev pub invariant-read_items-loop-index : goal.invariant-read_items-loop-index
invariant-read_items-loop-index l =
    record {
      read : l.nodes.items ≡ trees (take l.index l.items.items);
      whole : items_have_float (items_view (take l.index l.items.items)) ≡ false;
    }

abbrev pub invariant-read_members-loop-name : goal.invariant-read_members-loop-name
invariant-read_members-loop-name l =
    record {
      done : List Entry;
      split : l.members.entries ≡ done ++ l.name-iterator;
      read : l.nodes ≡ named_trees done;
      whole : members_have_float (members_view done) ≡ false;
    }
