use Rattle.std.proofs.Common.{◌≡◌, ℕ, ◌+◌, ◌*◌, ◌≤◌, List, false, length, map}
use Rattle.json.specs.Json.{items, members, value}
use Rattle.serde_json.specs.Data.{Data}
use Rattle.serde_json.specs.View as views
use Rattle.serde_json.specs.Written.{items_have_float, members_have_float}
use Rattle.openapi_node.specs.Json.{tree_of_data}
use Rattle.openapi_json.specs.Gathered.{entries_in, IsInOrder}
use Rattle.openapi_json.specs.Reading.{Pair, pairs_data, tree_pair}
use Rattle.openapi_json.proofs.Turns.{ItemsGoOn, MembersGoOn}
use Rattle.openapi_json.proofs.read.+read.Given as goal

abbrev pub decreases-read_node : goal.decreases-read_node
decreases-read_node l = 2 * l.depth

abbrev pub decreases-read_items : goal.decreases-read_items
decreases-read_items l = 2 * l.depth + 1

abbrev pub decreases-read_members : goal.decreases-read_members
decreases-read_members l = 2 * l.depth + 1

abbrev pub invariant-read_items-items : goal.invariant-read_items-items
invariant-read_items-items l =
    record {
      left : ℕ;
      enough : length l.reader ≤ left;
      done : List Data;
      goes : ItemsGoOn (items (value l.depth) (length l.initial.reader) l.initial.reader) done (items (value l.depth) left)
          l.reader;
      whole : items_have_float (views.items_of done) ≡ false;
      same : l.found.items ≡ map tree_of_data done;
      shorter : length l.reader ≤ length l.initial.reader;
    }

abbrev pub decreases-read_items-items : goal.decreases-read_items-items
decreases-read_items-items l = length l.reader

abbrev pub invariant-read_members-members : goal.invariant-read_members-members
invariant-read_members-members l =
    record {
      left : ℕ;
      enough : length l.reader ≤ left;
      done : List Pair;
      goes : MembersGoOn (members (value l.depth) (length l.initial.reader) l.initial.reader) done
          (members (value l.depth) left) l.reader;
      whole : members_have_float (pairs_data done) ≡ false;
      same : entries_in l.found ≡ map tree_pair done;
      order : IsInOrder l.found;
      shorter : length l.reader ≤ length l.initial.reader;
    }

abbrev pub decreases-read_members-members : goal.decreases-read_members-members
decreases-read_members-members l = length l.reader
