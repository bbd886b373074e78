use Rattle.std.proofs.Common.{◌≡◌, ◌+◌, ◌*◌, ◌≤◌, take, true}
use Rattle.openapi_node.specs.Tree.{items_of, items_size}
use Rattle.openapi_tables.specs.Prelude.{each, every, final_tables, conforms, form}
use Rattle.openapi_fields.proofs.lists.items.Given as goal

abbrev pub invariant-loop-i : goal.invariant-loop-i
invariant-loop-i g l =
    let k = g.T.FromNode.kind in
    record {
      holds : every (conforms final_tables k) (take l.i l.nodes) ≡ true;
      same : each (form final_tables k) (take l.i l.nodes) ≡ each g.T.FromNode.form_of l.values.items;
      rises : l.initial.steps ≤ l.steps;
      counted : l.steps ≤ l.initial.steps + 3 * items_size (items_of (take l.i l.nodes));
    }
