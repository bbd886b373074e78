use Rattle.std.proofs.Common.{◌≡◌, take, true}
use Rattle.openapi_tables.specs.Lists.{each, every}
use Rattle.openapi_fields.proofs.Elements.{written, is_whole}
use Rattle.openapi_fields.proofs.lists.write_items.Given as goal

abbrev pub invariant-loop-i : goal.invariant-loop-i
invariant-loop-i g l =
    let k = g.T.FromNode.kind in
    record {
      same : l.nodes.items ≡ each (written g.T.FromNode.form_of k) (take l.i l.values.items);
      whole : every (is_whole g.T.FromNode.form_of k) (take l.i l.values.items) ≡ true;
    }
