use Rattle.std.proofs.Common.{◌∙◌, length, subst, sym, ap, arith}
use Rattle.std.proofs.lemmas.List.{take_all}
use Rattle.openapi_tables.specs.Prelude.{sequence, forms_of, list_of, each, every, final_tables, unwritable}
use Rattle.openapi_fields.specs.Returned.{NotWritable}
use Rattle.openapi_fields.proofs.Elements.{written, is_whole, list_written, item_loses}
use Rattle.openapi_fields.proofs.lists.write_items.Goals as goal

pub returns-in-Err : goal.returns-in-Err
returns-in-Err g c =
    let k = g.T.FromNode.kind in
    let view = g.T.FromNode.form_of in
    let f = c.at_index.result in
    subst (λ xs. NotWritable f (unwritable final_tables (list_of k) (sequence (forms_of (each view xs)))))
    c.deref-value-items.ensures.value
    (item_loses view k c.deref-value-items.result.now c.loop-i.i c.value-item.result f c.loop-i-test.true
    c.value-item.is
    (c.in-Err.fault, c.at_index.ensures, c.in-Err.ensures.written))

pub returns : goal.returns
returns g c =
    let k = g.T.FromNode.kind in
    let view = g.T.FromNode.form_of in
    let xs = c.args.values.now.items in
    let all = take_all c.loop-i.i xs (omega (
      arith,
      ap length c.deref-value-items.ensures.value,
      c.loop-i-test.false,
    )) in
    list_written view k xs c.loop-i.nodes.items c.list.result (c.loop-i.invariant.same ∙ ap (each (written view k)) all)
    (sym (ap (every (is_whole view k)) all) ∙ c.loop-i.invariant.whole) c.list.ensures
