use Rattle.std.proofs.Common.{◌<◌, length, get_or, Some, sym, ap, ◌∙◌, arith}
use Rattle.std.proofs.lemmas.Option.{slice_get-get_or}
use Rattle.openapi_node.proofs.NamedLemmas.{items_named-next}
use Rattle.openapi_node.proofs.node.Node.list.Goals as goal

pub loop-item-preserved : goal.loop-item-preserved
loop-item-preserved c =
    let ts = c.args.items.items in
    let items = c.deref-item-items.ensures.value in
    let i = c.loop-item.item-index in
    let t = c.item-item.result in
    let within : i < length ts = omega (arith, c.loop-item-test.true, ap length items) in
    let here = sym (c.item-item.is ∙ ap (λ us. get_or us i t) items) in
    items_named-next ts i t (slice_get-get_or ts i t within ∙ ap Some here) c.loop-item.invariant c.names_differ.ensures
