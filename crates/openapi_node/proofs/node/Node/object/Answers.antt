use Rattle.std.proofs.Common.{◌<◌, ◌+◌, length, arith}
use Rattle.std.specs.Map.{values_of}
use Rattle.openapi_node.proofs.NamedLemmas.{items_named-next, items_named-all, members_named-from, value-at}
use Rattle.openapi_node.proofs.NamedLemmas.{length-values_of}
use Rattle.openapi_node.proofs.node.Node.object.Goals as goal

pub loop-i-preserved : goal.loop-i-preserved
loop-i-preserved c =
    let ms = c.args.members in
    let i = c.loop-i.i in
    items_named-next (values_of ms) i _ (value-at ms i _ c.entry_at.ensures) c.loop-i.invariant c.names_differ.ensures

pub invariant_of-result : goal.invariant_of-result
invariant_of-result c =
    let ms = c.args.members in
    let i = c.loop-i.i in
    let past : length (values_of ms) < i + 1 =
    omega (arith, c.loop-i-test.false, c.len-i-end.ensures.len, length-values_of ms) in
    members_named-from ms c.len-i-end.ensures.distinct (items_named-all (values_of ms) i past c.loop-i.invariant)
