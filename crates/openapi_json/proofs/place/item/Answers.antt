use Rattle.std.proofs.Common.{◌+◌, get_or, sym, subst, arith}
use Rattle.json.specs.Json.{array}
use Rattle.json.specs.Value.{value_view, items_view}
use Rattle.json.proofs.Trees.{get_item_past}
use Rattle.openapi_node.specs.Place.{indexed}
use Rattle.openapi_json.specs.Positions.{item_tokens, StepsTo}
use Rattle.openapi_json.proofs.Positions.{item_steps, take_counts}
use Rattle.openapi_json.proofs.place.item.Goals as goal

pub returns-then-index-values-clause-none : goal.returns-then-index-values-clause-none
returns-then-index-values-clause-none c is =
    sym (get_item_past c.args.values.now c.args.index (omega (arith, c.if-index-values.true)))

pub count_items-requires : goal.count_items-requires
count_items-requires c = omega (arith, c.requires, take_counts item_tokens c.args.values.now c.args.index)

pub overflow_add-result : goal.overflow_add-result
overflow_add-result c =
    omega (arith, c.requires, c.count_items.ensures, take_counts item_tokens c.args.values.now c.args.index)

pub returns-clause-some : goal.returns-clause-some
returns-clause-some c =
    let vs = c.args.values.now in
    let i = c.args.index in
    let v = c.index-values-index.result in
    subst (λ w. StepsTo (indexed i) (array (items_view vs)) (1 + c.count_items.result) (value_view w)) (sym c.index-values-index.is)
    (subst (λ n. StepsTo (indexed i) (array (items_view vs)) (1 + n) (value_view (get_or vs i v))) (sym c.count_items.ensures)
    (item_steps vs i v c.if-index-values.false))
