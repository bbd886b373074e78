use Rattle.std.proofs.Common.{◌+◌, get_or, sym, subst, arith}
use Rattle.json.specs.Json.{array}
use Rattle.json.specs.Value.{value_view, items_view}
use Rattle.json.proofs.Trees.{get_item_past}
use Rattle.openapi_node.specs.Place.{indexed}
use Rattle.openapi_json.specs.FirstTokens.{below_of, LeadsFrom, number_of}
use Rattle.openapi_json.specs.declared.first_tokens.FirstToken.TheViews.{out-FirstToken}
use Rattle.openapi_json.proofs.Numbering.{items_length, leads_to_item}
use Rattle.openapi_json.proofs.first_tokens.item.Goals as goal

pub returns-then-index-values-clause-none : goal.returns-then-index-values-clause-none
returns-then-index-values-clause-none c is =
    sym (get_item_past c.args.values.now c.args.index (omega (arith, c.if-index-values.true)))

pub index-requires : goal.index-requires
index-requires c =
    let t = c.args.token.now in
    let many = items_length c.args.values.now (number_of t + 1) (below_of t) c.requires in
    omega (arith, many, (out-FirstToken t).below.ok, c.if-index-values.false)

pub returns-clause-some : goal.returns-clause-some
returns-clause-some c =
    let vs = c.args.values.now in
    let i = c.args.index in
    let t = c.args.token.now in
    let v = c.index-values-index.result in
    let u = c.index.result.now in
    subst (λ w. LeadsFrom (number_of t) (indexed i) (array (items_view vs)) u (value_view w)) (sym c.index-values-index.is)
    (subst (λ w. LeadsFrom (number_of t) (indexed i) (array (items_view vs)) w (value_view (get_or vs i v))) (sym c.index.ensures)
    (leads_to_item vs i (number_of t) (below_of t) v u c.if-index-values.false c.requires))
