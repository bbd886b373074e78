use Rattle.std.proofs.Common.{◌≡◌, Some, true, sym, ap, ◌∙◌}
use Rattle.json.specs.Value.{value_view}
use Rattle.serde_json.specs.Read.{of_json}
use Rattle.openapi_json.specs.Ordered.{all_whole, parsed}
use Rattle.openapi_json.proofs.Ordered.{in_order_of, read_either, read_of, read_whole}
use Rattle.openapi_json.proofs.in_order.node_from_json_in_order.Goals as goal

pub returns-then-whole-clause-ok : goal.returns-then-whole-clause-ok
returns-then-whole-clause-ok c =
    let j = value_view c.in-Ok-read_value.value in
    let text = c.in-Ok.ensures.cases in
    let all : all_whole j ≡ true = sym c.in-Ok-node_of.ensures.whole ∙ c.if-whole.true in
    in_order_of c.args.bytes.now j c.in-Ok-node_of.node text.1 (ap parsed (sym text.0) ∙ c.in-Ok-read_value.ensures.ok)
    c.in-Ok-node_of.ensures.node (read_whole j all)

pub returns-in-Ok-node_from_json-clause-ok : goal.returns-in-Ok-node_from_json-clause-ok
returns-in-Ok-node_from_json-clause-ok c =
    let j = value_view c.in-Ok-read_value.value in
    let text = c.in-Ok.ensures.cases in
    let is = ap parsed (sym text.0) ∙ c.in-Ok-read_value.ensures.ok in
    let other = c.in-Ok-node_from_json.ensures.ok in
    let by_name : of_json j ≡ Some other.value = sym (read_of c.args.bytes.now j is) ∙ other.reads in
    in_order_of c.args.bytes.now j c.in-Ok-node_of.node text.1 is c.in-Ok-node_of.ensures.node
    (read_either j other.value by_name other.is.whole_numbers)
