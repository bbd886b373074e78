use Rattle.std.proofs.Common.{◌≡◌, None, map, option_and_then, sym, ap, ◌∙◌, arith}
use Rattle.json.specs.Value.{value_view}
use Rattle.openapi_node.specs.Fault.{step_of}
use Rattle.openapi_json.specs.Ordered.{parsed}
use Rattle.openapi_json.specs.Positions.{json_at, tokens_before}
use Rattle.openapi_json.proofs.Positions.{all_stand, has_name, is_within, leads_to_none, value_fits}
use Rattle.openapi_json.proofs.position.position_of.Goals as goal

pub number_at-requires : goal.number_at-requires
number_at-requires c =
    let j = value_view c.in-Ok-read_value.value in
    let reads = ap parsed (sym c.in-Ok.ensures.cases.0) ∙ c.in-Ok-read_value.ensures.ok in
    omega (arith, value_fits c.args.bytes.now j reads)

pub position_at-requires : goal.position_at-requires
position_at-requires c =
    let j = value_view c.in-Ok-read_value.value in
    λ is. has_name _ j c.in-Some.number (sym c.in-Some.ensures) (sym c.ends_with_name.ensures ∙ is)

pub returns-in_default-number_at : goal.returns-in_default-number_at
returns-in_default-number_at c =
    let j = value_view c.in-Ok-read_value.value in
    let reads = ap parsed (sym c.in-Ok.ensures.cases.0) ∙ c.in-Ok-read_value.ensures.ok in
    let at = map step_of c.args.place.now in
    let none : tokens_before at j ≡ None = sym c.number_at.ensures ∙ c.in_default-number_at.is in
    record { some = tt; none = λ is utf8. ap (option_and_then (json_at at)) reads ∙ leads_to_none at j none }

pub returns : goal.returns
returns c =
    let j = value_view c.in-Ok-read_value.value in
    let text = c.in-Ok.ensures.cases in
    let reads = ap parsed (sym text.0) ∙ c.in-Ok-read_value.ensures.ok in
    let at = c.position_at.ensures in
    record {
      some = all_stand c.args.bytes.now _ j c.in-Some.number reads (sym c.in-Some.ensures) c.ends_with_name.result c.position_at.result
          c.ends_with_name.ensures text.1 at.value at.unnamed at.named;
      none = λ is utf8.
          absurd (omega (
            arith,
            at.none is,
            is_within c.args.bytes.now _ j c.in-Some.number reads (sym c.in-Some.ensures),
          ));
    }
