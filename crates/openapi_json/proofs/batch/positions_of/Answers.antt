use Rattle.std.proofs.Common.{◌≡◌, None, length, map, sym, ap, ◌∙◌, arith}
use Rattle.std.proofs.lemmas.List.{length-map}
use Rattle.json.specs.Value.{value_view}
use Rattle.openapi_node.specs.Fault.{step_of}
use Rattle.openapi_json.specs.Ordered.{parsed}
use Rattle.openapi_json.proofs.Pointed.{if_read, if_unread, points_of_value}
use Rattle.openapi_json.proofs.Positions.{value_fits}
use Rattle.openapi_json.proofs.batch.positions_of.Goals as goal

pub first_tokens-requires : goal.first_tokens-requires
first_tokens-requires c =
    let j = value_view c.in-Ok-read_value.value in
    let reads = ap parsed (sym c.in-Ok.ensures.cases.0) ∙ c.in-Ok-read_value.ensures.ok in
    omega (arith, value_fits c.args.bytes.now j reads)

pub positions_among-requires-clause-points : goal.positions_among-requires-clause-points
positions_among-requires-clause-points c =
    let j = value_view c.in-Ok-read_value.value in
    let reads = ap parsed (sym c.in-Ok.ensures.cases.0) ∙ c.in-Ok-read_value.ensures.ok in
    omega (arith, points_of_value c.args.bytes.now j reads, ap length (c.as_slice.ensures.value ∙ c.in_ok-points.ensures))

pub returns-in_default : goal.returns-in_default
returns-in_default c =
    let made = c.no_positions in
    if_unread c.args.bytes.now _ made.result (length c.args.places.now) (λ utf8. absurd (c.in_default.ensures.cases.0 utf8))
    (sym (length-map c.args.places.now (λ p. map step_of p.now))) made.ensures.length made.ensures.none

pub returns-in-Err-Other : goal.returns-in-Err-Other
returns-in-Err-Other c =
    let made = c.no_positions-in-Err-Other in
    let none : parsed c.in-Ok.text.now ≡ None = c.in-Err-Other.ensures.other cc in
    if_unread c.args.bytes.now _ made.result (length c.args.places.now)
    (λ utf8. ap parsed (sym c.in-Ok.ensures.cases.0) ∙ none)
    (sym (length-map c.args.places.now (λ p. map step_of p.now))) made.ensures.length made.ensures.none

pub returns : goal.returns
returns c =
    let j = value_view c.in-Ok-read_value.value in
    let text = c.in-Ok.ensures.cases in
    let reads = ap parsed (sym text.0) ∙ c.in-Ok-read_value.ensures.ok in
    if_read c.args.bytes.now _ c.positions_among.result j c.as_slice.result.now text.1 reads
    (c.as_slice.ensures.value ∙ c.in_ok-points.ensures) c.positions_among.ensures
