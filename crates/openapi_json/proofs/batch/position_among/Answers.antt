use Rattle.std.proofs.Common.{map, sym, ◌∙◌, arith}
use Rattle.json.specs.Value.{value_view}
use Rattle.openapi_node.specs.Fault.{step_of}
use Rattle.openapi_json.specs.FirstTokens.{number_of}
use Rattle.openapi_json.specs.Positions.{tokens_before}
use Rattle.openapi_json.proofs.Numbering.{first_number, first_of_own, from_zero}
use Rattle.openapi_json.proofs.Positions.{has_name, place_room}
use Rattle.openapi_json.proofs.batch.position_among.Goals as goal

pub number_below-requires : goal.number_below-requires
number_below-requires c = first_of_own (value_view c.args.value.now) 0 c.args.token.now c.requires.first

pub position_with-requires : goal.position_with-requires
position_with-requires c =
    let j = value_view c.args.value.now in
    let t = c.args.token.now in
    let counted = from_zero (number_of t) c.in_ok-number.number (tokens_before (map step_of c.args.place.now) j)
    (first_number j 0 t c.requires.first) c.in_ok-number.ensures in
    record {
      within = omega (arith, place_room _ j c.in_ok-number.number counted, c.requires.points);
      after_name = λ is. has_name _ j c.in_ok-number.number counted (sym c.ends_with_name.ensures ∙ is);
    }
