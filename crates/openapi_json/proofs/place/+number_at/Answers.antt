use Rattle.std.proofs.Common.{length, sym, ap, arith}
use Rattle.json.specs.Value.{value_view}
use Rattle.openapi_node.specs.Fault.{step_of}
use Rattle.openapi_json.proofs.Positions.{first_and_more, place_room, step_room}
use Rattle.openapi_json.proofs.place.+number_at.Goals as goal

pub number_at-requires : goal.number_at-requires
number_at-requires t c =
    let inside = c.in_ok-inside.inside in
    let steps = first_and_more c.args.place.now c.step-item.result c.in-len1-up.len_at_least c.step-item.is in
    let room = step_room (step_of c.step-item.result) (value_view c.args.value.now) (value_view inside.value.now) inside.number
    c.in_ok-inside.ensures.some in
    (omega (arith, ap length steps, c.decreases), omega (arith, room, c.requires))

pub overflow_add-result : goal.overflow_add-result
overflow_add-result t c =
    let inside = c.in_ok-inside.inside in
    let room = step_room (step_of c.step-item.result) (value_view c.args.value.now) (value_view inside.value.now) inside.number
    c.in_ok-inside.ensures.some in
    let more = place_room _ (value_view inside.value.now) c.in_ok-number.number (sym c.in_ok-number.ensures) in
    omega (arith, room, more, c.requires)
