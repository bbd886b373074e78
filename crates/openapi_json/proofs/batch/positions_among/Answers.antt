use Rattle.std.proofs.Common.{map, arith}
use Rattle.json.specs.Value.{value_view}
use Rattle.openapi_node.specs.Fault.{step_of}
use Rattle.openapi_json.specs.Points.{IsPositionAmong}
use Rattle.openapi_json.proofs.Pointed.{all_places}
use Rattle.openapi_json.proofs.batch.positions_among.Goals as goal

pub returns : goal.returns
returns c =
    let l = c.loop-place in
    all_places (IsPositionAmong c.args.points.now (value_view c.args.value.now)) (λ p. map step_of p.now) c.args.places.now
    l.place-index l.positions.items (omega (arith, c.loop-place-test.false)) l.invariant
