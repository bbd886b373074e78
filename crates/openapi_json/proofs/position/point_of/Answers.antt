use Rattle.std.proofs.Common.{length-take, sym, arith}
use Rattle.openapi_json.proofs.Positions.{token_at}
use Rattle.openapi_json.proofs.Scanned.{start_within}
use Rattle.openapi_json.proofs.position.point_of.Goals as goal

pub slice_bounds-point_behind-end : goal.slice_bounds-point_behind-end
slice_bounds-point_behind-end c =
    omega (
      arith,
      length-take c.in_ok-offset.offset c.args.bytes.now,
      start_within c.args.bytes.now c.args.number c.in_ok-offset.offset (sym c.in_ok-offset.ensures),
    )

pub returns-clause-some : goal.returns-clause-some
returns-clause-some c =
    token_at c.args.bytes.now c.args.number c.in_ok-offset.offset c.point_behind.result (sym c.in_ok-offset.ensures) c.point_behind.ensures
