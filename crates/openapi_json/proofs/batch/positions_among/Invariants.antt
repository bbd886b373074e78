use Rattle.std.proofs.Common.{◌++◌, List, Option, drop, map}
use Rattle.std.specs.List.{AllZip}
use Rattle.json.specs.Value.{value_view}
use Rattle.openapi_node.specs.Fault.{step_of}
use Rattle.openapi_json.specs.Points.{IsPositionAmong}
use Rattle.openapi_json.specs.declared.position.Position.{Position}
use Rattle.openapi_json.proofs.batch.positions_among.Given as goal

-- the positions so far, followed by those of the rest of the locations, are those of all locations
abbrev pub invariant-loop-place : goal.invariant-loop-place
invariant-loop-place l =
    (os : List (Option Position))
    → AllZip (IsPositionAmong l.points (value_view l.value)) (map (λ p. map step_of p.now) (drop l.place-index l.places)) os
    → AllZip (IsPositionAmong l.points (value_view l.value)) (map (λ p. map step_of p.now) l.places) (l.positions.items ++ os)
