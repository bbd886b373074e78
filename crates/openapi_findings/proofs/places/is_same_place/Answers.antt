use Rattle.std.proofs.Common.{map, arith}
use Rattle.std.proofs.lemmas.List.{length-map}
use Rattle.openapi_node.specs.Fault.{step_of}
use Rattle.openapi_findings.proofs.Looking.{lengths_differ}
use Rattle.openapi_findings.proofs.places.is_same_place.Goals as goal

pub returns-then-one-other : goal.returns-then-one-other
returns-then-one-other c =
    lengths_differ (map step_of c.args.one.now) (map step_of c.args.other.now)
    (λ e. omega (arith, e, length-map c.args.one.now step_of, length-map c.args.other.now step_of, c.if-one-other.true))
