use Rattle.std.proofs.Common.{map, ◌∙◌}
use Rattle.openapi_node.specs.Fault.{step_of}
use Rattle.openapi_findings.proofs.Looking.{no_key}
use Rattle.openapi_findings.proofs.places.find_place.Goals as goal

pub returns-in-None : goal.returns-in-None
returns-in-None c = λ h.
    no_key (map step_of c.args.place.now) _ _ c.as_str.result.now (c.as_str.ensures.value ∙ c.in_ok-key.ensures) c.in-None.ensures h
