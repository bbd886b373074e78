use Rattle.std.proofs.Common.{rules}
use Rattle.std.proofs.Output.{has_written_append, has_written_of_eq}
use Rattle.openapi_findings.specs.Escaped.{escaped, step_text}
use Rattle.openapi_findings.proofs.Writing.{next_element}
use Rattle.openapi_findings.proofs.escape.Escape.write_pointer.Goals as goal

pub loop-step-preserved : goal.loop-step-preserved
loop-step-preserved g c = λ plain.
    has_written_of_eq _ _ _ _ _
    (next_element (step_text (escaped c.args.self)) c.args.place.now c.loop-step.step-index c.step-item.result (search rules) c.step-item.is)
    (has_written_append _ _ _ _ _ _ (c.loop-step.invariant plain) (search rules))
