use Rattle.std.proofs.Common.{◌++◌, ap, ◌∙◌, arith, string_bytes}
use Rattle.openapi_node.specs.Fault.{step_of}
use Rattle.openapi_findings.specs.Numbers.{step_key}
use Rattle.openapi_findings.proofs.Looking.{flat_end, flat_next}
use Rattle.openapi_findings.proofs.places.key_of.Goals as goal

pub loop-step-preserved : goal.loop-step-preserved
loop-step-preserved c =
    let old = string_bytes c.loop-step.key in
    flat_next step_of step_key c.args.place.now _ c.loop-step.step-index c.step-item.result old (string_bytes c.push_step.new.key)
    c.loop-step-test.true
    (c.in_ok-push_step.ensures ∙ ap (λ s. old ++ step_key (step_of s)) c.step-item.is) c.loop-step.invariant

pub returns : goal.returns
returns c =
    flat_end step_of step_key c.args.place.now _ c.loop-step.step-index (string_bytes c.loop-step.key)
    (omega (arith, c.loop-step-test.false)) c.loop-step.invariant
