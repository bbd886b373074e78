use Rattle.std.proofs.Common.{List, ap, ◌∙◌, arith, map, string_bytes}
use Rattle.std.specs.Borrow.{Bor}
use Rattle.openapi_node.specs.Fault.{step_of}
use Rattle.openapi_node.specs.declared.fault.PlaceStep.{PlaceStep}
use Rattle.openapi_findings.specs.Numbers.{key_text}
use Rattle.openapi_findings.proofs.Looking.{keys_end, keys_next}
use Rattle.openapi_findings.proofs.places.keys_of.Goals as goal

pub loop-index-preserved : goal.loop-index-preserved
loop-index-preserved c = λ b.
    keys_next (λ (p : Bor (List PlaceStep)). map step_of p.now) c.args.places.now b c.loop-index.index c.index-places-index.result
    c.loop-index.keys c.insert.new.self (string_bytes c.in_ok-key.key) c.loop-index-test.true c.in_ok-insert.ensures.entries
    (c.in_ok-key.ensures ∙ ap (λ (p : Bor (List PlaceStep)). key_text (map step_of p.now)) c.index-places-index.is)
    (c.loop-index.invariant b)

pub returns : goal.returns
returns c = λ b.
    keys_end (λ (p : Bor (List PlaceStep)). map step_of p.now) c.args.places.now b c.loop-index.index c.loop-index.keys
    (omega (arith, c.loop-index-test.false)) (c.loop-index.invariant b)
