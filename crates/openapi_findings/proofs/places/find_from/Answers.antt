use Rattle.std.proofs.Common.{List, map, sym, ap, ◌∙◌}
use Rattle.std.specs.Borrow.{Bor}
use Rattle.openapi_node.specs.Fault.{step_of}
use Rattle.openapi_node.specs.declared.fault.PlaceStep.{PlaceStep}
use Rattle.openapi_findings.specs.Numbers.{same_place}
use Rattle.openapi_findings.proofs.Looking.{among_at}
use Rattle.openapi_findings.proofs.places.find_from.Goals as goal

pub returns-then-is_same_place : goal.returns-then-is_same_place
returns-then-is_same_place c =
    let p = map step_of c.args.place.now in
    among_at (λ (q : Bor (List PlaceStep)). map step_of q.now) p c.args.places.now c.args.hint c.index-places-hint.result c.if-hint-places.true
    (ap (λ (q : Bor (List PlaceStep)). same_place p (map step_of q.now)) (sym c.index-places-hint.is)
    ∙ sym c.is_same_place.ensures ∙ c.if-is_same_place.true)
