use Rattle.std.proofs.Common.{◌≡◌, IfSome, sym, ap, subst, ◌∙◌}
use Rattle.json.specs.Json.{object}
use Rattle.json.specs.Value.{value_view, members_view}
use Rattle.json.proofs.Trees.{view-Object}
use Rattle.openapi_node.specs.Fault.{step_of}
use Rattle.openapi_node.specs.Place.{named}
use Rattle.openapi_json.specs.FirstTokens.{LeadsFrom, number_of}
use Rattle.openapi_json.proofs.first_tokens.step_into.Goals as goal

pub returns-in-Object-Name-clause-some : goal.returns-in-Object-Name-clause-some
returns-in-Object-Name-clause-some c =
    let n = number_of c.args.token.now in
    let step : named c.as_str.result.now ≡ step_of c.args.step.now =
    ap named c.as_str.ensures.value ∙ ap step_of (sym c.in-Object-Name.is-1) in
    let value : object (members_view c.as_slice.result.now) ≡ value_view c.args.value.now =
    ap (λ ms. object (members_view ms)) c.as_slice.ensures.value ∙ sym (view-Object c.in-Object-Name.members)
    ∙ ap value_view (sym c.in-Object-Name.is-0) in
    subst (λ s. IfSome c.member.result (λ it. LeadsFrom n s (value_view c.args.value.now) it.token.now (value_view it.value.now))) step
    (subst (λ j. IfSome c.member.result (λ it. LeadsFrom n (named c.as_str.result.now) j it.token.now (value_view it.value.now))) value
    c.member.ensures.some)
