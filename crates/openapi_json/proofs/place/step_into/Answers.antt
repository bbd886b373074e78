use Rattle.std.proofs.Common.{◌≡◌, IfSome, sym, ap, subst, ◌∙◌, arith}
use Rattle.json.specs.Json.{object}
use Rattle.json.specs.Value.{value_view, members_view}
use Rattle.json.proofs.Trees.{view-Object}
use Rattle.openapi_node.specs.Fault.{step_of}
use Rattle.openapi_node.specs.Place.{named}
use Rattle.openapi_json.specs.Positions.{StepsTo}
use Rattle.openapi_json.proofs.Positions.{array_counts, object_counts}
use Rattle.openapi_json.proofs.place.step_into.Goals as goal

pub member-requires : goal.member-requires
member-requires c =
    omega (
      arith,
      c.requires,
      object_counts c.in-Object-Name.members c.as_slice.result.now c.args.value.now
          c.as_slice.ensures.value c.in-Object-Name.is-0,
    )

pub item-requires : goal.item-requires
item-requires c =
    omega (
      arith,
      c.requires,
      array_counts c.in-Array-Index.values c.as_slice-in-Array-Index.result.now c.args.value.now
          c.as_slice-in-Array-Index.ensures.value c.in-Array-Index.is-0,
    )

pub returns-in-Object-Name-clause-some : goal.returns-in-Object-Name-clause-some
returns-in-Object-Name-clause-some c =
    let step : named c.as_str.result.now ≡ step_of c.args.step.now =
    ap named c.as_str.ensures.value ∙ ap step_of (sym c.in-Object-Name.is-1) in
    let value : object (members_view c.as_slice.result.now) ≡ value_view c.args.value.now =
    ap (λ ms. object (members_view ms)) c.as_slice.ensures.value ∙ sym (view-Object c.in-Object-Name.members)
    ∙ ap value_view (sym c.in-Object-Name.is-0) in
    subst (λ s. IfSome c.member.result (λ it. StepsTo s (value_view c.args.value.now) it.number (value_view it.value.now))) step
    (subst (λ j. IfSome c.member.result (λ it. StepsTo (named c.as_str.result.now) j it.number (value_view it.value.now))) value
    c.member.ensures.some)
