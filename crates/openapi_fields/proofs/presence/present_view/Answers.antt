use Rattle.std.proofs.Common.{sym, ap, ◌∙◌, Some, None, if◌then◌else◌, arith}
use Rattle.openapi_node.specs.Tree.{members_of, size_of}
use Rattle.openapi_node.specs.View.{shown}
use Rattle.openapi_tables.specs.Prelude.{optional, any_tree, final_tables}
use Rattle.openapi_tables.proofs.ByRowLaws.{weight-found}
use Rattle.openapi_fields.specs.Returned.{unless_null}
use Rattle.openapi_fields.proofs.Below.{size-positive}
use Rattle.openapi_fields.proofs.Present.{shown_there}
use Rattle.openapi_fields.proofs.presence.present_view.Goals as goal

pub returns-in-Null : goal.returns-in-Null
returns-in-Null c =
    let u = c.in-Some.node.now in
    let found = sym c.in-Some.ensures.found in
    record {
      is = ap unless_null found ∙ ap (λ t. unless_null (Some t)) (sym c.in-Null.ensures.shown);
      rises = omega (arith, c.open-view.ensures.counted);
      counted = omega (
        arith,
        c.open-view.ensures.counted,
        size-positive u,
        weight-found final_tables c.args.name.now optional any_tree (members_of c.args.members.now) u found,
      );
    }

pub returns-in_default-view : goal.returns-in_default-view
returns-in_default-view c =
    let u = c.in-Some.node.now in
    let t = shown c.open-view.result in
    let found = sym c.in-Some.ensures.found in
    let same = ap size_of c.open-view.ensures.shown in
    record {
      is = ap unless_null found ∙ ap (λ t. unless_null (Some t)) (sym c.open-view.ensures.shown)
          ∙ ap (λ b. if b then None else Some t) (shown_there c.open-view.result c.in_default-view.not-Null);
      counted = c.open-view.ensures.counted;
      weighs = omega (
        arith,
        same,
        weight-found final_tables c.args.name.now optional any_tree (members_of c.args.members.now) u found,
      );
      within = omega (arith, same, c.in-Some.ensures.smaller);
    }
