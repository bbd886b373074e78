use Rattle.std.proofs.Common.{◌+◌, get_or, sym, subst, arith}
use Rattle.json.specs.Json.{object}
use Rattle.json.specs.Value.{value_view, members_view}
use Rattle.openapi_node.specs.Place.{named}
use Rattle.openapi_json.specs.Positions.{member_tokens, StepsTo}
use Rattle.openapi_json.proofs.Positions.{member_steps, take_counts}
use Rattle.openapi_json.proofs.place.member.Goals as goal

pub count_members-requires : goal.count_members-requires
count_members-requires c =
    omega (arith, c.requires, take_counts member_tokens c.args.members.now c.in_ok-index.index)

pub overflow_add-result : goal.overflow_add-result
overflow_add-result c =
    omega (arith, c.requires, c.count_members.ensures, take_counts member_tokens c.args.members.now c.in_ok-index.index)

pub returns-clause-some : goal.returns-clause-some
returns-clause-some c =
    let ms = c.args.members.now in
    let i = c.in_ok-index.index in
    let m = c.index-members-index.result in
    let name = c.args.name.now in
    let it = c.in_ok-index.ensures.some in
    subst (λ n. StepsTo (named name) (object (members_view ms)) (2 + n) (value_view (get_or ms i m).1))
    (sym c.count_members.ensures)
    (member_steps name m ms i it.within (it.named m) it.last)
