use Rattle.std.proofs.Common.{◌+◌, get_or, sym, subst, arith}
use Rattle.json.specs.Json.{object}
use Rattle.json.specs.Value.{value_view, members_view}
use Rattle.openapi_node.specs.Place.{named}
use Rattle.openapi_json.specs.FirstTokens.{below_of, LeadsFrom, number_of}
use Rattle.openapi_json.specs.declared.first_tokens.FirstToken.TheViews.{out-FirstToken}
use Rattle.openapi_json.proofs.Numbering.{members_length, leads_to_member}
use Rattle.openapi_json.proofs.first_tokens.member.Goals as goal

pub index-requires : goal.index-requires
index-requires c =
    let t = c.args.token.now in
    let it = c.in_ok-index.ensures.some in
    let many = members_length c.args.members.now (number_of t + 1) (below_of t) c.requires in
    omega (arith, many, (out-FirstToken t).below.ok, it.within)

pub returns-clause-some : goal.returns-clause-some
returns-clause-some c =
    let ms = c.args.members.now in
    let i = c.in_ok-index.index in
    let t = c.args.token.now in
    let m = c.index-members-index.result in
    let u = c.index.result.now in
    let name = c.args.name.now in
    subst (λ w. LeadsFrom (number_of t) (named name) (object (members_view ms)) w (value_view (get_or ms i m).1)) (sym c.index.ensures)
    (leads_to_member name ms i (number_of t) (below_of t) m u c.in_ok-index.ensures.some c.requires)
