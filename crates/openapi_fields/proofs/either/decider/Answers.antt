use Rattle.std.proofs.Common.{sym, ap, ◌∙◌, subst}
use Rattle.openapi_node.specs.Tree.{object, members_of}
use Rattle.openapi_node.specs.declared.fault.Cause.TheVariants.{MissingEither}
use Rattle.openapi_tables.specs.Prelude.{any_text, by, same_text}
use Rattle.openapi_tables.proofs.ListLaws.{same_text_eq}
use Rattle.openapi_fields.specs.Decided.{Decides}
use Rattle.openapi_fields.proofs.Below.{fails_here}
use Rattle.openapi_fields.proofs.Deciding.{second_name, none_decides}
use Rattle.openapi_fields.proofs.either.decider.Goals as goal

pub returns-in_default : goal.returns-in_default
returns-in_default c = λ i j k at.
    fails_here c.new.result (MissingEither c.args.first c.args.second) (by i) (object (members_of c.args.members.now))
    c.new.ensures.place c.new.ensures.cause
    (none_decides c.args.first.now j c.args.second.now k i c.args.members.now at c.in_default.ensures)

pub returns-then-is_same : goal.returns-then-is_same
returns-then-is_same c =
    let a = c.args.first.now in
    let b = c.args.second.now in
    subst (λ n. Decides a b n c.args.members.now c.in-Some.node.now)
    (sym (same_text_eq a c.in-Some.name.now (sym c.is_same.ensures ∙ c.if-is_same.true))) (sym c.in-Some.ensures)

pub returns-else-is_same : goal.returns-else-is_same
returns-else-is_same c =
    let a = c.args.first.now in
    let b = c.args.second.now in
    let other = sym c.is_same.ensures ∙ c.if-is_same.false in
    let is = second_name a any_text b any_text c.in-Some.name.now c.in-Some.node.now c.args.members.now
    (sym c.in-Some.ensures) other in (
      subst (λ n. Decides a b n c.args.members.now c.in-Some.node.now) (sym is) (sym c.in-Some.ensures),
      ap (same_text a) is ∙ other,
    )
