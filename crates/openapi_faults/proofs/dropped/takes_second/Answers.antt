use Rattle.std.proofs.Common.{not, sym, ap, ◌∙◌}
use Rattle.openapi_faults.proofs.Dropping.{second_gone, second_there}
use Rattle.openapi_faults.proofs.dropped.takes_second.Goals as goal

pub returns-in-Some : goal.returns-in-Some
returns-in-Some c =
    ap not c.is_same.ensures
    ∙ sym (second_there c.args.row c.in-Either.first c.in-Either.second c.in-Either.field-1 c.in-Either.field-3
    c.in-Either.is c.args.members.now c.args.name.now (sym c.takes.ensures ∙ c.if-not-takes.false)
    (c.in-Some.other.now, c.in-Some.field-0-1.now) c.in-Some.ensures)

pub returns-in-None : goal.returns-in-None
returns-in-None c =
    sym (second_gone c.args.row c.in-Either.first c.in-Either.second c.in-Either.field-1 c.in-Either.field-3
    c.in-Either.is c.args.members.now c.args.name.now (sym c.takes.ensures ∙ c.if-not-takes.false) c.in-None.ensures)
