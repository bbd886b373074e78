use Rattle.std.proofs.Common.{Some, sym, ap}
use Rattle.std.specs.Map.Iter.{deref_pair}
use Rattle.openapi_node.specs.Tree.{members_of}
use Rattle.openapi_tables.specs.Lists.{each}
use Rattle.openapi_faults.proofs.Causes.{either_gone, either_there, required_gone, required_there}
use Rattle.openapi_faults.proofs.cause.row_cause.Goals as goal

pub returns-in-Some : goal.returns-in-Some
returns-in-Some c =
    ap (each Some) (sym (required_there c.args.row c.in-Required.name c.in-Required.field-1 c.in-Required.is
    (members_of c.args.members.now) c.in-Some.field-0.now c.in-Some.ensures.found))

pub returns-in-None : goal.returns-in-None
returns-in-None c =
    ap (each Some) (sym (required_gone c.args.row c.in-Required.name c.in-Required.field-1 c.in-Required.is
    (members_of c.args.members.now) c.in-None.ensures.found))

pub returns-in-Some-first_of_two : goal.returns-in-Some-first_of_two
returns-in-Some-first_of_two c =
    ap (each Some) (sym (either_there c.args.row c.in-Either.first c.in-Either.second c.in-Either.field-1
    c.in-Either.field-3 c.in-Either.is c.args.members.now (deref_pair c.in-Some-first_of_two.field-0)
    c.in-Some-first_of_two.ensures))

pub returns-in-None-first_of_two : goal.returns-in-None-first_of_two
returns-in-None-first_of_two c =
    ap (each Some) (sym (either_gone c.args.row c.in-Either.first c.in-Either.second c.in-Either.field-1
    c.in-Either.field-3 c.in-Either.is c.args.members.now c.in-None-first_of_two.ensures))
