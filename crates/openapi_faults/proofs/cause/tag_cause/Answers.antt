use Rattle.std.proofs.Common.{Some, sym, ap}
use Rattle.openapi_tables.specs.Lists.{each}
use Rattle.openapi_faults.proofs.Causes.{tag_gone, tag_there}
use Rattle.openapi_faults.proofs.cause.tag_cause.Goals as goal

pub returns-in-Some : goal.returns-in-Some
returns-in-Some c =
    ap (each Some) (sym (tag_there c.args.tag c.name-name.result.now c.name-name.ensures c.args.view.now c.in-Object.members
    c.in-Object.is c.in-Some.field-0.now c.in-Some.ensures.found))

pub returns-in-None : goal.returns-in-None
returns-in-None c =
    ap (each Some) (sym (tag_gone c.args.tag c.name-name.result.now c.name-name.ensures c.args.view.now c.in-Object.members
    c.in-Object.is c.in-None.ensures.found))
