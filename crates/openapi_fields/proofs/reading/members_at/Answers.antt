use Rattle.std.proofs.Common.{sym, arith}
use Rattle.openapi_node.specs.View.{shown}
use Rattle.openapi_fields.proofs.EntryReading.{members_fail}
use Rattle.openapi_fields.proofs.reading.members_at.Goals as goal

pub returns-in-Err : goal.returns-in-Err
returns-in-Err c =
    record {
      value = c.in-Some.node.now;
      is = sym c.in-Some.ensures.found;
      counted = c.open-view.ensures.counted;
      within = omega (arith, c.in-Some.ensures.smaller);
      fails = members_fail c.args.name.now c.members_shown.result c.in-Err.fault (shown c.open-view.result)
          c.in-Some.node.now c.open-view.ensures.shown c.in-Err.ensures c.members_shown.ensures;
    }
