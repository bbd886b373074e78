use Rattle.std.proofs.Common.{inr}
use Rattle.openapi_node.specs.Place.{named}
use Rattle.openapi_fields.proofs.Below.{step_err, step_ok}
use Rattle.openapi_fields.proofs.EntryReading.{value_put}
use Rattle.openapi_fields.proofs.reading.put_read.Goals as goal

pub returns-in-Ok : goal.returns-in-Ok
returns-in-Ok g c = λ view k u h.
    value_put view k u c.args.name.now c.in-Ok.value c.put.result c.args.values.now c.put.new.out
    (step_ok view (named c.args.name.now) k u c.args.read c.in-Ok.value c.in-Ok.ensures h) c.put.ensures.ok
    c.put.ensures.err

pub returns-in-Err : goal.returns-in-Err
returns-in-Err g c = λ view k u h.
    inr (step_err view (named c.args.name.now) k u c.args.read c.in-Err.fault c.in-Err.ensures h)
