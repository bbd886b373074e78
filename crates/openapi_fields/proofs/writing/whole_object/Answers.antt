use Rattle.std.proofs.Common.{List, subst}
use Rattle.openapi_tables.specs.Form.{Form}
use Rattle.openapi_fields.specs.Returned.{NotWritable}
use Rattle.openapi_fields.proofs.Records.{record_loses, record_writes}
use Rattle.openapi_fields.proofs.writing.whole_object.Goals as goal

pub returns-in-Ok : goal.returns-in-Ok
returns-in-Ok c = λ i fs h.
    record_writes (λ (gs : List Form). gs) fs i c.object.result c.in-Ok.members (rw c.in-Ok.is at h)
    c.object.ensures

pub returns-in-Err : goal.returns-in-Err
returns-in-Err c = λ i fs h.
    subst (λ ps. NotWritable c.in-Err.fault ps) (record_loses (λ (gs : List Form). gs) fs i) (rw c.in-Err.is at h)
