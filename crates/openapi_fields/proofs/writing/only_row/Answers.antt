use Rattle.openapi_fields.proofs.Puts.{only_lost, only_written}
use Rattle.openapi_fields.proofs.writing.only_row.Goals as goal

pub returns-in-Ok-put_written : goal.returns-in-Ok-put_written
returns-in-Ok-put_written c = λ k f h.
    only_written c.args.name.now k f c.in-Ok.out c.put_written.new.out c.in-Ok.ensures
    (rw c.in-Ok-put_written.is at (c.put_written.ensures k f h))

pub returns-in-Err : goal.returns-in-Err
returns-in-Err c = λ k f h.
    only_lost c.args.name.now k f c.in-Err.fault c.in-Ok.out c.put_written.new.out c.in-Ok.ensures
    (rw c.in-Err.is at (c.put_written.ensures k f h))
