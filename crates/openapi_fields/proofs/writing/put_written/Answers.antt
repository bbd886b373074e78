use Rattle.openapi_fields.proofs.Puts.{put_as}
use Rattle.openapi_fields.proofs.writing.put_written.Goals as goal

pub returns-in-Ok : goal.returns-in-Ok
returns-in-Ok c = λ k f h.
    put_as k f c.args.name.now c.in-Ok.node c.put.result c.args.out.now c.put.new.out (rw c.in-Ok.is at h)
    c.put.ensures.ok c.put.ensures.err

pub returns-in-Err : goal.returns-in-Err
returns-in-Err c = λ k f h. (c.in-Err.fault, c.at_name.ensures, rw c.in-Err.is at h)
