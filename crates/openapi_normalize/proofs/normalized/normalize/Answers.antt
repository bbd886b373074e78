use Rattle.openapi_normalize.specs.Normalized.{kind_of}
use Rattle.openapi_normalize.proofs.normalized.normalize.Goals as goal

pub returns-in-Err-clause-err : goal.returns-in-Err-clause-err
returns-in-Err-clause-err c = c.located.ensures (kind_of c.args.task.object) c.in-Err.ensures.err
