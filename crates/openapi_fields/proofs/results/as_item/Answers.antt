use Rattle.openapi_fields.proofs.Referring.{fails_item, reads_item}
use Rattle.openapi_fields.proofs.results.as_item.Goals as goal

pub returns-in-Ok : goal.returns-in-Ok
returns-in-Ok g c = λ view k t none h. reads_item k view t c.in-Ok.value none (rw c.in-Ok.is at h)

pub returns-in-Err : goal.returns-in-Err
returns-in-Err g c = λ view k t none h. fails_item k view t c.in-Err.fault none (rw c.in-Err.is at h)
