use Rattle.std.proofs.Common.{sym, ◌∙◌}
use Rattle.openapi_schema.proofs.Refusals.{other_fails}
use Rattle.openapi_schema.proofs.SchemaReads.{additional-schema}
use Rattle.openapi_schema.proofs.boxes.in_additional.Goals as goal

pub returns-in-Ok : goal.returns-in-Ok
returns-in-Ok c = λ ms h. let g = rw c.in-Ok.is at h in (g.0, g.1 ∙ sym (additional-schema c.in-Ok.value))

pub returns-in-Err : goal.returns-in-Err
returns-in-Err c = λ ms h. other_fails c.in-Err.fault ms (rw c.in-Err.is at h)
