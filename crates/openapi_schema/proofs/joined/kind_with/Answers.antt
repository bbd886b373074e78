use Rattle.openapi_schema.proofs.SchemaReads.{kind_read}
use Rattle.openapi_schema.proofs.joined.kind_with.Goals as goal

pub returns-in-Ok-clause-reads : goal.returns-in-Ok-clause-reads
returns-in-Ok-clause-reads c = λ ms h.
    kind_read c.schema_kind.result c.in-Ok.names ms (rw c.in-Ok.is at h) c.schema_kind.ensures.reads c.schema_kind.ensures.err

pub returns-in-Err-clause-reads : goal.returns-in-Err-clause-reads
returns-in-Err-clause-reads c = λ ms h. rw c.in-Err.is at h
