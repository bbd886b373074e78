use Rattle.openapi_node.specs.Tree.{members_of}
use Rattle.openapi_schema.proofs.KindGives.{kind_fails}
use Rattle.openapi_schema.proofs.Refusals.{data_fails}
use Rattle.openapi_schema.proofs.SchemaReads.{schema_reads}
use Rattle.openapi_schema.proofs.joined.schema_with.Goals as goal

pub returns-in-Ok-from_members-clause-reads : goal.returns-in-Ok-from_members-clause-reads
returns-in-Ok-from_members-clause-reads c = λ h.
    schema_reads (record { schema_data = c.in-Ok-from_members.schema_data; schema_kind = c.in-Ok.schema_kind })
    (members_of c.args.members.now) c.in-Ok-from_members.ensures.reads (rw c.in-Ok.is at h)

pub returns-in-Err-from_members-clause-reads : goal.returns-in-Err-from_members-clause-reads
returns-in-Err-from_members-clause-reads c = λ h.
    data_fails c.in-Err-from_members.fault (members_of c.args.members.now) c.in-Err-from_members.ensures.reads

pub returns-in-Err-clause-reads : goal.returns-in-Err-clause-reads
returns-in-Err-clause-reads c = λ h. kind_fails c.in-Err.fault (members_of c.args.members.now) (rw c.in-Err.is at h)
