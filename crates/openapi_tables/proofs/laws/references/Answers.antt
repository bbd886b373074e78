use Rattle.openapi_tables.proofs.ReadAlike.{references}
use Rattle.openapi_tables.proofs.laws.references.Goals as goal

pub returns : goal.returns
returns c T k es u m h = references T k es u m h
