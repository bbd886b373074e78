use Rattle.openapi_faults.proofs.Complete.{tags_of_tables}
use Rattle.openapi_faults.proofs.laws.tags_of_tables.Goals as goal

pub returns : goal.returns
returns c i n = tags_of_tables i n
