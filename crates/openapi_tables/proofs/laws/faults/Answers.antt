use Rattle.openapi_tables.proofs.FaultFound.{faults}
use Rattle.openapi_tables.proofs.laws.faults.Goals as goal

pub returns : goal.returns
returns c T k t W s = faults T k t W s
