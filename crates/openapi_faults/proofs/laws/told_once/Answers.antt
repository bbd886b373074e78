use Rattle.openapi_faults.proofs.Once.{told_once}
use Rattle.openapi_faults.proofs.laws.told_once.Goals as goal

pub returns : goal.returns
returns c k t h = told_once k t h
