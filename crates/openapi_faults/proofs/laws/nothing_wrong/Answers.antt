use Rattle.openapi_faults.proofs.Complete.{nothing_wrong}
use Rattle.openapi_faults.proofs.laws.nothing_wrong.Goals as goal

pub returns : goal.returns
returns c k t = nothing_wrong k t
