use Rattle.openapi_faults.proofs.Complete.{all_told}
use Rattle.openapi_faults.proofs.laws.all_told.Goals as goal

pub returns : goal.returns
returns c k t p d = all_told k t p d
