use Rattle.openapi_faults.proofs.Ignored.{dropped_ignored}
use Rattle.openapi_faults.proofs.laws.dropped_ignored.Goals as goal

pub returns : goal.returns
returns c k t h = dropped_ignored k t h
