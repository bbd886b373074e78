use Rattle.openapi_faults.proofs.Complete.{refusal_told}
use Rattle.openapi_faults.proofs.laws.refusal_told.Goals as goal

pub returns : goal.returns
returns c f k t h = refusal_told f k t h
