use Rattle.openapi_text.proofs.Settled.{nests_no_deeper}
use Rattle.openapi_text.proofs.laws.nests_no_deeper.Goals as goal

pub returns : goal.returns
returns c k t = nests_no_deeper k t
