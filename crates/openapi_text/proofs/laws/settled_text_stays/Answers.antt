use Rattle.openapi_text.proofs.Settled.{settled_text_stays}
use Rattle.openapi_text.proofs.laws.settled_text_stays.Goals as goal

pub returns : goal.returns
returns c l bytes text utf8 it = settled_text_stays l bytes text utf8 it
