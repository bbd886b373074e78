use Rattle.openapi_text.proofs.Settled.{settled_text_reads}
use Rattle.openapi_text.proofs.laws.settled_text_reads.Goals as goal

pub returns : goal.returns
returns c bytes text utf8 it = settled_text_reads bytes text utf8 it
