use Rattle.openapi_tables.proofs.ReadAlike.{ignored}
use Rattle.openapi_tables.proofs.laws.ignored.Goals as goal

pub returns : goal.returns
returns c T k d before after e h s g = ignored T k d before after e h s g
