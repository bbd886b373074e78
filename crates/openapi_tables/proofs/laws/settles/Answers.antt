use Rattle.openapi_tables.proofs.again.Cleaned.{settled}
use Rattle.openapi_tables.proofs.laws.settles.Goals as goal

pub returns : goal.returns
returns c T k f W s h = settled T W k f s h
