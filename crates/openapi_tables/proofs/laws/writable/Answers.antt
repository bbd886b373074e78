use Rattle.openapi_tables.proofs.WritableLaws.{writable}
use Rattle.openapi_tables.proofs.laws.writable.Goals as goal

pub returns : goal.returns
returns c = writable
