use Rattle.openapi_tables.proofs.TablesKept.{callbacks_kept}
use Rattle.openapi_tables.proofs.laws.callbacks_kept.Goals as goal

pub returns : goal.returns
returns c k t = callbacks_kept k t
