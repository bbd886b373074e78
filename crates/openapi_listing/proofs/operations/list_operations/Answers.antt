use Rattle.openapi_tables.specs.Kind.{by, open_api}
use Rattle.openapi_listing.proofs.operations.list_operations.Goals as goal

pub returns-in-Err-clause-err : goal.returns-in-Err-clause-err
returns-in-Err-clause-err c = c.located.ensures (by open_api) c.in-Err.ensures.err
