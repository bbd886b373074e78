use Rattle.openapi_tables.proofs.again.ReadAgain.{read_again}
use Rattle.openapi_tables.proofs.again.FirstValue.{first_stays}
use Rattle.openapi_tables.proofs.laws.first_value.Goals as goal

pub returns : goal.returns
returns c T k t W s = (first_stays T W t k s, read_again T W t k s)
