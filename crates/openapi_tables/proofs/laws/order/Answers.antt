use Rattle.openapi_tables.proofs.ReadAlike.{order}
use Rattle.openapi_tables.proofs.laws.order.Goals as goal

pub returns : goal.returns
returns c T k x before after d e h s g = order T k x before after d e h s g
