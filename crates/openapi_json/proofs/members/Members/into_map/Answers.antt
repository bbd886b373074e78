use Rattle.std.proofs.Common.{subst}
use Rattle.openapi_json.specs.Gathered.{IsInOrder}
use Rattle.openapi_json.proofs.members.Members.into_map.Goals as goal

pub few_in_order-requires : goal.few_in_order-requires
few_in_order-requires c = subst IsInOrder c.in-Few.is c.requires
