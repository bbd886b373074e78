use Rattle.std.proofs.Common.{sym}
use Rattle.openapi_faults.proofs.Unlimited.{not_limited}
use Rattle.openapi_faults.proofs.limited.limits_in.Goals as goal

pub returns-in_default : goal.returns-in_default
returns-in_default c = sym (not_limited c.args.kind c.in_default.not-Number c.in_default.not-NumberOrNull)
