use Rattle.std.proofs.Common.{sym, ◌∙◌}
use Rattle.openapi_tables.proofs.ByRowLaws.{same_bytes}
use Rattle.openapi_faults.proofs.members.is_same.Goals as goal

pub returns : goal.returns
returns c = c.eq.ensures ∙ sym (same_bytes c.args.a.now c.args.b.now)
