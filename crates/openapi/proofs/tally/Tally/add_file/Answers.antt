use Rattle.std.proofs.Common.{arith, rules}
use Rattle.openapi.proofs.Raising.{one_more}
use Rattle.openapi.proofs.tally.Tally.add_file.Goals as goal

pub loop-finding-preserved : goal.loop-finding-preserved
loop-finding-preserved c =
    let l = c.loop-finding in
    omega (
      arith,
      l.invariant,
      one_more c.args.deny_warnings c.args.findings.now l.finding-index c.finding-item.result (search rules) c.finding-item.is,
    )
