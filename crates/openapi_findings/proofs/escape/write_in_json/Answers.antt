use Rattle.std.proofs.Common.{arith}
use Rattle.std.proofs.Output.{has_written_of_eq}
use Rattle.openapi_findings.proofs.Writing.{control_in_json}
use Rattle.openapi_findings.proofs.escape.write_in_json.Goals as goal

pub returns-in_default : goal.returns-in_default
returns-in_default g c plain ok =
    let wrote = rw (c.laid_out.ensures, c.in_radix.ensures) at c.write.ensures.writes in
    has_written_of_eq _ _ _ _ _ (control_in_json c.args.c (omega arith) (omega arith) (omega arith) (omega arith)) (wrote plain ok)
