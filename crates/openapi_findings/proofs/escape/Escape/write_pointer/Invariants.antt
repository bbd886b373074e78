use Rattle.std.proofs.Common.{take}
use Rattle.std.specs.Fmt.{HasWritten, IsPlainFormatter}
use Rattle.openapi_findings.specs.Escaped.{escaped, pointer_text}
use Rattle.openapi_findings.proofs.escape.Escape.write_pointer.Given as goal

-- the steps so far are written
abbrev pub invariant-loop-step : goal.invariant-loop-step
invariant-loop-step g l =
    IsPlainFormatter l.initial.f
    → HasWritten g.W.Write.write_str_gives l.initial.f (pointer_text (escaped l.self) (take l.step-index l.place)) l.f
