use Rattle.std.proofs.Common.{◌≡◌, take}
use Rattle.std.specs.String.{string_bytes}
use Rattle.openapi.specs.Lines.{findings_text}
use Rattle.openapi.proofs.output.printed.Given as goal

-- the findings so far
abbrev pub invariant-loop-finding : goal.invariant-loop-finding
invariant-loop-finding l =
    string_bytes l.text ≡ findings_text l.format l.file l.bytes (take l.finding-index l.findings)
