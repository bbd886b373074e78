use Rattle.std.proofs.Common.{◌≡◌, ◌++◌, drop}
use Rattle.openapi_normalize.specs.Indent as meaning
use Rattle.openapi_normalize.proofs.indent.indented.Given as goal

-- what is made so far, with what is made of the rest, is what is made of all
abbrev pub invariant-loop-byte : goal.invariant-loop-byte
invariant-loop-byte l =
    l.out.items ++ meaning.indented_from l.indent l.spot (drop l.byte-index l.byte-items) ≡ meaning.indented l.indent l.text
