use Rattle.std.proofs.Common.{◌≡◌, ℕ, List, ◌++◌}
use Rattle.std.specs.Fmt.{HasWritten, IsPlainFormatter}
use Rattle.std.specs.Str.{IsUtf8}
use Rattle.std.specs.Str.Iter.{chars_rest}
use Rattle.openapi_findings.specs.Escaped.{escaped, written}
use Rattle.openapi_findings.proofs.escape.Escape.write.Given as goal

-- what is written so far, and what is left, are the whole text
abbrev pub invariant-loop-c : goal.invariant-loop-c
invariant-loop-c g l =
    IsUtf8 (chars_rest l.c-iterator)
    × (IsPlainFormatter l.initial.f
    → (done : List ℕ) × HasWritten g.W.Write.write_str_gives l.initial.f done l.f
    × (done ++ written (escaped l.self) (chars_rest l.c-iterator) ≡ written (escaped l.self) l.text))
