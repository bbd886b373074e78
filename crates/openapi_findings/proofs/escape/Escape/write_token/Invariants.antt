use Rattle.std.proofs.Common.{◌≡◌, ℕ, List, ◌++◌}
use Rattle.std.specs.Fmt.{HasWritten, IsPlainFormatter}
use Rattle.std.specs.Str.{IsUtf8}
use Rattle.std.specs.Str.Iter.{chars_rest}
use Rattle.openapi_findings.specs.Escaped.{escaped, in_token, written}
use Rattle.openapi_findings.proofs.escape.Escape.write_token.Given as goal

-- what is written so far, and what is left, are the whole text
abbrev pub invariant-loop-c : goal.invariant-loop-c
invariant-loop-c g l =
    IsUtf8 (chars_rest l.c-iterator)
    × (IsPlainFormatter l.initial.f
    → (done : List ℕ) × HasWritten g.W.Write.write_str_gives l.initial.f done l.f
    × (done ++ written (in_token (escaped l.self)) (chars_rest l.c-iterator) ≡ written (in_token (escaped l.self)) l.name))
