use Rattle.std.proofs.Common.{◌≡◌, ◌++◌, replicate}
use Rattle.openapi_normalize.proofs.indent.push_spaces.Given as goal

-- the spaces so far are appended
abbrev pub invariant-loop : goal.invariant-loop
invariant-loop l = l.out.items ≡ l.initial.out.items ++ replicate l.counter 32
