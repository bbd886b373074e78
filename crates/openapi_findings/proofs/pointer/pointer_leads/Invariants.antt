use Rattle.std.proofs.Common.{◌≡◌, length}
use denote.Text.{Utf8}
use denote.Shadow.{shadow}
use Rattle.openapi_pointer.specs.Tokens.{tokens_in}
use Rattle.openapi_findings.specs.Pointers.{value_at}
use Rattle.openapi_findings.proofs.pointer.pointer_leads.Given as goal

-- the pointer leads where the rest of it leads from the value so far
abbrev pub invariant-loop-token : goal.invariant-loop-token
invariant-loop-token l =
    record {
      utf8 : shadow (Utf8 l.left);
      leads : value_at (tokens_in l.pointer) l.document ≡ value_at (tokens_in l.left) l.at;
    }

abbrev pub decreases-loop-token : goal.decreases-loop-token
decreases-loop-token l = length l.left
