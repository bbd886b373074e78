use Rattle.std.proofs.Common.{◌≡◌, ℕ, false, length, string_bytes}
use denote.Text.{Utf8}
use denote.Shadow.{shadow}
use Rattle.openapi_pointer.specs.Tokens.{before_name, name_after}
use Rattle.openapi_pointer.proofs.token.name_of.Given as goal

-- the name of the token is the name so far, followed by that of the rest
abbrev pub invariant-loop-before : goal.invariant-loop-before
invariant-loop-before l =
    record {
      utf8 : shadow (Utf8 l.left);
      name : name_after false l.token ≡ before_name (string_bytes l.name) (name_after false l.left);
    }

abbrev pub decreases-loop-before : goal.decreases-loop-before
decreases-loop-before l = length l.left
