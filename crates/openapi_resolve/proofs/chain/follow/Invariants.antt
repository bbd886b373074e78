use Rattle.std.proofs.Common.{◌≡◌}
use denote.Text.{Utf8}
use denote.Shadow.{shadow}
use Rattle.openapi_resolve.specs.Resolved.{followed, resolved}
use Rattle.openapi_resolve.proofs.chain.follow.Given as goal

-- the component is the one to which the current reference leads in the steps that are left
abbrev pub invariant-steps : goal.invariant-steps
invariant-steps g l =
    record {
      utf8 : shadow (Utf8 l.at);
      same : resolved l.section l.components l.reference ≡ followed l.left l.section l.components l.at;
    }

abbrev pub decreases-steps : goal.decreases-steps
decreases-steps g l = l.left
