use Rattle.std.proofs.Common.{◌≡◌, ◌+◌, ℕ, List, drop, length, map}
use Rattle.std.specs.Prelude.{reverse}
use Rattle.json.specs.Value.{members_view}
use Rattle.openapi_removal.specs.Below.{at_name, places_of}
use Rattle.openapi_removal.specs.Plans.{left_for, planned, plans}
use Rattle.openapi_removal.proofs.plan.plans_of.Given as goal

-- the plans so far are those of the last members, and the groups have the locations that are left for the others
abbrev pub invariant-loop-left : goal.invariant-loop-left
invariant-loop-left l =
    let later = members_view (drop l.left l.members.items) in
    record {
      plans : map planned (reverse l.plans.items) ≡ plans (places_of l.places) later;
      left : (n : List ℕ) → at_name l.groups n ≡ left_for (places_of l.places) later n;
      count : length l.plans.items + l.left ≡ length l.members.items;
    }

abbrev pub decreases-loop-left : goal.decreases-loop-left
decreases-loop-left l = l.left
