use Rattle.std.proofs.Common.{◌≡◌, ◌≤◌, drop, length}
use Rattle.json.specs.Value.{items_view, members_view}
use Rattle.openapi_removal.specs.Below.{places_of}
use Rattle.openapi_removal.specs.Without.{items_without, members_without}
use Rattle.openapi_removal.proofs.compare.+compare.Given as goal

-- the items from `left` on are those of the other value, without the members
abbrev pub invariant-items_are_without-loop-left : goal.invariant-items_are_without-loop-left
invariant-items_are_without-loop-left l =
    record {
      same : items_view (drop l.left l.found.items) ≡ items_without (places_of l.places) l.left (items_view (drop l.left l.values.items));
      within : l.left ≤ length l.values.items;
    }

abbrev pub decreases-items_are_without-loop-left : goal.decreases-items_are_without-loop-left
decreases-items_are_without-loop-left l = l.left

-- the members from `rest` on are those of the other object from `left` on, without the members
abbrev pub invariant-members_are_without-loop-left : goal.invariant-members_are_without-loop-left
invariant-members_are_without-loop-left l =
    record {
      same : members_view (drop l.rest l.found.items) ≡ members_without (places_of l.places) (members_view (drop l.left l.members.items));
      within : l.left ≤ length l.members.items;
      rest : l.rest ≤ length l.found.items;
    }

abbrev pub decreases-members_are_without-loop-left : goal.decreases-members_are_without-loop-left
decreases-members_are_without-loop-left l = l.left
