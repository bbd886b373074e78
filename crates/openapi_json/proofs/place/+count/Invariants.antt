use Rattle.std.proofs.Common.{◌≡◌, ◌+◌, ◌*◌, drop, length}
use Rattle.json.specs.Tree.{json_tokens}
use Rattle.json.specs.Value.{value_view}
use Rattle.openapi_json.specs.Positions.{flat, item_tokens, member_tokens}
use Rattle.openapi_json.proofs.place.+count.Given as goal

abbrev pub decreases-count : goal.decreases-count
decreases-count l = 2 * length (json_tokens (value_view l.value.now))

abbrev pub decreases-count_items : goal.decreases-count_items
decreases-count_items l = 2 * length (flat item_tokens l.values.now) + 1

abbrev pub decreases-count_members : goal.decreases-count_members
decreases-count_members l = 2 * length (flat member_tokens l.members.now) + 1

-- the tokens counted so far, with those of the rest, are all
abbrev pub invariant-count_items-loop-value : goal.invariant-count_items-loop-value
invariant-count_items-loop-value l =
    l.sum + length (flat item_tokens (drop l.value-index l.values)) ≡ length (flat item_tokens l.values)

abbrev pub invariant-count_members-loop-member : goal.invariant-count_members-loop-member
invariant-count_members-loop-member l =
    l.sum + length (flat member_tokens (drop l.member-index l.members)) ≡ length (flat member_tokens l.members)
