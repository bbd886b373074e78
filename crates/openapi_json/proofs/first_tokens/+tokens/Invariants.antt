use Rattle.std.proofs.Common.{◌≡◌, ◌+◌, ◌++◌, List, drop, length}
use Rattle.json.specs.Tree.{items_tokens, members_tokens}
use Rattle.json.specs.Value.{items_view, members_view}
use Rattle.openapi_json.specs.FirstTokens.{ItemsAreFirst, MembersAreFirst}
use Rattle.openapi_json.specs.declared.first_tokens.FirstToken.{FirstToken}
use Rattle.openapi_json.proofs.first_tokens.+tokens.Given as goal

-- the first tokens so far, followed by those of the rest, are those of all
abbrev pub invariant-of_items-loop-value : goal.invariant-of_items-loop-value
invariant-of_items-loop-value l =
    let rest = items_view (drop l.value-index l.value-items) in
    let all = items_view l.value-items in
    record {
      first : (ts : List FirstToken) → ItemsAreFirst rest l.next ts → ItemsAreFirst all l.initial.next (l.tokens.items ++ ts);
      next : l.next + length (items_tokens rest) ≡ l.initial.next + length (items_tokens all);
    }

abbrev pub invariant-of_members-loop-member : goal.invariant-of_members-loop-member
invariant-of_members-loop-member l =
    let rest = members_view (drop l.member-index l.member-items) in
    let all = members_view l.member-items in
    record {
      first : (ts : List FirstToken) → MembersAreFirst rest l.next ts → MembersAreFirst all l.initial.next (l.tokens.items ++ ts);
      next : l.next + length (members_tokens rest) ≡ l.initial.next + length (members_tokens all);
    }
