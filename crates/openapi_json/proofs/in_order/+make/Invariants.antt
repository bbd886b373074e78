use Rattle.std.proofs.Common.{◌≡◌, ◌&&◌, ◌++◌, [], drop}
use Rattle.json.specs.Value.{items_view, members_view}
use Rattle.openapi_json.specs.Ordered.{entries_of, items_whole, members_whole, trees_of}
use Rattle.openapi_json.proofs.in_order.+make.Given as goal

-- the nodes made so far, with those made of the rest, are those made of all
abbrev pub invariant-nodes_of-loop-value : goal.invariant-nodes_of-loop-value
invariant-nodes_of-loop-value l =
    let rest = items_view (drop l.value-index l.value-items) in
    let all = items_view l.value-items in
    record {
      made : l.nodes.items ++ trees_of rest ≡ trees_of all;
      whole : (l.whole && items_whole rest) ≡ (l.initial.whole && items_whole all);
    }

abbrev pub invariant-members_of-loop-member : goal.invariant-members_of-loop-member
invariant-members_of-loop-member l =
    let rest = members_view (drop l.member-index l.member-items) in
    let all = members_view l.member-items in
    record {
      made : entries_of rest l.nodes ≡ entries_of all [];
      whole : (l.whole && members_whole rest) ≡ (l.initial.whole && members_whole all);
    }
