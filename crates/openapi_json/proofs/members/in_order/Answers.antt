use Rattle.std.proofs.Common.{◌≡◌, [], ◌∷◌, ◌++◌, String, Global, string_cmp, sym, ap, ◌∙◌, subst, append_assoc}
use Rattle.std.specs.List.Sorted.{IsStrictlySortedBy}
use Rattle.std.specs.Map.{keys_of}
use Rattle.std.specs.String.{string_bytes}
use Rattle.openapi_map.specs.Entries.{get, owned_entry}
use Rattle.openapi_node.specs.Tree.{Tree}
use Rattle.openapi_json.specs.Gathered.{AllBelow, Ascends}
use Rattle.openapi_json.proofs.Order.{absent_below, ascends-push, owned-push, sorted_below}
use Rattle.openapi_json.proofs.members.in_order.Goals as goal

pub push_new-requires : goal.push_new-requires
push_new-requires c =
    let l = c.loop-name.invariant in
    let e : String Global × Tree = (c.in-Some.name, c.in-Some.node) in
    let left = c.next.new.self in
    let all : c.args.members.entries ≡ l.done ++ e ∷ left = l.split ∙ ap (λ es. l.done ++ es) c.in-Some.ensures.steps in
    let gives = c.into_iter-name-iterator.ensures.into_iter_gives in
    let below = sorted_below l.done e left (subst (λ es. IsStrictlySortedBy string_cmp (keys_of es)) all gives.5) in
    ap (get (string_bytes e.0)) l.kept ∙ absent_below (string_bytes e.0) _ below

pub loop-name-preserved : goal.loop-name-preserved
loop-name-preserved c =
    let l = c.loop-name.invariant in
    let e : String Global × Tree = (c.in-Some.name, c.in-Some.node) in
    let left = c.next.new.self in
    let all : c.args.members.entries ≡ l.done ++ e ∷ left = l.split ∙ ap (λ es. l.done ++ es) c.in-Some.ensures.steps in
    let gives = c.into_iter-name-iterator.ensures.into_iter_gives in
    let below = sorted_below l.done e left (subst (λ es. IsStrictlySortedBy string_cmp (keys_of es)) all gives.5) in
    let n = string_bytes e.0 in
    record {
      done = l.done ++ e ∷ [];
      split = all ∙ sym (append_assoc l.done (e ∷ []) left);
      kept = c.in_ok-push_new.ensures.entries ∙ (λ j. l.kept j ++ owned_entry e ∷ []) ∙ sym (owned-push l.done e);
      order = subst Ascends (sym c.in_ok-push_new.ensures.entries)
          (ascends-push n e.1 c.loop-name.out l.order (subst (AllBelow n) (sym l.kept) below));
    }
