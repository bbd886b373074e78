use Rattle.std.proofs.Common.{◌≡◌, ◌<◌, ◌≤◌, ◌+◌, inr, string_cmp, [], ◌∷◌, ◌++◌, length, get_or, take, sym, ap, subst}
use Rattle.std.proofs.Common.{◌∙◌, rules, append_assoc, append-nil, string_bytes}
use Rattle.std.proofs.lemmas.List.{take_more, take_all}
use Rattle.std.specs.List.Sorted.{IsStrictlySortedBy}
use Rattle.std.specs.Map.{keys_of}
use Rattle.serde_json.specs.Data as json
use Rattle.serde_json.specs.View.{view, items_view, members_view}
use Rattle.serde_json.specs.Written.{items_have_float, members_have_float}
use Rattle.serde_json.proofs.Views.{Entry}
use Rattle.serde_json.specs.declared.value.Value.{the_lemmas}
use Rattle.openapi_node.specs.Tree.{list, object, items_of, members_of}
use Rattle.openapi_map.specs.Entries.{get}
use Rattle.openapi_node.proofs.JsonLemmas.{not_whole_here, goes_up, at_item, at_member, trees, named_trees}
use Rattle.openapi_node.proofs.JsonLemmas.{no_float-push, no_float-member, trees-push, named_trees-push, absent_last}
use Rattle.openapi_node.proofs.JsonLemmas.{items_of-trees, members_of-named_trees}
use Rattle.openapi_node.proofs.read_value.+read.Goals as goal

pub read_node-returns-in-None-clause-err : goal.read_node-returns-in-None-clause-err
read_node-returns-in-None-clause-err t c =
    let n = Rattle.serde_json.specs.View.number_view c.in-Number.number in
    let is : view c.args.value.now ≡ json.number n = ap view c.in-Number.is ∙ search (rules, the_lemmas) in
    inr (not_whole_here c.new.result n (view c.args.value.now) c.new.ensures.place c.new.ensures.cause is
    c.in-None.ensures)

pub read_items-returns-in-Err-clause-err : goal.read_items-returns-in-Err-clause-err
read_items-returns-in-Err-clause-err t c =
    let vs = c.args.items.now.items in
    let i = c.loop-index.index in
    let v = c.item-item.result in
    let same = c.deref-item-items.ensures.value in
    goes_up _ (view v) (json.array (items_view vs)) c.in-Err.fault c.at_index.result c.at_index.ensures
    (at_item vs i v (subst (λ xs. i < length xs) same c.loop-index-test.true)
    (subst (λ xs. v ≡ get_or xs i v) same c.item-item.is)) c.in-Err.ensures.err

pub read_items-loop-index-preserved : goal.read_items-loop-index-preserved
read_items-loop-index-preserved t c =
    let vs = c.args.items.now.items in
    let i = c.loop-index.index in
    let v = c.item-item.result in
    let same = c.deref-item-items.ensures.value in
    let within : i < length vs = subst (λ xs. i < length xs) same c.loop-index-test.true in
    let next : take (i + 1) vs ≡ take i vs ++ v ∷ [] = take_more vs i v within
    ∙ ap (λ w. take i vs ++ w ∷ []) (sym (subst (λ xs. v ≡ get_or xs i v) same c.item-item.is)) in
    let read = c.in-Ok-read_node.ensures.ok in
    record {
      read = c.in_ok-push_node-in-Ok-read_node.ensures.ok
          ∙ (λ j. c.loop-index.invariant.read j ++ read.same j ∷ []) ∙ sym (ap trees next ∙ trees-push (take i vs) v);
      whole = ap (λ l. items_have_float (items_view l)) next
          ∙ no_float-push (take i vs) v c.loop-index.invariant.whole read.whole_numbers;
    }

pub read_items-returns-clause-ok : goal.read_items-returns-clause-ok
read_items-returns-clause-ok t c =
    let vs = c.args.items.now.items in
    let i = c.loop-index.index in
    let ended : length vs ≤ i = subst (λ xs. length xs ≤ i) c.deref-item-items.ensures.value c.loop-index-test.false in
    let all : take i vs ≡ vs = take_all i vs ended in
    record {
      whole_numbers = ap (λ l. items_have_float (items_view l)) (sym all) ∙ c.loop-index.invariant.whole;
      same = ap (λ l. list (items_of l)) (c.loop-index.invariant.read ∙ ap trees all) ∙ ap list (items_of-trees vs);
    }

pub read_members-returns-in-Err-clause-err : goal.read_members-returns-in-Err-clause-err
read_members-returns-in-Err-clause-err t c =
    let l = c.loop-name in
    let done = l.invariant.done in
    let e : Entry = (c.in-Some.name.now, c.in-Some.member.now) in
    let left = c.next.new.self in
    let all : c.args.members.now.entries ≡ done ++ e ∷ left = l.invariant.split
    ∙ ap (λ es. done ++ es) c.in-Some.ensures.steps in
    goes_up _ (view e.1) (json.object (members_view c.args.members.now.entries)) c.in-Err.fault
    c.at_name.result c.at_name.ensures
    (at_member done e left c.args.members.now.entries c.as_str.result.now all c.as_str.ensures.value
    c.iter-name-items.ensures.ordered) c.in-Err.ensures.err

pub read_members-push_member-requires : goal.read_members-push_member-requires
read_members-push_member-requires t c =
    let l = c.loop-name in
    let done = l.invariant.done in
    let e : Entry = (c.in-Some.name.now, c.in-Some.member.now) in
    let left = c.next.new.self in
    let all : c.args.members.now.entries ≡ done ++ e ∷ left = l.invariant.split
    ∙ ap (λ es. done ++ es) c.in-Some.ensures.steps in
    let sorted = subst (λ es. IsStrictlySortedBy string_cmp (keys_of es)) all c.iter-name-items.ensures.ordered in
    ap (get (string_bytes e.0)) l.invariant.read ∙ absent_last done e left sorted

pub read_members-loop-name-preserved : goal.read_members-loop-name-preserved
read_members-loop-name-preserved t c =
    let l = c.loop-name in
    let done = l.invariant.done in
    let e : Entry = (c.in-Some.name.now, c.in-Some.member.now) in
    let left = c.next.new.self in
    let all : c.args.members.now.entries ≡ done ++ e ∷ left = l.invariant.split
    ∙ ap (λ es. done ++ es) c.in-Some.ensures.steps in
    let read = c.in-Ok-read_node.ensures.ok in
    record {
      done = done ++ e ∷ [];
      split = all ∙ sym (append_assoc done (e ∷ []) left);
      read = c.in_ok-push_member-in-Ok-read_node.ensures.ok
          ∙ (λ j. l.invariant.read j ++ (string_bytes e.0, read.same j) ∷ []) ∙ sym (named_trees-push done e);
      whole = no_float-member done e l.invariant.whole read.whole_numbers;
    }

pub read_members-returns-clause-ok : goal.read_members-returns-clause-ok
read_members-returns-clause-ok t c =
    let l = c.loop-name in
    let done = l.invariant.done in
    let all : c.args.members.now.entries ≡ done = l.invariant.split
    ∙ ap (λ es. done ++ es) c.in-None.ensures.steps.0 ∙ append-nil done in
    record {
      whole_numbers = ap (λ es. members_have_float (members_view es)) all ∙ l.invariant.whole;
      same = ap (λ m. object (members_of m)) (l.invariant.read ∙ ap named_trees (sym all))
          ∙ ap object (members_of-named_trees c.args.members.now.entries);
    }
