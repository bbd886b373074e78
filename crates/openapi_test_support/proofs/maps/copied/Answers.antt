use Rattle.std.proofs.Common.{◌≡◌, ℕ, List, ◌+◌, ◌++◌, ◌∷◌, [], Bor, length, take, sym, ap, ◌∙◌, length-append}
use Rattle.std.proofs.lemmas.Map.Iter.{iter_turn}
use Rattle.std.specs.Map.Iter.{deref_pair}
use Rattle.openapi_map.specs.Entries.{Entries, get}
use Rattle.openapi_map.proofs.EntryLemmas.{absent-next, push-next}
use Rattle.openapi_test_support.proofs.maps.copied.Goals as goal

pub push_new-requires : goal.push_new-requires
push_new-requires c =
    let m = c.args.map.now in
    let xs = c.loop-name.yielded in
    let x : Bor (List ℕ) × Bor ℕ = (c.in-Some.name, c.in-Some.value) in
    let gives = c.into_iter-name-iterator.ensures.into_iter_gives in
    let turn = iter_turn deref_pair m xs _ _ _ _ gives.0 c.loop-name.yielded_by x c.in-Some.is c.next.ensures.steps in
    let absent = absent-next m (length xs) (deref_pair x) gives.2 turn.1 in
    (λ i. get (c.in_ok-from_str.ensures.ok i) (c.loop-name.invariant i)) ∙ absent

pub loop-name-preserved : goal.loop-name-preserved
loop-name-preserved c =
    let m = c.args.map.now in
    let xs = c.loop-name.yielded in
    let x : Bor (List ℕ) × Bor ℕ = (c.in-Some.name, c.in-Some.value) in
    let gives = c.into_iter-name-iterator.ensures.into_iter_gives in
    let turn = iter_turn deref_pair m xs _ _ _ _ gives.0 c.loop-name.yielded_by x c.in-Some.is c.next.ensures.steps in
    let more : length (xs ++ x ∷ []) ≡ length xs + 1 = length-append xs (x ∷ []) in
    let pushed : Entries ℕ → List ℕ → Entries ℕ = λ es name. es ++ (name, c.in-Some.value.now) ∷ [] in
    c.in_ok-push_new.ensures.entries ∙ (λ i. pushed (c.loop-name.invariant i) (c.in_ok-from_str.ensures.ok i))
    ∙ push-next m (length xs) (deref_pair x) turn.1 ∙ ap (λ n. take n m) (sym more)
