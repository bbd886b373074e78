use Rattle.std.proofs.Common.{◌++◌, ◌∷◌, [], map, string_bytes, sym, ap, ◌∙◌, arith}
use Rattle.std.proofs.lemmas.List.{map-append}
use Rattle.json.specs.Value.{value_view}
use Rattle.openapi_node.specs.Fault.{step_of}
use Rattle.openapi_node.specs.Place.{indexed, named}
use Rattle.openapi_json.specs.Zeros.{numbers_in}
use Rattle.openapi_json.proofs.Unheld.{items_end, items_next, members_next, popped}
use Rattle.openapi_json.proofs.zeros.+numbers.Goals as goal

pub numbers_below-returns-clause-place : goal.numbers_below-returns-clause-place
numbers_below-returns-clause-place t c =
    popped _ c.numbers_of.new.place.items c.pop.new.self.items c.args.place.now.items c.args.step
    (sym c.numbers_of.new.place.ok.0) (c.in_ok-numbers.ensures.place ∙ c.in_ok-push.ensures.items) c.pop.ensures.rest

pub numbers_below-returns-clause-numbers : goal.numbers_below-returns-clause-numbers
numbers_below-returns-clause-numbers t c =
    c.in_ok-numbers.ensures.numbers
    ∙ ap (λ p. numbers_in p (value_view c.args.value.now))
    (ap (map step_of) c.in_ok-push.ensures.items ∙ map-append step_of c.args.place.now.items (c.args.step ∷ []))

pub numbers_of_items-loop-index-preserved : goal.numbers_of_items-loop-index-preserved
numbers_of_items-loop-index-preserved t c =
    let l = c.loop-index in
    let v = c.index-value.result.now in
    let more = c.in_ok-more in
    record {
      place = more.ensures.place ∙ l.invariant.place;
      numbers = items_next (map step_of c.args.place.now.items) c.args.values.now.items l.index v l.numbers.items c.append.new.self.items
          more.more.items _ (omega (arith, c.loop-index-test.true, c.len-index-end.ensures)) c.index-value.ensures c.in_ok-append.ensures.items
          (more.ensures.numbers ∙ ap (λ q. numbers_in (map step_of q ++ indexed l.index ∷ []) (value_view v)) l.invariant.place)
          l.invariant.numbers;
    }

pub numbers_of_items-returns-clause-numbers : goal.numbers_of_items-returns-clause-numbers
numbers_of_items-returns-clause-numbers t c =
    let l = c.loop-index in
    items_end (map step_of c.args.place.now.items) c.args.values.now.items l.index _ _ (omega (arith, c.loop-index-test.false))
    l.invariant.numbers

pub numbers_of_members-loop-member-preserved : goal.numbers_of_members-loop-member-preserved
numbers_of_members-loop-member-preserved t c =
    let l = c.loop-member in
    let m = c.member-item.result in
    let more = c.in_ok-numbers in
    record {
      place = more.ensures.place ∙ l.invariant.place;
      numbers = members_next (map step_of c.args.place.now.items) c.deref-member-items.result.now l.member-index m l.found c.insert.new.self
          (string_bytes c.in_ok-name.name) more.numbers _ c.loop-member-test.true c.member-item.is c.in_ok-name.ensures.ok
          c.in_ok-insert.ensures.entries
          (more.ensures.numbers
          ∙ (λ i. numbers_in (map step_of (l.invariant.place i) ++ named (c.in_ok-from_str.ensures.ok i) ∷ []) (value_view m.1)))
          l.invariant.numbers;
    }
