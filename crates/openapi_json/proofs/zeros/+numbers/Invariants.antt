use Rattle.std.proofs.Common.{◌≡◌, ◌++◌, [], drop, map}
use Rattle.json.specs.Value.{items_view, members_view}
use Rattle.openapi_node.specs.Fault.{step_of}
use Rattle.openapi_json.specs.Zeros.{numbers_in_items, numbers_in_members, numbers_of_entry, replaced_of}
use Rattle.openapi_json.proofs.zeros.+numbers.Given as goal

-- the numbers so far, with those of the rest, are those of all
abbrev pub invariant-numbers_of_items-loop-index : goal.invariant-numbers_of_items-loop-index
invariant-numbers_of_items-loop-index l =
    let p = map step_of l.initial.place.items in
    record {
      place : l.place.items ≡ l.initial.place.items;
      numbers : map replaced_of l.numbers.items ++ numbers_in_items p l.index (items_view (drop l.index l.values.items))
          ≡ numbers_in_items p 0 (items_view l.values.items);
    }

abbrev pub invariant-numbers_of_members-loop-member : goal.invariant-numbers_of_members-loop-member
invariant-numbers_of_members-loop-member l =
    let p = map step_of l.initial.place.items in
    record {
      place : l.place.items ≡ l.initial.place.items;
      numbers : numbers_in_members p (members_view (drop l.member-index l.member-items)) (map numbers_of_entry l.found)
          ≡ numbers_in_members p (members_view l.member-items) [];
    }
