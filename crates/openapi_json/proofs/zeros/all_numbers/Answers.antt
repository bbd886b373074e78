use Rattle.std.proofs.Common.{map, ap, ◌∙◌}
use Rattle.openapi_json.specs.Zeros.{numbers_of_entry, of_all}
use Rattle.openapi_json.proofs.Unheld.{entries_end, entries_next}
use Rattle.openapi_json.proofs.zeros.all_numbers.Goals as goal

pub loop-numbers-preserved : goal.loop-numbers-preserved
loop-numbers-preserved c =
    entries_next c.loop-numbers.numbers-iterator _ c.next.new.self c.loop-numbers.all.items c.append.new.self.items _
    c.in-Some.ensures.steps c.in_ok-append.ensures.items c.loop-numbers.invariant

pub returns : goal.returns
returns c =
    entries_end c.loop-numbers.numbers-iterator _ _ c.in-None.ensures.steps.0
    (c.loop-numbers.invariant ∙ ap (λ es. of_all (map numbers_of_entry es)) c.into_iter-numbers-iterator.ensures.into_iter_gives.0)
