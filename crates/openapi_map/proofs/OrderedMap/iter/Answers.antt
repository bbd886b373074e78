use Rattle.std.proofs.Common.{length, ap, ◌∙◌, arith}
use Rattle.std.specs.Map.Iter.{deref_pair}
use Rattle.openapi_map.specs.Entries.{entries_of}
use Rattle.openapi_map.specs.Held.{kept}
use Rattle.openapi_map.proofs.EntryLemmas.{even-columns, entries-columns}
use Rattle.openapi_map.proofs.HeldLemmas.{small-kept}
use Rattle.openapi_map.proofs.IterLemmas.{shows_in_order, shows_values_in_order}
use Rattle.openapi_map.proofs.OrderedMap.iter.Goals as goal

pub invariant_of-result : goal.invariant_of-result
invariant_of-result g c =
    let names = c.kept_names.result.now in
    let values = c.kept_values.result.now in
    let es = kept c.self.inside.held in
    omega (
      arith,
      ap length c.iter.ensures.rest,
      ap length c.iter-2.ensures.rest,
      even-columns names values es c.kept_names.ensures c.kept_values.ensures,
    )

pub returns-clause-rest : goal.returns-clause-rest
returns-clause-rest g c =
    let names = c.kept_names.result.now in
    let values = c.kept_values.result.now in
    let es = kept c.self.inside.held in
    (λ j. entries_of (c.iter.ensures.rest j) (c.iter-2.ensures.rest j))
    ∙ entries-columns names values es c.kept_names.ensures c.kept_values.ensures ∙ c.self.view_is

pub returns-clause-runs : goal.returns-clause-runs
returns-clause-runs g c = shows_in_order deref_pair

pub returns-clause-values_run : goal.returns-clause-values_run
returns-clause-values_run g c = shows_values_in_order deref_pair

pub returns-clause-fits : goal.returns-clause-fits
returns-clause-fits g c =
    omega (arith, ap length c.self.view_is, small-kept c.self.inside.held c.self.invariant.1)
