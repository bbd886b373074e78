use Rattle.std.proofs.Common.{sym, subst}
use Rattle.openapi_map.specs.Entries.{HasDistinctNames}
use Rattle.openapi_map.proofs.IndexLemmas.{distinct-nil}
use Rattle.openapi_map.proofs.OrderedMap.with_capacity.Goals as goal

pub invariant_of-result : goal.invariant_of-result
invariant_of-result g c = (
  subst HasDistinctNames (sym c.in_ok-with_capacity.ensures.entries) distinct-nil,
  c.in_ok-with_capacity.ensures.consistent,
)
