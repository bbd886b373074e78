use Rattle.openapi_map.proofs.IndexLemmas.{distinct-nil}
use Rattle.openapi_map.proofs.OrderedMap.new.Goals as goal

pub invariant_of-result : goal.invariant_of-result
invariant_of-result g c = (distinct-nil, tt)
