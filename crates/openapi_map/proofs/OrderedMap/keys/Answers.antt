use Rattle.std.specs.Map.Iter.{deref}
use Rattle.openapi_map.proofs.IterLemmas.{shows_in_order}
use Rattle.openapi_map.proofs.OrderedMap.keys.Goals as goal

pub returns-clause-runs : goal.returns-clause-runs
returns-clause-runs g c = shows_in_order deref
