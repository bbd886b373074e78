use Rattle.std.proofs.Common.{length, ap, arith}
use Rattle.std.specs.Map.Iter.{deref}
use Rattle.openapi_map.proofs.HeldLemmas.{small-kept}
use Rattle.openapi_map.proofs.IterLemmas.{shows_in_order}
use Rattle.openapi_map.proofs.OrderedMap.values.Goals as goal

pub returns-clause-runs : goal.returns-clause-runs
returns-clause-runs g c = shows_in_order deref

pub returns-clause-fits : goal.returns-clause-fits
returns-clause-fits g c =
    omega (arith, ap length c.self.view_is, small-kept c.self.inside.held c.self.invariant.1)
