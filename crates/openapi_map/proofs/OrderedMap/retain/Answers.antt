use Rattle.std.specs.Map.Calls.{CalledAtPair}
use Rattle.openapi_map.specs.Held.{kept}
use Rattle.openapi_map.proofs.RetainLemmas.{distinct-retained}
use Rattle.openapi_map.proofs.OrderedMap.retain.Goals as goal

pub invariant_of-self : goal.invariant_of-self
invariant_of-self g c = (
  distinct-retained (CalledAtPair g.F.FnMut) c.args.keep (kept c.self.inside.held) _ c.retain_kept.ensures.entries
      c.self.invariant.0,
  c.retain_kept.ensures.consistent,
)
