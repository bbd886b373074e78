use Rattle.std.proofs.Common.{map}
use Rattle.std.specs.Map.Iter.{deref_pair}
use Rattle.openapi_map.proofs.EqualityLemmas.{AllAgree}
use Rattle.openapi_map.proofs.traits.OrderedMapPartialEq.eq.Given as goal

abbrev pub invariant-loop-name : goal.invariant-loop-name
invariant-loop-name g l = AllAgree g.V.PartialEq.eq l.other (map deref_pair l.yielded)
