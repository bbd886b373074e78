use Rattle.std.proofs.Common.{vec_len}
use Rattle.openapi_map.specs.Entries.{names_of}
use Rattle.openapi_map.proofs.IndexLemmas.{Passed}
use Rattle.openapi_map.proofs.index.NameIndex.place_of.Given as goal

abbrev pub invariant-loop-link : goal.invariant-loop-link
invariant-loop-link l = Passed l.name (names_of l.names.items) (vec_len l.self.heads) l.link

abbrev pub decreases-loop-link : goal.decreases-loop-link
decreases-loop-link l = l.link
