use Rattle.std.proofs.Common.{vec_len}
use Rattle.openapi_map.proofs.IndexLemmas.{IsIndex-none}
use Rattle.openapi_map.proofs.index.NameIndex.link_again.Goals as goal

pub link_all-requires-clause-none : goal.link_all-requires-clause-none
link_all-requires-clause-none c =
    IsIndex-none c.fill.new.self c.clear.new.self (vec_len c.args.self.now.heads) (c.fill.ensures.items (λ y e. e))
    c.fill.ensures.len c.requires.buckets c.clear.ensures.len
