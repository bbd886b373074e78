use Rattle.std.proofs.Common.{arith}
use Rattle.openapi_schema.proofs.FormatSlots.{entries_given}
use Rattle.openapi_schema_types.proofs.ItemSizes.{length-items_size}
use Rattle.openapi_schema.proofs.kinds.enumeration.Goals as goal

pub returns-in-Some-clause-reads : goal.returns-in-Some-clause-reads
returns-in-Some-clause-reads g c =
    rw c.in-Some.is
    (entries_given g.T.Entry.test g.T.Entry.tree_in c.entries.result c.in-Some.nodes.now c.entries.ensures.reads)

pub returns-in-Some-clause-count : goal.returns-in-Some-clause-count
returns-in-Some-clause-count g c =
    rw c.in-Some.is ((omega (arith, c.entries.ensures.count.0), omega (arith, length-items_size c.in-Some.nodes.now, c.entries.ensures.count.1)))
