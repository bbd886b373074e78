use Rattle.std.proofs.Common.{arith}
use Rattle.openapi_node.specs.Tree.{members_of}
use Rattle.openapi_tables.specs.Tables.{any_rows}
use Rattle.openapi_schema.specs.PlainNames.{plain_rows}
use Rattle.openapi_schema.specs.RawSlots.{optional_rows}
use Rattle.openapi_schema.proofs.NameRows.{plain_weight}
use Rattle.openapi_schema.proofs.plain_names.read_plain_names.Goals as goal

pub returns-17-clause-reads : goal.returns-17-clause-reads
unfolding any_rows optional_rows plain_rows
returns-17-clause-reads c =
    (c.in-Ok-read_rows-read_rows-12.ensures.reads, (c.in-Ok-read_rows-read_rows-13.ensures.reads, (c.in-Ok-read_rows.ensures.reads, (c.in-Ok-read_rows-read_rows.ensures.reads, (c.in-Ok-read_rows-read_rows-2.ensures.reads, (c.in-Ok-read_rows-read_rows-3.ensures.reads, (c.in-Ok-read_rows-read_rows-4.ensures.reads, (c.in-Ok-read_rows-read_rows-15.ensures.reads, (c.in-Ok-read_rows-read_rows-5.ensures.reads, (c.in-Ok-read_rows-read_rows-6.ensures.reads, (c.in-Ok-read_rows-read_rows-7.ensures.reads, (c.in-Ok-read_rows-read_rows-8.ensures.reads, (c.in-Ok-read_rows-read_rows-9.ensures.reads, (c.in-Ok-read_rows-read_rows-14.ensures.reads, (c.in-Ok-read_rows-read_rows-10.ensures.reads, (c.in-Ok-read_rows-read_rows-11.ensures.reads, tt))))))))))))))))

pub returns-2-clause-count : goal.returns-2-clause-count
returns-2-clause-count c = (omega arith, omega (arith, plain_weight (members_of c.args.members.now)))

pub returns-3-clause-count : goal.returns-3-clause-count
returns-3-clause-count c = (omega arith, omega (arith, plain_weight (members_of c.args.members.now)))

pub returns-4-clause-count : goal.returns-4-clause-count
returns-4-clause-count c = (omega arith, omega (arith, plain_weight (members_of c.args.members.now)))

pub returns-17-clause-count : goal.returns-17-clause-count
returns-17-clause-count c = (omega arith, omega (arith, plain_weight (members_of c.args.members.now)))
