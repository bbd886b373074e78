use Rattle.openapi_node.specs.Tree.{members_of}
use Rattle.openapi_tables.specs.Tables.{final_tables, tables_with, array_rows}
use Rattle.openapi_schema.proofs.OwnRows.{array_read}
use Rattle.openapi_schema.proofs.composite_types.ArrayTypeRecord.from_members.Goals as goal

pub returns-5-clause-reads : goal.returns-5-clause-reads
unfolding final_tables tables_with array_rows
returns-5-clause-reads c = array_read _ (members_of c.args.members.now) (
  c.in-Ok-read_rows.ensures.reads,
  (
    c.in-Ok-read_rows-read_rows.ensures.reads,
    (
      c.in-Ok-read_rows-read_rows-2.ensures.reads,
      (c.in-Ok-read_rows-read_rows-3.ensures.reads, tt),
    ),
  ),
)
