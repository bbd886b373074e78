use Rattle.openapi_node.specs.Tree.{members_of}
use Rattle.openapi_tables.specs.Tables.{final_tables, tables_with, object_rows}
use Rattle.openapi_schema.proofs.OwnRows.{object_read}
use Rattle.openapi_schema.proofs.composite_types.ObjectTypeRecord.from_members.Goals as goal

pub returns-6-clause-reads : goal.returns-6-clause-reads
unfolding final_tables tables_with object_rows
returns-6-clause-reads c = object_read _ (members_of c.args.members.now) (
  c.in-Ok-read_rows.ensures.reads,
  (
    c.in-Ok-read_rows-read_rows.ensures.reads,
    (
      c.in-Ok-read_rows-read_rows-2.ensures.reads,
      (
        c.in-Ok-read_rows-read_rows-3.ensures.reads,
        (c.in-Ok-read_rows-read_rows-4.ensures.reads, tt),
      ),
    ),
  ),
)
