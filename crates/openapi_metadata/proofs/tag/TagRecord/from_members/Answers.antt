use Rattle.openapi_tables.specs.Tables.{final_tables, tables_with}
use Rattle.openapi_metadata.proofs.tag.TagRecord.from_members.Goals as goal

pub returns-5-clause-reads : goal.returns-5-clause-reads
unfolding final_tables tables_with
returns-5-clause-reads c = (
  c.in-Ok-read_rows.ensures.reads,
  (
    c.in-Ok-read_rows-read_rows.ensures.reads,
    (
      c.in-Ok-read_rows-read_rows-2.ensures.reads,
      (c.in-Ok-read_rows-read_rows-3.ensures.reads, tt),
    ),
  ),
)
