use Rattle.openapi_tables.specs.Tables.{final_tables, tables_with, string_rows}
use Rattle.openapi_schema_types.proofs.string_type.StringTypeRecord.from_members.Goals as goal

pub returns-6-clause-reads : goal.returns-6-clause-reads
unfolding final_tables tables_with string_rows
returns-6-clause-reads c = (
  c.in-Ok-read_rows.ensures.reads,
  (
    c.in-Ok-read_rows-read_rows.ensures.reads,
    (
      c.in-Ok-read_rows-read_rows-2.ensures.reads,
      (
        c.in-Ok-read_rows-read_rows-3.ensures.reads,
        (c.in-Ok-read_rows-read_rows-4.ensures.reads, tt),
      ),
    ),
  ),
)
