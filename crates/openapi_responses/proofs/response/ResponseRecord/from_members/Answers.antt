use Rattle.openapi_tables.specs.Tables.{final_tables, tables_with}
use Rattle.openapi_responses.proofs.response.ResponseRecord.from_members.Goals as goal

pub returns-6-clause-reads : goal.returns-6-clause-reads
unfolding final_tables tables_with
returns-6-clause-reads c = (
  c.in-Ok-read_rows.ensures.reads,
  (
    c.in-Ok-read_rows-read_rows.ensures.reads,
    (
      c.in-Ok-read_rows-read_rows-2.ensures.reads,
      (
        c.in-Ok-read_rows-read_rows-3.ensures.reads,
        (c.in-Ok-read_rows-read_rows-4.ensures.reads, tt),
      ),
    ),
  ),
)
