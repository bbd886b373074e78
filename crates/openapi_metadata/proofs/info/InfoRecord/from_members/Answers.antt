use Rattle.openapi_tables.specs.Tables.{final_tables, tables_with}
use Rattle.openapi_metadata.proofs.info.InfoRecord.from_members.Goals as goal

pub returns-8-clause-reads : goal.returns-8-clause-reads
unfolding final_tables tables_with
returns-8-clause-reads c = (
  c.in-Ok-read_rows.ensures.reads,
  (
    c.in-Ok-read_rows-read_rows.ensures.reads,
    (
      c.in-Ok-read_rows-read_rows-2.ensures.reads,
      (
        c.in-Ok-read_rows-read_rows-3.ensures.reads,
        (
          c.in-Ok-read_rows-read_rows-4.ensures.reads,
          (
            c.in-Ok-read_rows-read_rows-5.ensures.reads,
            (c.in-Ok-read_rows-read_rows-6.ensures.reads, tt),
          ),
        ),
      ),
    ),
  ),
)
