use Rattle.openapi_tables.specs.Tables.{final_tables}
use Rattle.openapi_tables.proofs.SlotWriting.{none_written}
use Rattle.openapi_fields.proofs.writing.record_rows.Goals as goal

pub put_rows-requires : goal.put_rows-requires
put_rows-requires g c = none_written final_tables c.new-out.result c.new-out.ensures
