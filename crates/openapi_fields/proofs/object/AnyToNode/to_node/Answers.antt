use Rattle.std.proofs.Common.{subst}
use Rattle.openapi_tables.specs.Tables.{final_tables}
use Rattle.openapi_tables.proofs.SlotWriting.{none_written}
use Rattle.openapi_fields.specs.Returned.{NotWritable}
use Rattle.openapi_fields.proofs.Records.{record_writes, record_loses}
use Rattle.openapi_fields.proofs.object.AnyToNode.to_node.Goals as goal

pub put_rows-requires : goal.put_rows-requires
put_rows-requires g c = none_written final_tables c.new-out.result c.new-out.ensures

pub returns-in-Ok : goal.returns-in-Ok
returns-in-Ok g c =
    record {
      written = record_writes g.T.Object.rows_of c.args.self.now g.T.Object.table c.object.result c.put_rows.new.out
          c.in-Ok.ensures.ok c.object.ensures;
    }

pub returns-in-Err : goal.returns-in-Err
returns-in-Err g c =
    record {
      written = subst (λ ps. NotWritable c.in-Err.fault ps) (record_loses g.T.Object.rows_of c.args.self.now g.T.Object.table)
          c.in-Err.ensures.err;
    }
