use Rattle.std.proofs.Common.{subst, codes}
use Rattle.openapi_tables.specs.Tables.{final_tables}
use Rattle.openapi_tables.proofs.SlotWriting.{none_written}
use Rattle.openapi_fields.specs.Returned.{NotWritable}
use Rattle.openapi_fields.proofs.Tagging.{tagged_writes, tagged_loses}
use Rattle.openapi_parameters.specs.Parameters.{parameter_cases, parameter_known, parameter_rows, parameter_word}
use Rattle.openapi_parameters.proofs.parameter.ParameterToNode.to_node.Goals as goal

pub put_parameter-requires : goal.put_parameter-requires
put_parameter-requires c = none_written final_tables c.new-out.result c.new-out.ensures

pub returns-in-Ok : goal.returns-in-Ok
returns-in-Ok c =
    let x = c.args.self.now in
    record {
      written = tagged_writes (codes "in") parameter_cases parameter_word parameter_rows x (parameter_known x)
          c.object.result c.put_parameter.new.out c.in-Ok.ensures.ok c.object.ensures;
    }

pub returns-in-Err : goal.returns-in-Err
returns-in-Err c =
    let x = c.args.self.now in
    record {
      written = subst (λ ps. NotWritable c.in-Err.fault ps)
          (tagged_loses (codes "in") parameter_cases parameter_word parameter_rows x (parameter_known x))
          c.in-Err.ensures.err;
    }
