use Rattle.std.proofs.Common.{subst, codes}
use Rattle.openapi_tables.specs.Tables.{final_tables}
use Rattle.openapi_tables.proofs.SlotWriting.{none_written}
use Rattle.openapi_fields.specs.Returned.{NotWritable}
use Rattle.openapi_fields.proofs.Tagging.{tagged_writes, tagged_loses}
use Rattle.openapi_security.specs.Schemes.{scheme_cases, security_scheme_word, security_scheme_rows}
use Rattle.openapi_security.specs.Schemes.{security_scheme_known}
use Rattle.openapi_security.proofs.security_scheme.SecuritySchemeToNode.to_node.Goals as goal

pub put_scheme-requires : goal.put_scheme-requires
put_scheme-requires c = none_written final_tables c.new-out.result c.new-out.ensures

pub returns-in-Ok : goal.returns-in-Ok
returns-in-Ok c =
    let x = c.args.self.now in
    record {
      written = tagged_writes (codes "type") scheme_cases security_scheme_word security_scheme_rows x
          (security_scheme_known x) c.object.result c.put_scheme.new.out c.in-Ok.ensures.ok c.object.ensures;
    }

pub returns-in-Err : goal.returns-in-Err
returns-in-Err c =
    let x = c.args.self.now in
    record {
      written = subst (λ ps. NotWritable c.in-Err.fault ps)
          (tagged_loses (codes "type") scheme_cases security_scheme_word security_scheme_rows x
          (security_scheme_known x)) c.in-Err.ensures.err;
    }
