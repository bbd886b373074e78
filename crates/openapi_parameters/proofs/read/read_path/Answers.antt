use Rattle.std.proofs.Common.{refl, rules}
use Rattle.std.proofs.lemmas.Result.{err_from_is_err_and}
use Rattle.openapi_tables.specs.Kind.{path_parameter}
use Rattle.openapi_tables.specs.Tables.{final_tables, tables_with}
use Rattle.openapi_parameters.proofs.SharedRows.{data_refused}
use Rattle.openapi_parameters.proofs.read.read_path.Goals as goal

pub returns-in_err-from_members : goal.returns-in_err-from_members
unfolding final_tables tables_with
returns-in_err-from_members c =
    let p = err_from_is_err_and c.from_residual-in_err-from_members.result c.from_residual-in_err-from_members.ensures.1 in
    rw (p.1, p.2) (data_refused path_parameter refl _ _ c.in_err-from_members.ensures.reads (search rules))
