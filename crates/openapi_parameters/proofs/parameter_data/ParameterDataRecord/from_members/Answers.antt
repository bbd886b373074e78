use Rattle.std.proofs.Common.{refl}
use Rattle.std.proofs.lemmas.Result.{err_from_is_err_and}
use Rattle.openapi_tables.specs.Prelude.{parameter_data, final_tables, tables_with}
use Rattle.openapi_parameters.proofs.parameter_data.ParameterDataRecord.from_members.Goals as goal

pub returns-in_err-read_format-clause-reads : goal.returns-in_err-read_format-clause-reads
unfolding final_tables tables_with
returns-in_err-read_format-clause-reads c =
    let p = err_from_is_err_and c.from_residual-in_err-read_format.result c.from_residual-in_err-read_format.ensures.1 in
    rw (p.1, p.2) (c.in_err-read_format.ensures.reads parameter_data refl)

pub returns-clause-reads : goal.returns-clause-reads
unfolding final_tables tables_with
returns-clause-reads c = (
  c.in_ok-required.ensures.reads,
  (
    c.in_ok-optional.ensures.reads,
    (
      c.in_ok-required_flag.ensures.reads,
      (
        c.in_ok-deprecated.ensures.reads,
        (
          c.in_ok-read_format.ensures.reads parameter_data refl,
          (
            c.in_ok-optional-2.ensures.reads,
            (
              c.in_ok-or_implied.ensures.reads,
              (c.in_ok-explode.ensures.reads, (c.in_ok-extensions.ensures.reads, tt)),
            ),
          ),
        ),
      ),
    ),
  ),
)
