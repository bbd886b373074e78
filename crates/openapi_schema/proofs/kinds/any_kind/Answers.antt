use Rattle.std.proofs.Common.{ap, ◌∙◌}
use Rattle.openapi_tables.specs.Prelude.{any_sort}
use Rattle.openapi_schema.proofs.FormatSlots.{kept_slot}
use Rattle.openapi_schema.proofs.KindForms.{any_rows-kind}
use Rattle.openapi_schema.proofs.OpenedForms.{any_rows-out}
use Rattle.openapi_schema.proofs.kinds.any_kind.Goals as goal

pub any_of_names-requires : goal.any_of_names-requires
any_of_names-requires c =
    kept_slot c.args.names.enumeration c.in_ok-enumeration.enumeration c.in_ok-enumeration.ensures.ok

pub returns-clause-ok : goal.returns-clause-ok
returns-clause-ok c =
    any_rows-kind _ ∙ ap (λ rows. (any_sort, rows)) (any_rows-out _ ∙ c.any_of_names.ensures)
