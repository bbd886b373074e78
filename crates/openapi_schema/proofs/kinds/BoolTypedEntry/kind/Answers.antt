use Rattle.std.proofs.Common.{[], ◌∷◌, ap, ◌∙◌}
use Rattle.openapi_tables.specs.Prelude.{absent, boolean_sort, kind_names, sort_rows, any_rows, boolean_rows}
use Rattle.openapi_schema.specs.RawSlots.{sort_slots}
use Rattle.openapi_schema.proofs.KindForms.{boolean_rows-kind}
use Rattle.openapi_schema.proofs.kinds.BoolTypedEntry.kind.Goals as goal

pub returns : goal.returns
unfolding sort_slots kind_names any_rows sort_rows boolean_rows
returns c = boolean_rows-kind _ ∙ ap (λ rows. (boolean_sort, absent ∷ rows)) (λ i. c.requires i ∷ [])
