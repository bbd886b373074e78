use Rattle.std.proofs.Common.{[], ◌∷◌, ap, ◌∙◌}
use Rattle.openapi_tables.specs.Prelude.{absent, array_sort, kind_names, sort_rows, any_rows, array_rows}
use Rattle.openapi_fields.specs.Forms.{optional_form}
use Rattle.openapi_values.specs.Reference.{reference_form}
use Rattle.openapi_schema.specs.RawSlots.{sort_slots}
use Rattle.openapi_schema.specs.SchemaForms.{schema_form, size_form, flag_form}
use Rattle.openapi_schema.proofs.FormatSlots.{flag_slot}
use Rattle.openapi_schema.proofs.KindForms.{array_rows-kind, array_rows-roll}
use Rattle.openapi_schema.proofs.kinds.array_kind.Goals as goal

pub returns : goal.returns
unfolding sort_slots kind_names any_rows sort_rows array_rows
returns c =
    let a = c.args.names in
    array_rows-kind _
    ∙ ap (λ rows. (array_sort, absent ∷ rows)) (array_rows-roll _
    ∙ (λ i. optional_form (reference_form (λ s. schema_form s.value)) a.items ∷ optional_form size_form a.plain.min_items
    ∷ optional_form size_form a.plain.max_items
    ∷ (ap flag_form c.unwrap_or.ensures ∙ flag_slot a.plain.unique_items) i ∷ []))
