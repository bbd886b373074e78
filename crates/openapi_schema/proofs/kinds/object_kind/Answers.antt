use Rattle.std.proofs.Common.{[], ◌∷◌, ap, ◌∙◌, unwrap_or}
use Rattle.openapi_tables.specs.Prelude.{absent, object_sort, kind_names, sort_rows, any_rows, object_rows}
use Rattle.openapi_fields.specs.Forms.{optional_form, map_form, text_form}
use Rattle.openapi_values.specs.Reference.{reference_form}
use Rattle.openapi_schema.specs.RawSlots.{sort_slots}
use Rattle.openapi_schema.specs.SchemaForms.{schema_form, additional_form, size_form, list_form}
use Rattle.openapi_schema.proofs.FormatSlots.{map_slot, list_slot}
use Rattle.openapi_schema.proofs.KindForms.{object_rows-kind, object_rows-roll}
use Rattle.openapi_schema.proofs.kinds.object_kind.Goals as goal

pub returns : goal.returns
unfolding sort_slots kind_names any_rows sort_rows object_rows
returns c =
    let a = c.args.names in
    object_rows-kind _
    ∙ ap (λ rows. (object_sort, absent ∷ rows)) (object_rows-roll _
    ∙ (λ i. (ap (map_form (reference_form (λ s. schema_form s.value))) (c.unwrap_or.ensures
    ∙ ap (unwrap_or a.properties) c.new.ensures)
    ∙ map_slot (reference_form (λ s. schema_form s.value)) a.properties) i
    ∷ (ap (list_form text_form) c.unwrap_or-2.ensures ∙ list_slot text_form a.plain.required c.new-2.result
    c.new-2.ensures.items) i
    ∷ optional_form additional_form a.additional_properties
    ∷ optional_form size_form a.plain.min_properties
    ∷ optional_form size_form a.plain.max_properties ∷ []))
