use Rattle.std.proofs.Common.{[], ◌∷◌, sym, ap, ◌∙◌, unwrap_or}
use Rattle.openapi_tables.specs.Prelude.{any_rows, kind_names, sort_rows}
use Rattle.openapi_fields.specs.Forms.{text_form, flag_form, number_form, size_form, optional_form, list_form, map_form}
use Rattle.openapi_schema.specs.RawSlots.{sort_slots}
use Rattle.openapi_schema.specs.Reading.{ref_form, inner_box_form, outer_box_form}
use Rattle.openapi_schema.specs.SchemaForms.{additional_form}
use Rattle.openapi_schema.proofs.AnyForms.{any_rows-roll}
use Rattle.openapi_schema.proofs.FormatSlots.{map_slot, list_slot}
use Rattle.openapi_schema.proofs.OpenedForms.{any_rows-out}
use Rattle.openapi_schema.proofs.any_names.any_of_names.Goals as goal

pub returns : goal.returns
unfolding sort_slots kind_names any_rows sort_rows
returns c =
    let a = c.args.names in
    sym (any_rows-out _) ∙ any_rows-roll _
    ∙ (λ i. optional_form text_form a.plain.typ
    ∷ optional_form text_form a.plain.pattern
    ∷ optional_form number_form a.plain.multiple_of
    ∷ optional_form flag_form a.plain.exclusive_minimum
    ∷ optional_form flag_form a.plain.exclusive_maximum
    ∷ optional_form number_form a.plain.minimum
    ∷ optional_form number_form a.plain.maximum
    ∷ (ap (map_form inner_box_form) (c.unwrap_or.ensures ∙ ap (unwrap_or a.properties) c.new.ensures)
    ∙ map_slot inner_box_form a.properties) i
    ∷ (ap (list_form text_form) c.unwrap_or-2.ensures ∙ list_slot text_form a.plain.required c.new-2.result c.new-2.ensures.items) i
    ∷ optional_form additional_form a.additional_properties
    ∷ optional_form size_form a.plain.min_properties
    ∷ optional_form size_form a.plain.max_properties
    ∷ optional_form inner_box_form a.items
    ∷ optional_form size_form a.plain.min_items
    ∷ optional_form size_form a.plain.max_items
    ∷ optional_form flag_form a.plain.unique_items
    ∷ c.requires i
    ∷ optional_form text_form a.plain.format
    ∷ optional_form size_form a.plain.min_length
    ∷ optional_form size_form a.plain.max_length
    ∷ (ap (list_form ref_form) c.unwrap_or-3.ensures ∙ list_slot ref_form a.one_of c.new-3.result c.new-3.ensures.items) i
    ∷ (ap (list_form ref_form) c.unwrap_or-4.ensures ∙ list_slot ref_form a.all_of c.new-4.result c.new-4.ensures.items) i
    ∷ (ap (list_form ref_form) c.unwrap_or-5.ensures ∙ list_slot ref_form a.any_of c.new-5.result c.new-5.ensures.items) i
    ∷ optional_form outer_box_form a.not
    ∷ [])
