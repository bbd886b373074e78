use Rattle.std.proofs.Common.{[], ◌∷◌, ap, ◌∙◌}
use Rattle.openapi_tables.specs.Prelude.{absent, integer_sort, kind_names, sort_rows, any_rows}
use Rattle.openapi_tables.specs.Tables.{integer_formats}
use Rattle.openapi_fields.specs.Forms.{optional_form}
use Rattle.openapi_values.specs.Words.{integer_format_word}
use Rattle.openapi_schema.specs.RawSlots.{sort_slots}
use Rattle.openapi_schema.specs.SchemaForms.{flag_form, number_form}
use Rattle.openapi_schema.proofs.FormatSlots.{format_slot, flag_slot}
use Rattle.openapi_schema.proofs.KindForms.{integer_rows-kind}
use Rattle.openapi_schema.proofs.kinds.integer_kind.Goals as goal

pub returns : goal.returns
unfolding sort_slots kind_names any_rows sort_rows
returns c =
    let a = c.args.names in
    integer_rows-kind _
    ∙ ap (λ rows. (integer_sort, absent ∷ rows)) (λ i.
    format_slot _ integer_format_word integer_formats c.args.names.plain.format _ c.into.ensures i
    ∷ optional_form number_form (c.requires.multiple_of i)
    ∷ (ap flag_form c.unwrap_or.ensures ∙ flag_slot a.plain.exclusive_minimum) i
    ∷ (ap flag_form c.unwrap_or-2.ensures ∙ flag_slot a.plain.exclusive_maximum) i
    ∷ optional_form number_form (c.requires.minimum i)
    ∷ optional_form number_form (c.requires.maximum i)
    ∷ c.requires.enumeration i ∷ [])
