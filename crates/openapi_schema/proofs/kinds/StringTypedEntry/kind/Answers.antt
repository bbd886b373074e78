use Rattle.std.proofs.Common.{[], ◌∷◌, ap, ◌∙◌}
use Rattle.openapi_tables.specs.Prelude.{absent, string_sort, kind_names, sort_rows, any_rows, string_rows}
use Rattle.openapi_tables.specs.Tables.{string_formats}
use Rattle.openapi_fields.specs.Forms.{optional_form, text_form}
use Rattle.openapi_values.specs.Words.{string_format_word}
use Rattle.openapi_schema.specs.RawSlots.{sort_slots}
use Rattle.openapi_schema.specs.SchemaForms.{size_form}
use Rattle.openapi_schema.proofs.FormatSlots.{format_slot}
use Rattle.openapi_schema.proofs.KindForms.{string_rows-kind}
use Rattle.openapi_schema.proofs.kinds.StringTypedEntry.kind.Goals as goal

pub returns : goal.returns
unfolding sort_slots kind_names any_rows sort_rows string_rows
returns c =
    let a = c.args.names in
    string_rows-kind _
    ∙ ap (λ rows. (string_sort, absent ∷ rows)) (λ i.
    format_slot _ string_format_word string_formats a.plain.format _ c.into.ensures i ∷ optional_form text_form a.plain.pattern
    ∷ c.requires i ∷ optional_form size_form a.plain.min_length ∷ optional_form size_form a.plain.max_length ∷ [])
