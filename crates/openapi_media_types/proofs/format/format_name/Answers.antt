use Rattle.std.proofs.Common.{sym, ap, ◌∙◌}
use Rattle.openapi_media_types.specs.ContentForms.{deciding_name, format_form}
use Rattle.openapi_media_types.proofs.Opened.{format-content, format-schema}
use Rattle.openapi_media_types.proofs.format.format_name.Goals as goal

pub returns-in-Schema : goal.returns-in-Schema
returns-in-Schema c =
    sym (ap deciding_name (ap format_form c.in-Schema.is ∙ format-schema c.in-Schema.field-0))

pub returns-in-Content : goal.returns-in-Content
returns-in-Content c =
    sym (ap deciding_name (ap format_form c.in-Content.is ∙ format-content c.in-Content.field-0))
