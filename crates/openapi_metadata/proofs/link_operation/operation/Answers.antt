use Rattle.std.proofs.Common.{ap, ◌∙◌, codes}
use Rattle.openapi_fields.specs.Forms.{either_form, text_form}
use Rattle.openapi_metadata.proofs.link_operation.operation.Goals as goal

pub returns-in-Ok-First-clause-reads : goal.returns-in-Ok-First-clause-reads
returns-in-Ok-First-clause-reads g c =
    let form_of = either_form (codes "operationRef") text_form (codes "operationId") text_form in
    let read = c.in-Ok-First.ensures.reads in
    (read.0, read.1 ∙ ap form_of c.in-Ok-First.field-0-is)

pub returns-in-Ok-Second-clause-reads : goal.returns-in-Ok-Second-clause-reads
returns-in-Ok-Second-clause-reads g c =
    let form_of = either_form (codes "operationRef") text_form (codes "operationId") text_form in
    let read = c.in-Ok-Second.ensures.reads in
    (read.0, read.1 ∙ ap form_of c.in-Ok-Second.field-0-is)
