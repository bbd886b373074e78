use Rattle.openapi_node.specs.View.{shown}
use Rattle.openapi_node.specs.declared.fault.Expected.TheVariants as words
use Rattle.openapi_tables.specs.Kind.{status_code}
use Rattle.openapi_fields.proofs.Below.{wrong_view}
use Rattle.openapi_fields.proofs.Leaves.{not_code, no_code_text, no_code_number}
use Rattle.openapi_fields.proofs.status_codes.StatusCodeFromNode.from_view.Goals as goal

pub returns-in-Err-clause-reads : goal.returns-in-Err-clause-reads
returns-in-Err-clause-reads c =
    rw c.in-Text.is (no_code_text c.new.result c.in-Text.text.now c.new.ensures.place c.new.ensures.cause
    c.in-Err.ensures)

pub returns-in-Err-try_from-clause-reads : goal.returns-in-Err-try_from-clause-reads
returns-in-Err-try_from-clause-reads c =
    rw c.in-Whole.is (no_code_number c.new-in-Err-try_from.result c.in-Whole.number
    c.new-in-Err-try_from.ensures.place c.new-in-Err-try_from.ensures.cause c.in-Err-try_from.ensures)

pub returns-in_default : goal.returns-in_default
returns-in_default c =
    wrong_view c.new-in_default.result words.TextOrWhole status_code (shown c.args.view.now) _ c.new-in_default.ensures.place
    c.new-in_default.ensures.cause (not_code c.args.view.now c.in_default.not-Text c.in_default.not-Whole)
