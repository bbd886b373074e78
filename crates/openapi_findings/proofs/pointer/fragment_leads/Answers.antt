use Rattle.std.proofs.Common.{◌∙◌}
use Rattle.openapi_findings.proofs.Leading.{fragment_err, fragment_ok, other_error}
use Rattle.openapi_findings.proofs.pointer.fragment_leads.Goals as goal

pub returns-in-Ok : goal.returns-in-Ok
returns-in-Ok c =
    fragment_ok c.pointer_leads.result c.args.fragment.now c.as_str.result.now c.args.document.now
    (c.as_str.ensures.value ∙ c.in-Ok.ensures.value ∙ c.percent_decode.ensures.bytes) c.as_str.utf8 c.pointer_leads.ensures

pub returns-in-Err-Utf8 : goal.returns-in-Err-Utf8
returns-in-Err-Utf8 c =
    fragment_err c.args.fragment.now _ c.args.document.now c.percent_decode.ensures.bytes
    (λ u. other_error _ _ c.in-Err-Utf8.field-0-is (c.in-Err-Utf8.ensures.utf8 u))
