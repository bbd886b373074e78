use Rattle.std.proofs.Common.{◌∙◌, option_map, string_bytes}
use Rattle.openapi_pointer.proofs.Components.{fragment_err, fragment_ok, other_error}
use Rattle.openapi_pointer.proofs.component.name_in_fragment.Goals as goal

pub returns-in-Ok : goal.returns-in-Ok
returns-in-Ok c =
    fragment_ok c.name_below.result (λ o. option_map string_bytes o) c.args.section.now c.args.fragment.now c.as_str.result.now
    (c.as_str.ensures.value ∙ c.in-Ok.ensures.value ∙ c.percent_decode.ensures.bytes) c.as_str.utf8 c.name_below.ensures

pub returns-in-Err-Utf8 : goal.returns-in-Err-Utf8
returns-in-Err-Utf8 c =
    fragment_err c.args.section.now c.args.fragment.now _ c.percent_decode.ensures.bytes
    (λ u. other_error _ _ c.in-Err-Utf8.field-0-is (c.in-Err-Utf8.ensures.utf8 u))
