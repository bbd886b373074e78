use Rattle.std.proofs.Common.{length, take, sym, ◌∙◌, ap, arith, take_all}
use Rattle.std.proofs.lemmas.Str.{utf8_valid_len-IsUtf8}
use Rattle.openapi_findings.proofs.text_point.text_of.Goals as goal

pub returns-in-Ok : goal.returns-in-Ok
returns-in-Ok c =
    let read = c.in-Ok.ensures.cases in
    let bs = c.args.bytes.now in
    read.0 ∙ sym (ap (λ n. take n bs) (utf8_valid_len-IsUtf8 bs read.1) ∙ take_all (length bs) bs (omega arith))
