use Rattle.std.proofs.Common.{◌+◌, ◌/◌, ◌%◌, ◌^◌, ◌<◌, length, ap, ◌∙◌, arith}
use Rattle.std.proofs.lemmas.Fmt.{decimal_digit, decimal_step, length-decimal-le}
use Rattle.std.proofs.lemmas.List.{length_push}
use Rattle.std.specs.Fmt.{decimal}
use Rattle.openapi_findings.proofs.as_text.+digits.Goals as goal

pub returns-then-number-lt10-clause-value : goal.returns-then-number-lt10-clause-value
returns-then-number-lt10-clause-value t c = rw (decimal_digit c.args.number c.if-number-lt10.true)

pub returns-else-number-lt10-clause-value : goal.returns-else-number-lt10-clause-value
returns-else-number-lt10-clause-value t c =
    let n = c.args.number in
    let fits : n < 2 ^ 64 = omega arith in
    let more = ap length (decimal_step n (omega arith) fits) ∙ length_push (decimal (n / 10)) (48 + n % 10) in
    omega (arith, c.saturating_add.ensures, c.digits.ensures.value, c.digits.ensures.few, more)

pub returns-else-number-lt10-clause-few : goal.returns-else-number-lt10-clause-few
returns-else-number-lt10-clause-few t c =
    let n = c.args.number in
    let fits : n < 2 ^ 64 = omega arith in
    let small : n < 10 ^ 20 = omega arith in
    let more = ap length (decimal_step n (omega arith) fits) ∙ length_push (decimal (n / 10)) (48 + n % 10) in
    omega (arith, c.saturating_add.ensures, c.digits.ensures.value, c.digits.ensures.few, more, length-decimal-le 20 n (omega arith) small fits)
