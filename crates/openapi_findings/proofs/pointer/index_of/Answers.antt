use Rattle.std.proofs.Common.{sym, ap, ◌∙◌, lit<}
use Rattle.openapi_findings.specs.Pointers.{has_leading_zero}
use Rattle.openapi_findings.proofs.Leading.{index_err, index_ok}
use Rattle.openapi_findings.proofs.pointer.index_of.Goals as goal

pub returns-then-index-count-clause-some : goal.returns-then-index-count-clause-some
returns-then-index-count-clause-some c =
    let sign = sym (c.if-starts_with.ensures.byte (lit< tt) (lit< tt) (λ w o h. h)) in (
      index_ok c.args.token.now c.in-Ok.index sign
          (ap has_leading_zero (sym c.as_bytes.ensures.value) ∙ sym c.if-has_leading_zero.ensures) c.in-Ok.ensures.value.0,
      c.if-index-count.true,
    )

pub returns-in_default-clause-none : goal.returns-in_default-clause-none
returns-in_default-clause-none c is =
    let sign = sym (c.if-starts_with.ensures.byte (lit< tt) (lit< tt) (λ w o h. h)) in
    index_err c.args.token.now c.args.count c.ranges.count.fits sign c.in_default.ensures.value.0
