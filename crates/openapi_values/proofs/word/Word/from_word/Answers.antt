use Rattle.std.proofs.Common.{ap, sym, ◌∙◌}
use Rattle.std.specs.Str.{bytes_eq}
use Rattle.openapi_values.proofs.WordLaws.{found, passed}
use Rattle.openapi_values.proofs.word.Word.from_word.Goals as goal

pub returns-then-eq-clause-found : goal.returns-then-eq-clause-found
returns-then-eq-clause-found g c =
    let same = ap (λ s. bytes_eq s c.args.text.now) (sym c.as_str.ensures) ∙ sym c.eq.ensures ∙ c.if-eq.true in
    found g.Self.Word.word_of _ _ _ _ _ c.loop-value.invariant c.loop-value-test.true c.value-item.is same

pub loop-value-preserved : goal.loop-value-preserved
loop-value-preserved g c =
    let other = ap (λ s. bytes_eq s c.args.text.now) (sym c.as_str.ensures) ∙ sym c.eq.ensures ∙ c.if-eq.false in
    passed g.Self.Word.word_of _ _ _ _ _ c.loop-value.invariant c.loop-value-test.true c.value-item.is other
