use Rattle.std.proofs.Common.{◌≡◌, ◌-◌, [], drop, sym, ap, ◌∙◌, arith}
use Rattle.std.proofs.lemmas.List.{drop_all}
use Rattle.std.specs.Prelude.{slice_get}
use Rattle.openapi_json.specs.Scanned.{mode_of, starts_from}
use Rattle.openapi_json.proofs.Scanned.{none_begins, start_here, start_passed}
use Rattle.openapi_json.proofs.scan.offset_of.Goals.{then-begins_token+else-passed-number, else-begins_token}
use Rattle.openapi_json.proofs.scan.offset_of.Goals as goal

pub returns-then-passed-number : goal.returns-then-passed-number
returns-then-passed-number c =
    let l = c.loop-i in
    sym (start_here (mode_of l.mode) c.args.text.now l.i (omega (arith, c.loop-i-test.true)) (c.args.number - l.passed)
    (sym c.begins_token.ensures ∙ c.if-begins_token.true) (omega (arith, c.if-passed-number.true)))
    ∙ l.invariant.left

pub loop-i-preserved : goal.loop-i-preserved
loop-i-preserved c =
    let text = c.args.text.now in
    let l = c.loop-i in
    let old = c.args.number - l.passed in
    let new = c.args.number - c.if-begins_token.passed in
    elim c.if-begins_token.branch [
      | then-begins_token+else-passed-number w ↦
          record {
            within = omega (arith, w.passed-is, l.invariant.within);
            few = omega (arith, w.passed-is, l.invariant.few, w.if-passed-number.false);
            left = start_passed (mode_of l.mode) text l.i (omega (arith, c.loop-i-test.true)) (mode_of c.mode_after-mode.result) old new
                c.mode_after-mode.ensures (sym c.begins_token.ensures ∙ w.if-begins_token.true)
                (omega (arith, w.passed-is, l.invariant.few, w.if-passed-number.false))
                ∙ l.invariant.left;
          }
      | else-begins_token w ↦
          record {
            within = omega (arith, w.passed-is, l.invariant.within);
            few = omega (arith, w.passed-is, l.invariant.few);
            left = none_begins (mode_of l.mode) text l.i (omega (arith, c.loop-i-test.true)) (mode_of c.mode_after-mode.result) old new
                c.mode_after-mode.ensures (sym c.begins_token.ensures ∙ w.if-begins_token.false)
                (omega (arith, w.passed-is))
                ∙ l.invariant.left;
          }
    ]

pub returns : goal.returns
returns c =
    let text = c.args.text.now in
    let l = c.loop-i in
    let end : drop l.i text ≡ [] = drop_all l.i text (omega (arith, c.loop-i-test.false)) in
    ap (λ bs. slice_get (starts_from (mode_of l.mode) l.i bs) (c.args.number - l.passed)) (sym end) ∙ l.invariant.left
