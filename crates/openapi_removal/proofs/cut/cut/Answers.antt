use Rattle.std.proofs.Common.{get_or, take, drop, ap, ◌∙◌}
use Rattle.std.proofs.lemmas.List.{get_or_default}
use Rattle.openapi_removal.proofs.Cutting.{next_gap}
use Rattle.openapi_removal.proofs.cut.cut.Goals as goal

pub loop-gap-preserved : goal.loop-gap-preserved
loop-gap-preserved c =
    let gs = c.args.gaps.now in
    let i = c.loop-gap.gap-index in
    let g = get_or gs i (record { kept = 0; left_out = 0 }) in
    let rest = c.loop-gap.rest.now in
    next_gap gs i g c.loop-gap.bytes.items rest c.split_at.result.0.now c.split_at.result.1.now c.split_at-in-loop-gap.result.1.now
    c.extend_from_slice.new.self.items _ c.loop-gap-test.true (get_or_default gs i _ g c.loop-gap-test.true)
    (c.split_at.ensures.front ∙ ap (λ n. take n rest) c.min.ensures) (c.split_at.ensures.back ∙ ap (λ n. drop n rest) c.min.ensures)
    (c.split_at-in-loop-gap.ensures.back ∙ ap (λ n. drop n c.split_at.result.1.now) c.min-in-loop-gap.ensures)
    c.in_ok-extend_from_slice.ensures.items c.loop-gap.invariant
