use Rattle.std.proofs.Common.{◌≡◌, ◌-◌, ap, arith, length, subst, suc, sym, take, ◌∙◌}
use Rattle.std.proofs.Math.Seq.{take-length}
use Rattle.openapi_json.specs.Gathered.{AllBelow}
use Rattle.openapi_json.proofs.Order.{below_at}
use Rattle.openapi_json.proofs.members.goes_last.Goals as goal

pub returns-in-Less : goal.returns-in-Less
returns-in-Less c true_ ordered =
    let ms = c.args.members.now in
    let i = c.len.result - 1 in
    let last : suc i ≡ length ms = grind arith in
    subst (AllBelow c.args.name.now) (ap (λ n. take n ms) last ∙ take-length ms)
    (below_at c.args.name.now ms i (c.entry_at.result.0.now, c.entry_at.result.1.now) ordered c.entry_at.ensures
    (sym c.cmp.ensures ∙ c.in-Less.is))
