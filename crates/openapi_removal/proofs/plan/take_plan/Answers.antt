use Rattle.std.proofs.Common.{nat_cmp, sym, ◌∙◌}
use Rattle.std.proofs.lemmas.Map.Text.{btree_map_updates_str}
use Rattle.std.specs.BTreeMap.{get_by}
use Rattle.std.specs.Cmp.Lexicographic.{slice_cmp}
use Rattle.openapi_removal.specs.Below.{grouped}
use Rattle.openapi_removal.proofs.Grouping.{taken}
use Rattle.openapi_removal.proofs.plan.take_plan.Goals as goal

pub returns-clause-left : goal.returns-clause-left
returns-clause-left c =
    let old = c.args.groups.now in
    let less = c.remove.new.self in
    taken grouped (λ ds. get_by (λ k. slice_cmp nat_cmp ds k.now) old) (λ ds. get_by (λ k. slice_cmp nat_cmp ds k.now) less)
    c.args.name.now (btree_map_updates_str c.args.name.now old less _ c.remove.ensures.updates)
    (sym c.is_removed.ensures ∙ c.if-is_removed.false)
