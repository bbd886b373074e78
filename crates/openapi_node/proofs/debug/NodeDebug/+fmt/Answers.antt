use Rattle.std.proofs.Common.{◌≡◌, ◌<◌, suc, rules, arith, sym, ap, ◌∙◌}
use Rattle.openapi_node.specs.Shape.{tree_of}
use Rattle.openapi_node.specs.Tree.{size_of, members_size, members_of}
use Rattle.openapi_node.proofs.TreeLemmas.{next_member}
use Rattle.openapi_node.proofs.debug.NodeDebug.+fmt.Goals as goal

pub entry-requires-in-loop-i : goal.entry-requires-in-loop-i
entry-requires-in-loop-i g t c κs =
    let members = c.in-Object.members in
    let whole : size_of c.args.self.now ≡ suc (members_size (members_of members)) =
    sym (ap size_of c.self.view_is) ∙ ap (λ s. size_of (tree_of s)) c.in-Object.is in
    let next = next_member members c.loop-i.i (c.entry_at.result.0.now, c.entry_at.result.1.now) c.entry_at.ensures in
    let smaller : size_of c.entry_at.result.1.now < t = omega (arith, whole, next.within, c.decreases) in
    search (rules, smaller)
