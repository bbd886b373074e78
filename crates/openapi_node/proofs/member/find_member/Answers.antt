use Rattle.std.proofs.Common.{◌<◌, ℕ, Option, None, Some, IfSome, Bor, sym, subst, ◌∙◌}
use Rattle.std.specs.Option.{option_copied}
use Rattle.openapi_node.specs.Tree.{Tree, size_of, object, members_of}
use Rattle.openapi_node.proofs.TreeLemmas.{get-find, find-smaller}
use Rattle.openapi_node.proofs.member.find_member.Goals as goal

below : (n : ℕ) (r : Option (Bor Tree)) → IfSome (option_copied r) (λ t. size_of t < n)
    → IfSome r (λ m. size_of m.now < n)
below n None h = tt
below n (Some m) h = h

pub returns-clause-found : goal.returns-clause-found
returns-clause-found c = c.get.ensures ∙ get-find c.args.name.now c.args.members.now

pub returns-clause-smaller : goal.returns-clause-smaller
returns-clause-smaller c =
    let ms = c.args.members.now in
    let name = c.args.name.now in
    let found = c.get.ensures ∙ get-find name ms in
    below (size_of (object (members_of ms))) c.get.result
    (subst (λ r. IfSome r (λ t. size_of t < size_of (object (members_of ms)))) (sym found) (find-smaller name ms))
