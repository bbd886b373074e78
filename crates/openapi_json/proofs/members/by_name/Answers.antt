use Rattle.std.proofs.Common.{◌≡◌, [], ◌∷◌, ◌++◌, List, ℕ, sym, ap, ◌∙◌, subst, append_assoc}
use Rattle.std.specs.String.{string_bytes}
use Rattle.openapi_node.specs.Tree.{Tree}
use Rattle.openapi_json.specs.Gathered.{Ascends}
use Rattle.openapi_json.proofs.Order.{before_below, insert_last, put_owned}
use Rattle.openapi_json.proofs.members.by_name.Goals as goal

pub loop-name-preserved : goal.loop-name-preserved
loop-name-preserved c =
    let l = c.loop-name.invariant in
    let n = string_bytes c.in-Some.name in
    let t = c.in-Some.node in
    let e : List ℕ × Tree = (n, t) in
    let left = c.next.new.self in
    let all : c.args.members ≡ l.done ++ e ∷ left = l.split ∙ ap (λ es. l.done ++ es) c.in-Some.ensures.steps in
    record {
      done = l.done ++ e ∷ [];
      split = all ∙ sym (append_assoc l.done (e ∷ []) left);
      kept = put_owned c.loop-name.out.entries _ l.done c.in-Some.name t c.in_ok-insert.ensures.entries l.kept
          ∙ insert_last n t l.done (before_below l.done e left (subst Ascends all c.requires));
    }
