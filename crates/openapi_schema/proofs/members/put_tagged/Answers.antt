use Rattle.std.proofs.Common.{ℕ, List, [], ◌∷◌, ◌++◌, codes, refl, sym, ap, ◌∙◌, subst}
use Rattle.openapi_map.specs.Entries.{Entries}
use Rattle.openapi_node.specs.Tree.{Tree, text}
use Rattle.openapi_tables.proofs.SlotLists.{append_nil}
use Rattle.openapi_fields.specs.Writing.{AreNew}
use Rattle.openapi_schema.proofs.members.put_tagged.Goals as goal

pub append-requires : goal.append-requires
append-requires c =
    subst (λ (out : Entries Tree). AreNew c.args.rows out) (append_nil c.args.out.now) (rw c.in-None.is at
    c.requires.rows)

pub put-requires : goal.put-requires
put-requires c =
    let e : List ℕ × Tree = (codes "type", text c.in-Some.word.now) in
    (rw c.in-Some.is at c.requires.tag) 0 e refl

pub append-requires-in-Some : goal.append-requires-in-Some
append-requires-in-Some c =
    subst (λ (out : Entries Tree). AreNew c.args.rows out)
    (sym (c.in_ok-put-in-Some.ensures.ok
    ∙ ap (λ (t : Tree). c.args.out.now ++ (codes "type", t) ∷ []) (c.text.ensures ∙ ap text c.in-Ok.ensures.ok)))
    (rw c.in-Some.is at c.requires.rows)
