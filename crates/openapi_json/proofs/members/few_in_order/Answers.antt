use Rattle.std.proofs.Common.{[], ◌∷◌, ◌++◌, String, Global, map, sym, ap, ◌∙◌, subst, append_assoc, append-nil}
use Rattle.std.proofs.lemmas.List.{nil_from_length}
use Rattle.std.specs.String.{string_bytes}
use Rattle.std.specs.Vec.Iter.{into_iter_items}
use Rattle.openapi_map.specs.Entries.{get, owned_entry}
use Rattle.openapi_node.specs.Tree.{Tree}
use Rattle.openapi_json.specs.Gathered.{Ascends}
use Rattle.openapi_json.proofs.Order.{absent_below, before_below, owned-push, owned-split}
use Rattle.openapi_json.proofs.members.few_in_order.Goals as goal

pub push_new-requires : goal.push_new-requires
push_new-requires c =
    let split = owned-split _ c.loop-name.invariant.split c.in-Some.ensures.steps.0 in
    let below = before_below _ _ _ (subst Ascends split c.requires) in
    ap (get (string_bytes c.in-Some.name)) c.loop-name.invariant.same ∙ absent_below (string_bytes c.in-Some.name) _ below

pub loop-name-preserved : goal.loop-name-preserved
loop-name-preserved c =
    let l = c.loop-name.invariant in
    let e : String Global × Tree = (c.in-Some.name, c.in-Some.node) in
    let left = into_iter_items c.next.new.self in
    record {
      done = l.done ++ e ∷ [];
      split = l.split ∙ ap (λ es. l.done ++ es) c.in-Some.ensures.steps.0 ∙ sym (append_assoc l.done (e ∷ []) left);
      same = c.in_ok-push_new.ensures.entries ∙ (λ j. l.same j ++ owned_entry e ∷ []) ∙ sym (owned-push l.done e);
    }

pub returns : goal.returns
returns c =
    let l = c.loop-name.invariant in
    let left = c.loop-name.name-iterator in
    let none = nil_from_length (into_iter_items left) (sym left.rest.ok.0 ∙ c.in-None.ensures.steps.0) in
    let done = l.split ∙ ap (λ es. l.done ++ es) none ∙ append-nil l.done in
    l.same ∙ ap (map owned_entry) (sym done)
