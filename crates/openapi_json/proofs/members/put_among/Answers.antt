use Rattle.std.proofs.Common.{◌≡◌, map, nat_cmp, slice_set, subst, sym, ap, ◌∙◌}
use Rattle.std.proofs.lemmas.List.{map-set}
use Rattle.std.specs.BTreeMap.{insert_entry}
use Rattle.std.specs.Cmp.Lexicographic.{slice_cmp}
use Rattle.std.specs.List.{insert}
use Rattle.openapi_map.specs.Entries.{owned_entry}
use Rattle.openapi_json.proofs.Order.{ascends_now, owned-at}
use Rattle.openapi_json.proofs.members.put_among.Goals as goal

pub returns-in-Ok-clause-entries : goal.returns-in-Ok-clause-entries
returns-in-Ok-clause-entries c =
    let ms = c.args.members.now.items in
    let es = map owned_entry ms in
    let t = c.args.node in
    map-set owned_entry ms c.in-Ok.place (c.args.name, t)
    ∙ subst (λ n. slice_set es c.in-Ok.place (n, t) ≡ insert_entry (slice_cmp nat_cmp) es n t) c.as_str.ensures.value
    (sym (c.in-Ok.ensures.found.1 t))

pub returns-in-Ok-clause-order : goal.returns-in-Ok-clause-order
returns-in-Ok-clause-order c = ascends_now _ _ _ (returns-in-Ok-clause-entries c) c.requires

pub returns-in_ok-insert-in-Err-clause-entries : goal.returns-in_ok-insert-in-Err-clause-entries
returns-in_ok-insert-in-Err-clause-entries c =
    let ms = c.args.members.now.items in
    let es = map owned_entry ms in
    let t = c.args.node in
    ap (map owned_entry) c.in_ok-insert-in-Err.ensures.items ∙ owned-at ms c.in-Err.place (c.args.name, t)
    ∙ subst (λ n. insert es c.in-Err.place (n, t) ≡ insert_entry (slice_cmp nat_cmp) es n t) c.as_str.ensures.value
    (sym (c.in-Err.ensures.absent.1 t))

pub returns-in_ok-insert-in-Err-clause-order : goal.returns-in_ok-insert-in-Err-clause-order
returns-in_ok-insert-in-Err-clause-order c = ascends_now _ _ _ (returns-in_ok-insert-in-Err-clause-entries c) c.requires
