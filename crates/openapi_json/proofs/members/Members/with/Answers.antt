use Rattle.std.proofs.Common.{nat_cmp, string_bytes, refl, sym, ap, ◌∙◌, subst}
use Rattle.std.specs.BTreeMap.{insert_entry}
use Rattle.std.specs.Cmp.Lexicographic.{slice_cmp}
use Rattle.openapi_json.specs.Gathered.{AllBelow, Ascends, entries_in, IsInOrder}
use Rattle.openapi_json.proofs.Order.{absent_below, ascends_now, insert_last, put_owned}
use Rattle.openapi_json.proofs.members.Members.with.Goals as goal

pub push_new-requires : goal.push_new-requires
push_new-requires c =
    let ms = c.in-InOrder.members in
    let ordered : Ascends ms = subst IsInOrder c.in-InOrder.is c.requires in
    let below = subst (λ n. AllBelow n ms) c.as_str.ensures.value (c.if-goes_last.ensures refl ordered) in
    absent_below (string_bytes c.args.name) ms below

pub returns-then-goes_last-clause-entries : goal.returns-then-goes_last-clause-entries
returns-then-goes_last-clause-entries c =
    let ms = c.in-InOrder.members in
    let n = string_bytes c.args.name in
    let ordered : Ascends ms = subst IsInOrder c.in-InOrder.is c.requires in
    let below = subst (λ m. AllBelow m ms) c.as_str.ensures.value (c.if-goes_last.ensures refl ordered) in
    c.in_ok-push_new-in-InOrder.ensures.entries ∙ sym (insert_last n c.args.node ms below)
    ∙ ap (λ s. insert_entry (slice_cmp nat_cmp) (entries_in s) n c.args.node) (sym c.in-InOrder.is)

pub returns-then-goes_last-clause-order : goal.returns-then-goes_last-clause-order
returns-then-goes_last-clause-order c =
    ascends_now _ _ _ (returns-then-goes_last-clause-entries c)
    (subst Ascends (sym (ap entries_in c.in-InOrder.is)) (subst IsInOrder c.in-InOrder.is c.requires))

pub returns-in_ok-insert-in-InOrder-clause-entries : goal.returns-in_ok-insert-in-InOrder-clause-entries
returns-in_ok-insert-in-InOrder-clause-entries c =
    put_owned c.in_ok-sorted-in-InOrder.sorted.entries _ (entries_in c.args.self) c.args.name c.args.node
    c.in_ok-insert-in-InOrder.ensures.entries
    (c.in_ok-sorted-in-InOrder.ensures ∙ sym (ap entries_in c.in-InOrder.is))

pub returns-in_ok-insert-in-ByName-clause-entries : goal.returns-in_ok-insert-in-ByName-clause-entries
returns-in_ok-insert-in-ByName-clause-entries c =
    put_owned c.in-ByName.members.entries _ (entries_in c.args.self) c.args.name c.args.node
    c.in_ok-insert-in-ByName.ensures.entries (sym (ap entries_in c.in-ByName.is))
