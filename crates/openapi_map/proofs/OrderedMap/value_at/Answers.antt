use Rattle.std.proofs.Common.{◌<◌, slice_get, Some, sym, ap, subst, refl, ◌∙◌, length, arith}
use Rattle.std.specs.Map.{values_of}
use Rattle.indexmap.specs.IndexMap.{set_value_at}
use Rattle.openapi_map.specs.Entries.{HasDistinctNames}
use Rattle.openapi_map.specs.Held.{held_entries, kept, IsConsistent, IsHeldConsistent}
use Rattle.openapi_map.proofs.HeldLemmas.{held_values, length-held, entries-put, kept-put}
use Rattle.openapi_map.proofs.ZipLemmas.{slice_get-at}
use Rattle.openapi_map.proofs.OrderedMap.value_at.Goals as goal

pub index_mut-requires : goal.index_mut-requires
index_mut-requires g c =
    let held = c.deref_mut.result.now in
    let is = rw c.in-Some.is at c.deref_mut.ensures.value in
    let consistent = subst IsConsistent (sym is) (subst IsHeldConsistent c.in-Some.is c.self.invariant.1) in
    let shows = ap held_entries is ∙ ap kept (sym c.in-Some.is) ∙ c.self.view_is in
    omega (arith, c.requires, ap length shows, length-held held consistent, consistent.even, held.values.ok.0)

pub invariant_of-self-lent : goal.invariant_of-self-lent
invariant_of-self-lent g c w =
    let held = c.deref_mut.result.now in
    let is = rw c.in-Some.is at c.deref_mut.ensures.value in
    let consistent = subst IsConsistent (sym is) (subst IsHeldConsistent c.in-Some.is c.self.invariant.1) in
    let distinct = subst (λ h. HasDistinctNames (held_entries h)) (sym is)
    (subst (λ o. HasDistinctNames (kept o)) c.in-Some.is c.self.invariant.0) in
    rw c.in-Some.is (kept-put held consistent c.args.place w distinct)

pub returns : goal.returns
returns g c =
    let held = c.deref_mut.result.now in
    let is = rw c.in-Some.is at c.deref_mut.ensures.value in
    let consistent = subst IsConsistent (sym is) (subst IsHeldConsistent c.in-Some.is c.self.invariant.1) in
    let shows = ap held_entries is ∙ ap kept (sym c.in-Some.is) ∙ c.self.view_is in
    let i = c.args.place in
    let within : i < length held.values.items =
    omega (arith, c.requires, ap length shows, length-held held consistent, consistent.even) in (
      (
        refl,
        λ w. rw c.in-Some.is (entries-put held consistent i w ∙ ap (λ m. set_value_at m i w) shows),
      ),
      record {
        writes_back = tt;
        value = ap (λ m. slice_get (values_of m) i) (sym shows) ∙ ap (λ vs. slice_get vs i) (sym (held_values held consistent))
            ∙ slice_get-at held.values.items i c.index_mut.result.now within ∙ ap Some (sym c.index_mut.ensures.value);
      },
    )
