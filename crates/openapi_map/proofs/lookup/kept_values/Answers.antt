use Rattle.std.proofs.Common.{sym, ap, subst, ◌∙◌}
use Rattle.std.specs.Map.{values_of}
use Rattle.openapi_map.specs.Held.{kept, IsHeldConsistent}
use Rattle.openapi_map.proofs.HeldLemmas.{held_values}
use Rattle.openapi_map.proofs.lookup.kept_values.Goals as goal

pub returns-in-Some : goal.returns-in-Some
returns-in-Some g c =
    let consistent = subst IsHeldConsistent c.in-Some.is c.requires in
    c.as_slice.ensures.value ∙ ap (λ h. h.values.items) c.deref.ensures
    ∙ held_values c.in-Some.held.value consistent ∙ ap (λ o. values_of (kept o)) (sym c.in-Some.is)
