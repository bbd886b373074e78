use Rattle.std.proofs.Common.{sym, ap, subst, ◌∙◌}
use Rattle.std.specs.Map.{keys_of}
use Rattle.openapi_map.specs.Entries.{names_of}
use Rattle.openapi_map.specs.Held.{kept, IsHeldConsistent}
use Rattle.openapi_map.proofs.HeldLemmas.{held_names}
use Rattle.openapi_map.proofs.lookup.kept_names.Goals as goal

pub returns-in-Some : goal.returns-in-Some
returns-in-Some g c =
    let consistent = subst IsHeldConsistent c.in-Some.is c.requires in
    ap names_of (c.as_slice.ensures.value ∙ ap (λ h. h.names.items) c.deref.ensures)
    ∙ held_names c.in-Some.held.value consistent ∙ ap (λ o. keys_of (kept o)) (sym c.in-Some.is)
