use Rattle.std.proofs.Common.{position, sym, ap, subst, ◌∙◌}
use Rattle.std.specs.List.{IsDistinct}
use Rattle.std.specs.Map.{keys_of}
use Rattle.std.specs.Str.{bytes_eq}
use Rattle.openapi_map.specs.Entries.{names_of}
use Rattle.openapi_map.specs.Held.{kept, IsHeldConsistent}
use Rattle.openapi_map.proofs.HeldLemmas.{held_names}
use Rattle.openapi_map.proofs.lookup.place_in.Goals as goal

pub place_of-requires-clause-distinct : goal.place_of-requires-clause-distinct
place_of-requires-clause-distinct g c =
    let consistent = subst IsHeldConsistent c.in-Some.is c.requires.consistent in
    let names = ap (λ h. names_of h.names.items) c.deref.ensures ∙ held_names c.in-Some.held.value consistent
    ∙ ap (λ o. keys_of (kept o)) (sym c.in-Some.is) in
    subst (IsDistinct bytes_eq) (sym names) c.requires.distinct

pub returns-in-Some : goal.returns-in-Some
returns-in-Some g c =
    let consistent = subst IsHeldConsistent c.in-Some.is c.requires.consistent in
    let names = ap (λ h. names_of h.names.items) c.deref.ensures ∙ held_names c.in-Some.held.value consistent
    ∙ ap (λ o. keys_of (kept o)) (sym c.in-Some.is) in
    c.place_of.ensures ∙ ap (position (bytes_eq c.args.name.now)) names
