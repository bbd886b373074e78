use Rattle.std.proofs.Common.{◌≡◌, refl, sym, ap, subst, ◌∙◌}
use Rattle.std.specs.Map.Calls.{MayWrite, ModifiesValue}
use Rattle.openapi_map.specs.Entry.{entry_value, map_with_value}
use Rattle.openapi_map.proofs.PlaceLemmas.{written_writes, written_value}
use Rattle.openapi_map.proofs.entry.Entry.and_modify.Goals as goal

at_both : {X : Type 0} (P : X → X → Type 0) (p q a b : X) → p ≡ a → q ≡ b → P a b → P p q
at_both P p q a b x y h = subst (λ r. P r q) (sym x) (subst (P a) (sym y) h)

pub returns-in-Occupied-clause-same_writes : goal.returns-in-Occupied-clause-same_writes
returns-in-Occupied-clause-same_writes g c w =
    written_writes c.in-Occupied.entry c.f.new.arg2 w ∙ ap (λ e. map_with_value e w) (sym c.in-Occupied.is)

pub returns-in-Occupied-clause-update : goal.returns-in-Occupied-clause-update
returns-in-Occupied-clause-update g c =
    let u = c.f.new.arg2 in
    let old = ap entry_value c.in-Occupied.is ∙ c.get_mut.ensures.value in
    let did : MayWrite g.F.FnOnce c.args.f c.get_mut.result.now u
    = record { lent = c.get_mut.result; result = c.f.result; left = _; before = refl; met = c.f.ensures; after = refl } in
    at_both (ModifiesValue g.F.FnOnce c.args.f) _ _ _ _ old (written_value c.in-Occupied.entry u) did
