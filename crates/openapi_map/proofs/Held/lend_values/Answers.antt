use Rattle.std.proofs.Common.{refl, ◌∙◌}
use Rattle.openapi_map.proofs.HeldLemmas.{held_values}
use Rattle.openapi_map.proofs.Held.lend_values.Goals as goal

pub returns : goal.returns
returns g c = (
  (refl, λ w. refl),
  record {
    writes_back = tt;
    values = c.as_mut_slice.ensures.value ∙ held_values c.args.self.now c.requires;
  },
)
