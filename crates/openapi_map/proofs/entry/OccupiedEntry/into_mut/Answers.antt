use Rattle.std.proofs.Common.{refl, ◌∙◌}
use Rattle.openapi_map.proofs.PlaceLemmas.{occupied_value, occupied_writes}
use Rattle.openapi_map.proofs.entry.OccupiedEntry.into_mut.Goals as goal

pub returns : goal.returns
returns g c = (
  (refl, occupied_writes c.args.self),
  record { writes_back = tt; value = occupied_value c.args.self ∙ c.value_at.ensures.value },
)
