use Rattle.std.proofs.Common.{◌∙◌}
use Rattle.openapi_map.proofs.PlaceLemmas.{occupied_value, value-there}
use Rattle.openapi_map.proofs.entry.OccupiedEntry.get.Goals as goal

pub returns : goal.returns
returns g c =
    let o = c.args.self.now in
    occupied_value o ∙ value-there o.map.now o.place _ c.entry_at.ensures
