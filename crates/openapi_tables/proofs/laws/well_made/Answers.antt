use Rattle.openapi_tables.proofs.WellMade.{first_small, second_small, final_small, first_sound, second_sound}
use Rattle.openapi_tables.proofs.WellMade.{final_sound, first_kinds, second_kinds, final_kinds}
use Rattle.openapi_tables.proofs.laws.well_made.Goals as goal

pub returns : goal.returns
returns c = (
  (first_sound, second_sound, final_sound),
  (first_small, second_small, final_small),
  (first_kinds, second_kinds, final_kinds),
)
