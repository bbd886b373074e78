use Rattle.openapi_tables.proofs.OrderKept.{classes_kept, deciders_kept, items_kept, list_cleaned, map_cleaned, names_kept}
use Rattle.openapi_tables.proofs.laws.order_kept.Goals as goal

pub returns : goal.returns
returns c = (map_cleaned, list_cleaned, items_kept, classes_kept, names_kept, deciders_kept)
