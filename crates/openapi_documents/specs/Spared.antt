-- A callback, which a reference may replace, is written without a text under `$ref`: the value of each of its names,
-- also of this one, is a path item.
use Rattle.std.proofs.Common.{◌≡◌, true, refl}
use Rattle.openapi_tables.specs.Kind.{by, callback_object}
use Rattle.openapi_tables.specs.Sound.{under_ref}
use Rattle.openapi_tables.specs.Tables.{final_tables, tables_with}

pub callback_spares : under_ref final_tables (by callback_object) ≡ true
unfolding final_tables tables_with
callback_spares = refl
