-- The three lists of tables are well made, by computation.
use Rattle.std.proofs.Common.{true, ◌≡◌, refl}
use Rattle.openapi_tables.specs.Lists.{every}
use Rattle.openapi_tables.specs.Tables.{tables_with, tables_before_callbacks, tables_before_xml, final_tables, any_rows}
use Rattle.openapi_tables.specs.Tables.{string_rows, object_rows, array_rows, boolean_rows}
use Rattle.openapi_tables.specs.Members.{sort_rows, allowed, kind_names}
use Rattle.openapi_tables.specs.Sound.{tables_sound, sound, table_names, type_kinds, tables_small}

-- the tables before callbacks are sound
pub first_sound : tables_sound tables_before_callbacks ≡ true
unfolding tables_with tables_before_callbacks any_rows string_rows object_rows array_rows boolean_rows sort_rows
    allowed kind_names table_names
first_sound = refl

-- the tables before `xml` are sound
pub second_sound : tables_sound tables_before_xml ≡ true
unfolding tables_with tables_before_xml any_rows string_rows object_rows array_rows boolean_rows sort_rows allowed
    kind_names table_names
second_sound = refl

-- the final tables are sound
pub final_sound : tables_sound final_tables ≡ true
unfolding tables_with final_tables any_rows string_rows object_rows array_rows boolean_rows sort_rows allowed
    kind_names table_names
final_sound = refl

-- the kinds of the types are sound by the tables before callbacks
pub first_kinds : every (sound tables_before_callbacks) type_kinds ≡ true
unfolding tables_with tables_before_callbacks string_rows object_rows array_rows boolean_rows any_rows
first_kinds = refl

-- the kinds of the types are sound by the tables before `xml`
pub second_kinds : every (sound tables_before_xml) type_kinds ≡ true
unfolding tables_with tables_before_xml string_rows object_rows array_rows boolean_rows any_rows
second_kinds = refl

-- the kinds of the types are sound by the final tables
pub final_kinds : every (sound final_tables) type_kinds ≡ true
unfolding tables_with final_tables string_rows object_rows array_rows boolean_rows any_rows
final_kinds = refl

-- of the tables before callbacks, none has two rows that are written if nothing was read, and neither has a sort of
-- schema
pub first_small : tables_small tables_before_callbacks ≡ true
unfolding tables_with tables_before_callbacks any_rows string_rows object_rows array_rows boolean_rows sort_rows
    table_names
first_small = refl

-- of the tables before `xml`, none has two rows that are written if nothing was read, and neither has a sort of schema
pub second_small : tables_small tables_before_xml ≡ true
unfolding tables_with tables_before_xml any_rows string_rows object_rows array_rows boolean_rows sort_rows table_names
second_small = refl

-- of the final tables, none has two rows that are written if nothing was read, and neither has a sort of schema
pub final_small : tables_small final_tables ≡ true
unfolding tables_with final_tables any_rows string_rows object_rows array_rows boolean_rows sort_rows table_names
final_small = refl
