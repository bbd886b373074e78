-- Each kind is well made.
use Rattle.std.proofs.Common.{◌≡◌, true, refl}
use Rattle.std.proofs.lemmas.Bool.{and_from}
use Rattle.openapi_tables.specs.Kind as kind
use Rattle.openapi_tables.specs.Kind.{TableName}
use Rattle.openapi_tables.specs.Lists.{every}
use Rattle.openapi_tables.specs.SchemaTables.{any_rows, array_rows, boolean_rows, object_rows, string_rows}
use Rattle.openapi_tables.specs.Sound.{keeps_ref, sound, type_kinds}
use Rattle.openapi_tables.specs.Tables.{final_tables, tables_with}
use Rattle.openapi_tables.proofs.ListLaws.{every_each}
use Rattle.openapi_tables.proofs.WellMade.{final_kinds}
use Rattle.openapi_faults.specs.Meaning.{kind_of, table_of}
use Rattle.openapi_faults.specs.declared.kind.Kind.{Kind}
use Rattle.openapi_faults.specs.declared.kind.Kind.TheVariants as k

-- no row of a table writes a string at `$ref` if it read none
under : (i : TableName) → every keeps_ref (final_tables i) ≡ true
unfolding final_tables tables_with string_rows object_rows array_rows boolean_rows any_rows
under kind.open_api = refl
under i = refl

-- the kinds of objects with a tag, and references to them
parameter_sound : sound final_tables (kind_of k.Parameter) ≡ true
parameter_sound = (every_each (sound final_tables) type_kinds final_kinds).0

security_scheme_sound : sound final_tables (kind_of k.SecurityScheme) ≡ true
security_scheme_sound = (every_each (sound final_tables) type_kinds final_kinds).1.0

schema_type_sound : sound final_tables (kind_of k.SchemaType) ≡ true
schema_type_sound = (every_each (sound final_tables) type_kinds final_kinds).1.1.0

parameter_ref_sound : sound final_tables (kind_of k.ParameterOrRef) ≡ true
parameter_ref_sound = (every_each (sound final_tables) type_kinds final_kinds).1.1.1.1.1.1.1.1.1.1.1.1.0

security_scheme_ref_sound : sound final_tables (kind_of k.SecuritySchemeOrRef) ≡ true
security_scheme_ref_sound = (every_each (sound final_tables) type_kinds final_kinds).1.1.1.1.1.1.1.1.1.1.1.1.1.1.1.1.0

pub kind_sound : (j : Kind) → sound final_tables (kind_of j) ≡ true
kind_sound k.Parameter = parameter_sound
kind_sound k.SecurityScheme = security_scheme_sound
kind_sound k.SchemaType = schema_type_sound
kind_sound k.ParameterOrRef = parameter_ref_sound
kind_sound k.ParametersOrRefs = parameter_ref_sound
kind_sound k.ParameterOrRefMap = parameter_ref_sound
kind_sound k.SecuritySchemeOrRef = security_scheme_ref_sound
kind_sound k.SecuritySchemeOrRefMap = security_scheme_ref_sound
kind_sound (k.ObjectOrRef i) = and_from (every keeps_ref (final_tables (table_of i))) true (under (table_of i)) refl
kind_sound (k.ObjectOrRefMap i) = and_from (every keeps_ref (final_tables (table_of i))) true (under (table_of i)) refl
kind_sound j = refl
