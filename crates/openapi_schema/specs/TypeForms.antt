-- The type of a schema alone: its tag, and the forms of its fields.
use Rattle.std.specs.Prelude.{◌≡◌, ℕ, true, List, [], ◌∷◌, codes}
use mathlib.Core.Path.{refl}
use Rattle.openapi_tables.specs.Faults.{tag_table}
use Rattle.openapi_tables.specs.Kind.{Case, TableName, string_type, number_type, integer_type, object_type, array_type}
use Rattle.openapi_tables.specs.Kind.{boolean_type}
use Rattle.openapi_tables.specs.Form.{Form}
use Rattle.openapi_tables.specs.Members.{
  Sort,
  string_sort,
  number_sort,
  integer_sort,
  boolean_sort,
  object_sort,
  array_sort,
}
use Rattle.openapi_tables.specs.Rows.{case}
use Rattle.openapi_tables.specs.Sound.{sound}
use Rattle.openapi_tables.specs.Tables.{
  final_tables,
  tables_with,
  schema_type,
  string_rows,
  object_rows,
  array_rows,
  boolean_rows,
}
use Rattle.openapi_fields.specs.Forms.{tagged_form}
use Rattle.openapi_schema.specs.SchemaForms.{schema_type_rows}
use Rattle.openapi_schema.specs.declared.schema.SchemaType.{SchemaType}
use Rattle.openapi_schema_types.specs.TypeNames.{type_name_word}
use Rattle.openapi_schema_types.specs.declared.type_name.TypeName.{TypeName}

-- the texts of `type` of schemas, each with its field table
abbrev pub type_cases : List Case
type_cases =
    case "string" string_type
    ∷ case "number" number_type
    ∷ case "integer" integer_type
    ∷ case "object" object_type
    ∷ case "array" array_type
    ∷ case "boolean" boolean_type
    ∷ []

-- the field table of a type
abbrev pub table_of : TypeName → TableName
table_of n = tag_table type_cases (type_name_word n)

-- the text of `type` of a sort that is a type; empty for other sorts
abbrev pub sort_word : Sort → List ℕ
sort_word string_sort = codes "string"
sort_word number_sort = codes "number"
sort_word integer_sort = codes "integer"
sort_word object_sort = codes "object"
sort_word array_sort = codes "array"
sort_word boolean_sort = codes "boolean"
sort_word _ = []

-- the forms without the first one, which is that of the tag
abbrev pub behind_tag : List Form → List Form
behind_tag [] = []
behind_tag (f ∷ fs) = fs

-- the text of `type` of a schema of this type
abbrev pub schema_type_word : SchemaType → List ℕ
schema_type_word t = sort_word (schema_type_rows t).0

-- the forms of its fields, in the order of its field table
abbrev pub schema_type_fields : SchemaType → List Form
schema_type_fields t = behind_tag (schema_type_rows t).1

-- the form of the type of a schema alone
abbrev pub schema_type_form : SchemaType → Form
schema_type_form = tagged_form schema_type_word schema_type_fields

-- the kind of schema types is `sound`
pub schema_type_sound : sound final_tables schema_type ≡ true
unfolding final_tables tables_with string_rows object_rows array_rows boolean_rows
schema_type_sound = refl
