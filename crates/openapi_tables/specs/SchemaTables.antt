-- The field tables of the Schema Object and of objects in it: the Discriminator Object and the XML Object.
use Rattle.std.specs.Prelude.{ℕ, List, [], ◌∷◌, codes}
use Rattle.openapi_tables.specs.Lists.{join}
use Rattle.openapi_tables.specs.Kind.{Kind, any_text, any_flag, number, any_tree, null_or, list_of, map_of, by, tagged}
use Rattle.openapi_tables.specs.Kind.{ref_to, flag_or_schema, a_schema, Limits, unlimited, sizes, Row}
use Rattle.openapi_tables.specs.Kind.{external_documentation, discriminator, string_type, number_type, integer_type}
use Rattle.openapi_tables.specs.Kind.{object_type, array_type, boolean_type}
use Rattle.openapi_tables.specs.Rows.{required_row, optional_row, list_row, flag_row, format_row, extension_rows, case}

-- a schema, or a reference to one
abbrev pub schema_ref : Kind
schema_ref = ref_to a_schema

-- the formats of numbers that are known
abbrev pub number_formats : List (List ℕ)
number_formats = codes "float" ∷ codes "double" ∷ []

-- the formats of integers that are known
abbrev pub integer_formats : List (List ℕ)
integer_formats = codes "int32" ∷ codes "int64" ∷ []

-- the formats of strings that are known
abbrev pub string_formats : List (List ℕ)
string_formats = codes "date" ∷ codes "date-time" ∷ codes "password" ∷ codes "byte" ∷ codes "binary" ∷ []

-- the fields that all schemas may have, whatever their `type`, with given fields after `default`
abbrev pub data_rows : List Row → List Row
data_rows behind =
    flag_row "nullable"
    ∷ flag_row "readOnly"
    ∷ flag_row "writeOnly"
    ∷ flag_row "deprecated"
    ∷ optional_row "externalDocs" (by external_documentation)
    ∷ optional_row "example" any_tree
    ∷ optional_row "title" any_text
    ∷ optional_row "description" any_text
    ∷ optional_row "discriminator" (by discriminator)
    ∷ optional_row "default" any_tree
    ∷ join behind extension_rows

-- the further fields of a schema of the type `string`
unfoldable pub string_rows : List Row
string_rows =
    format_row "format" string_formats
    ∷ optional_row "pattern" any_text
    ∷ list_row "enum" (list_of (null_or any_text))
    ∷ optional_row "minLength" (number sizes)
    ∷ optional_row "maxLength" (number sizes)
    ∷ []

-- the further fields of a schema of the type `number` or `integer`, where all numbers are within given limits
abbrev pub number_rows : Limits → List (List ℕ) → List Row
number_rows w known =
    format_row "format" known
    ∷ optional_row "multipleOf" (number w)
    ∷ flag_row "exclusiveMinimum"
    ∷ flag_row "exclusiveMaximum"
    ∷ optional_row "minimum" (number w)
    ∷ optional_row "maximum" (number w)
    ∷ list_row "enum" (list_of (null_or (number w)))
    ∷ []

-- the further fields of a schema of the type `object`
unfoldable pub object_rows : List Row
object_rows =
    list_row "properties" (map_of schema_ref)
    ∷ list_row "required" (list_of any_text)
    ∷ optional_row "additionalProperties" flag_or_schema
    ∷ optional_row "minProperties" (number sizes)
    ∷ optional_row "maxProperties" (number sizes)
    ∷ []

-- the further fields of a schema of the type `array`
unfoldable pub array_rows : List Row
array_rows =
    optional_row "items" schema_ref
    ∷ optional_row "minItems" (number sizes)
    ∷ optional_row "maxItems" (number sizes)
    ∷ flag_row "uniqueItems"
    ∷ []

-- the further fields of a schema of the type `boolean`
unfoldable pub boolean_rows : List Row
boolean_rows =
    list_row "enum" (list_of (null_or any_flag))
    ∷ []

-- the further fields of a schema that is of no single type: the 24 kind names of all sorts, each read by itself
unfoldable pub any_rows : List Row
any_rows =
    optional_row "type" any_text
    ∷ optional_row "pattern" any_text
    ∷ optional_row "multipleOf" (number unlimited)
    ∷ optional_row "exclusiveMinimum" any_flag
    ∷ optional_row "exclusiveMaximum" any_flag
    ∷ optional_row "minimum" (number unlimited)
    ∷ optional_row "maximum" (number unlimited)
    ∷ list_row "properties" (map_of schema_ref)
    ∷ list_row "required" (list_of any_text)
    ∷ optional_row "additionalProperties" flag_or_schema
    ∷ optional_row "minProperties" (number sizes)
    ∷ optional_row "maxProperties" (number sizes)
    ∷ optional_row "items" schema_ref
    ∷ optional_row "minItems" (number sizes)
    ∷ optional_row "maxItems" (number sizes)
    ∷ optional_row "uniqueItems" any_flag
    ∷ list_row "enum" (list_of any_tree)
    ∷ optional_row "format" any_text
    ∷ optional_row "minLength" (number sizes)
    ∷ optional_row "maxLength" (number sizes)
    ∷ list_row "oneOf" (list_of schema_ref)
    ∷ list_row "allOf" (list_of schema_ref)
    ∷ list_row "anyOf" (list_of schema_ref)
    ∷ optional_row "not" schema_ref
    ∷ []

-- the further field of a schema of the sort `oneOf`
abbrev pub one_of_rows : List Row
one_of_rows = required_row "oneOf" (list_of schema_ref) ∷ []

-- the further field of a schema of the sort `allOf`
abbrev pub all_of_rows : List Row
all_of_rows = required_row "allOf" (list_of schema_ref) ∷ []

-- the further field of a schema of the sort `anyOf`
abbrev pub any_of_rows : List Row
any_of_rows = required_row "anyOf" (list_of schema_ref) ∷ []

-- the further field of a schema of the sort `not`
abbrev pub not_rows : List Row
not_rows = required_row "not" schema_ref ∷ []

-- the type of a schema as an object of its own, tagged by `type`
abbrev pub schema_type : Kind
schema_type = tagged (codes "type")
    (case "string" string_type
    ∷ case "number" number_type
    ∷ case "integer" integer_type
    ∷ case "object" object_type
    ∷ case "array" array_type
    ∷ case "boolean" boolean_type ∷ [])

-- Discriminator Object
abbrev pub discriminator_rows : List Row
discriminator_rows =
    required_row "propertyName" any_text
    ∷ list_row "mapping" (map_of any_text)
    ∷ extension_rows

-- XML Object
abbrev pub xml_rows : List Row
xml_rows =
    optional_row "name" any_text
    ∷ optional_row "namespace" any_text
    ∷ optional_row "prefix" any_text
    ∷ flag_row "attribute"
    ∷ flag_row "wrapped"
    ∷ extension_rows
