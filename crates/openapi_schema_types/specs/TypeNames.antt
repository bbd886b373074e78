-- The texts of `type` of schemas.
use Rattle.std.specs.Prelude.{ℕ, List, [], ◌∷◌, codes}
use Rattle.openapi_schema_types.specs.declared.type_name.TypeName.{TypeName}
use Rattle.openapi_schema_types.specs.declared.type_name.TypeName.TheVariants as names

-- the texts of all types
abbrev pub type_words : List (List ℕ)
type_words =
    codes "string" ∷ codes "number" ∷ codes "integer" ∷ codes "object" ∷ codes "array" ∷ codes "boolean" ∷ []

-- the text of a type
abbrev pub type_name_word : TypeName → List ℕ
type_name_word names.String = codes "string"
type_name_word names.Number = codes "number"
type_name_word names.Integer = codes "integer"
type_name_word names.Object = codes "object"
type_name_word names.Array = codes "array"
type_name_word names.Boolean = codes "boolean"
