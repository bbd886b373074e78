-- The forms of headers and contents: a fold over these mutually recursive types.
use Rattle.std.specs.Prelude.{ℕ, List, [], ◌∷◌, codes}
use Rattle.openapi_tables.specs.Form.{Form, absent, leaf, deciding}
use Rattle.openapi_fields.specs.Forms.{
  text_form,
  flag_form,
  optional_form,
  map_form,
  extensions_form,
  record_form,
}
use Rattle.openapi_values.specs.Reference.{reference_form}
use Rattle.openapi_values.specs.Words.{header_style_word, query_style_word, word_form}
use Rattle.openapi_values.specs.declared.reference.ReferenceOr.{ReferenceOr}
use Rattle.openapi_metadata.specs.Objects.{example_rows}
use Rattle.openapi_metadata.specs.declared.example.Example.{Example}
use Rattle.openapi_schema.specs.SchemaForms.{schema_form}
use Rattle.openapi_media_types.specs.declared.format.ParameterSchemaOrContent.{ParameterSchemaOrContent}
use Rattle.openapi_media_types.specs.declared.encoding.Encoding.{Encoding}
use Rattle.openapi_media_types.specs.declared.header.Header.{Header}
use Rattle.openapi_media_types.specs.declared.media_type.MediaType.{MediaType}
use Rattle.openapi_media_types.specs.declared.format.ParameterSchemaOrContent.TheOpen.{
  ParameterSchemaOrContent-F,
  Encoding-F,
  Header-F,
  MediaType-F,
}
use Rattle.openapi_media_types.specs.declared.format.ParameterSchemaOrContent.TheFolds.{
  fold-ParameterSchemaOrContent,
  fold-Encoding,
  fold-Header,
  fold-MediaType,
}

-- an example, or a reference to one
abbrev pub example_ref_form : ReferenceOr Example → Form
example_ref_form = reference_form (record_form example_rows)

-- the form of an object, given the forms of its fields
abbrev pub of_rows : List Form → Form
of_rows = record_form (λ fs. fs)

-- the forms of one level of each type, given those of the values of these types inside
abbrev pub format_step : ParameterSchemaOrContent-F Form (List Form) (List Form) (List Form) → Form
format_step (ParameterSchemaOrContent-F.Schema r) = deciding (codes "schema") (reference_form schema_form r)
format_step (ParameterSchemaOrContent-F.Content m) = deciding (codes "content") (map_form of_rows m)

abbrev pub encoding_step : Encoding-F Form (List Form) (List Form) (List Form) → List Form
encoding_step x =
    optional_form text_form x.content_type
    ∷ map_form (reference_form of_rows) x.headers
    ∷ optional_form (word_form query_style_word) x.style
    ∷ flag_form x.explode
    ∷ flag_form x.allow_reserved
    ∷ extensions_form x.extensions
    ∷ []

abbrev pub header_step : Header-F Form (List Form) (List Form) (List Form) → List Form
header_step x =
    optional_form text_form x.description
    ∷ word_form header_style_word x.style
    ∷ flag_form x.required
    ∷ optional_form flag_form x.deprecated
    ∷ x.format
    ∷ optional_form leaf x.example
    ∷ map_form example_ref_form x.examples
    ∷ extensions_form x.extensions
    ∷ []

abbrev pub media_type_step : MediaType-F Form (List Form) (List Form) (List Form) → List Form
media_type_step x =
    optional_form (reference_form schema_form) x.schema
    ∷ optional_form leaf x.example
    ∷ map_form example_ref_form x.examples
    ∷ map_form of_rows x.encoding
    ∷ extensions_form x.extensions
    ∷ []

-- the form of the schema or the content of a parameter or a header, with the name `schema` or `content`
abbrev pub format_form : ParameterSchemaOrContent → Form
format_form = fold-ParameterSchemaOrContent Form (List Form) (List Form) (List Form) format_step encoding_step header_step
    media_type_step

-- the forms of the fields of an encoding, of a header and of a media type
abbrev pub encoding_rows : Encoding → List Form
encoding_rows = fold-Encoding Form (List Form) (List Form) (List Form) format_step encoding_step header_step
    media_type_step

abbrev pub header_rows : Header → List Form
header_rows = fold-Header Form (List Form) (List Form) (List Form) format_step encoding_step header_step media_type_step

abbrev pub media_type_rows : MediaType → List Form
media_type_rows = fold-MediaType Form (List Form) (List Form) (List Form) format_step encoding_step header_step
    media_type_step

-- the form of each as an object
abbrev pub encoding_form : Encoding → Form
encoding_form = record_form encoding_rows

abbrev pub header_form : Header → Form
header_form = record_form header_rows

abbrev pub media_type_form : MediaType → Form
media_type_form = record_form media_type_rows

-- the name and the inner form of a `deciding` form; the empty name and `absent` for every other form
abbrev pub deciding_name : Form → List ℕ
deciding_name (deciding n f) = n
deciding_name _ = []

abbrev pub deciding_value : Form → Form
deciding_value (deciding n f) = f
deciding_value _ = absent
