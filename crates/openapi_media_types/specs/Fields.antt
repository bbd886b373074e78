-- The forms of the fields of headers, media types and encodings, in the order of their field tables.
use Rattle.std.specs.Prelude.{List, [], ◌∷◌, codes}
use Rattle.openapi_tables.specs.Kind.{Row, either, encoding, header, media_type}
use Rattle.openapi_tables.specs.Tables.{content, schema_ref}
use Rattle.openapi_tables.specs.Form.{Form, leaf}
use Rattle.openapi_tables.specs.Slots.{Slot}
use Rattle.openapi_fields.specs.Forms.{text_form, flag_form, optional_form, map_form, extensions_form, record_slots}
use Rattle.openapi_values.specs.Reference.{reference_form}
use Rattle.openapi_values.specs.Words.{header_style_word, query_style_word, word_form}
use Rattle.openapi_schema.specs.SchemaForms.{schema_form}
use Rattle.openapi_media_types.specs.ContentForms.{encoding_form, example_ref_form, format_form, header_form}
use Rattle.openapi_media_types.specs.declared.format.ParameterSchemaOrContent.{ParameterSchemaOrContent}
use Rattle.openapi_media_types.specs.declared.encoding.Encoding.{Encoding, out-Encoding}
use Rattle.openapi_media_types.specs.declared.header.Header.{Header, out-Header}
use Rattle.openapi_media_types.specs.declared.media_type.MediaType.{MediaType, out-MediaType}

-- the row of a parameter or a header that holds its `schema` or its `content`
abbrev pub format_row : Row
format_row = either (codes "schema") schema_ref (codes "content") content

-- the forms of an object that has this field only
abbrev pub format_fields : ParameterSchemaOrContent → List Form
format_fields x = format_form x ∷ []

-- Header Object
abbrev pub header_fields : Header → List Form
header_fields x =
    optional_form text_form (out-Header x).description
    ∷ word_form header_style_word (out-Header x).style
    ∷ flag_form (out-Header x).required
    ∷ optional_form flag_form (out-Header x).deprecated
    ∷ format_form (out-Header x).format
    ∷ optional_form leaf (out-Header x).example
    ∷ map_form example_ref_form (out-Header x).examples
    ∷ extensions_form (out-Header x).extensions
    ∷ []

-- Media Type Object
abbrev pub media_type_fields : MediaType → List Form
media_type_fields x =
    optional_form (reference_form schema_form) (out-MediaType x).schema
    ∷ optional_form leaf (out-MediaType x).example
    ∷ map_form example_ref_form (out-MediaType x).examples
    ∷ map_form encoding_form (out-MediaType x).encoding
    ∷ extensions_form (out-MediaType x).extensions
    ∷ []

-- Encoding Object
abbrev pub encoding_fields : Encoding → List Form
encoding_fields x =
    optional_form text_form (out-Encoding x).content_type
    ∷ map_form (reference_form header_form) (out-Encoding x).headers
    ∷ optional_form (word_form query_style_word) (out-Encoding x).style
    ∷ flag_form (out-Encoding x).explode
    ∷ flag_form (out-Encoding x).allow_reserved
    ∷ extensions_form (out-Encoding x).extensions
    ∷ []

-- the slots of each
abbrev pub header_slots : Header → List Slot
header_slots = record_slots header header_fields

abbrev pub media_type_slots : MediaType → List Slot
media_type_slots = record_slots media_type media_type_fields

abbrev pub encoding_slots : Encoding → List Slot
encoding_slots = record_slots encoding encoding_fields
