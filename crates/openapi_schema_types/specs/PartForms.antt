-- The forms of the fields of the parts of schemas that contain no schemas, in the order of their field tables.
use Rattle.std.specs.Prelude.{List, [], ◌∷◌, Option}
use Rattle.openapi_node.specs.Tree.{Tree}
use Rattle.openapi_tables.specs.Form.{Form, leaf}
use Rattle.openapi_fields.specs.Forms.{
  text_form,
  flag_form,
  number_form,
  size_form,
  list_form,
  optional_form,
  nullable_form,
  record_form,
  extensions_form,
}
use Rattle.openapi_schema_types.specs.Annotations.{external_documentation_rows, discriminator_rows, xml_rows}
use Rattle.openapi_values.specs.VariantOr.{variant_or_empty_form}
use Rattle.openapi_values.specs.Words.{number_format_word, integer_format_word, string_format_word}
use Rattle.openapi_schema_types.specs.Enumerations.{text_tree, number_tree, signed_tree, flag_tree}
use Rattle.openapi_schema_types.specs.declared.schema_data.SchemaData.{SchemaData}
use Rattle.openapi_schema_types.specs.declared.string_type.StringType.{StringType}
use Rattle.openapi_schema_types.specs.declared.number_type.NumberType.{NumberType}
use Rattle.openapi_schema_types.specs.declared.integer_type.IntegerType.{IntegerType}
use Rattle.openapi_schema_types.specs.declared.boolean_type.BooleanType.{BooleanType}

-- the form of an entry of an enumeration; that of null for `None`
abbrev pub entry_form : {X : Type 0} → (X → Tree) → Option X → Form
entry_form tree_in = nullable_form (λ x. leaf (tree_in x))

-- the forms of the fields that every kind of schema can have
abbrev pub schema_data_rows : SchemaData → List Form
schema_data_rows d =
    flag_form d.nullable
    ∷ flag_form d.read_only
    ∷ flag_form d.write_only
    ∷ flag_form d.deprecated
    ∷ optional_form (record_form external_documentation_rows) d.external_docs
    ∷ optional_form leaf d.example
    ∷ optional_form text_form d.title
    ∷ optional_form text_form d.description
    ∷ optional_form (record_form discriminator_rows) d.discriminator
    ∷ optional_form leaf d.default
    ∷ optional_form (record_form xml_rows) d.xml
    ∷ extensions_form d.extensions
    ∷ []

-- the forms of the fields of the schema types that contain no schemas
abbrev pub string_type_rows : StringType → List Form
string_type_rows x =
    variant_or_empty_form string_format_word x.format
    ∷ optional_form text_form x.pattern
    ∷ list_form (entry_form text_tree) x.enumeration
    ∷ optional_form size_form x.min_length
    ∷ optional_form size_form x.max_length
    ∷ []

abbrev pub number_type_rows : NumberType → List Form
number_type_rows x =
    variant_or_empty_form number_format_word x.format
    ∷ optional_form number_form x.multiple_of
    ∷ flag_form x.exclusive_minimum
    ∷ flag_form x.exclusive_maximum
    ∷ optional_form number_form x.minimum
    ∷ optional_form number_form x.maximum
    ∷ list_form (entry_form number_tree) x.enumeration
    ∷ []

abbrev pub integer_type_rows : IntegerType → List Form
integer_type_rows x =
    variant_or_empty_form integer_format_word x.format
    ∷ optional_form number_form x.multiple_of
    ∷ flag_form x.exclusive_minimum
    ∷ flag_form x.exclusive_maximum
    ∷ optional_form number_form x.minimum
    ∷ optional_form number_form x.maximum
    ∷ list_form (entry_form signed_tree) x.enumeration
    ∷ []

abbrev pub boolean_type_rows : BooleanType → List Form
boolean_type_rows x = list_form (entry_form flag_tree) x.enumeration ∷ []
