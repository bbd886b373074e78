-- The forms of the fields of each object that is read by a field table, in the order of that table.
use Rattle.std.specs.Prelude.{List, [], ◌∷◌}
use Rattle.openapi_tables.specs.Form.{Form, leaf}
use Rattle.openapi_fields.specs.Forms.{
  text_form,
  optional_form,
  list_form,
  map_form,
  extensions_form,
  record_form,
}
use Rattle.openapi_schema_types.specs.Annotations.{external_documentation_rows}
use Rattle.openapi_metadata.specs.declared.contact.Contact.{Contact}
use Rattle.openapi_metadata.specs.declared.example.Example.{Example}
use Rattle.openapi_metadata.specs.declared.info.Info.{Info}
use Rattle.openapi_metadata.specs.declared.license.License.{License}
use Rattle.openapi_metadata.specs.declared.server.Server.{Server}
use Rattle.openapi_metadata.specs.declared.server_variable.ServerVariable.{ServerVariable}
use Rattle.openapi_metadata.specs.declared.tag.Tag.{Tag}

-- Tag Object
abbrev pub tag_rows : Tag → List Form
tag_rows x =
    text_form x.name
    ∷ optional_form text_form x.description
    ∷ optional_form (record_form external_documentation_rows) x.external_docs
    ∷ extensions_form x.extensions
    ∷ []

-- Contact Object
abbrev pub contact_rows : Contact → List Form
contact_rows x =
    optional_form text_form x.name
    ∷ optional_form text_form x.url
    ∷ optional_form text_form x.email
    ∷ extensions_form x.extensions
    ∷ []

-- License Object
abbrev pub license_rows : License → List Form
license_rows x =
    text_form x.name
    ∷ optional_form text_form x.url
    ∷ extensions_form x.extensions
    ∷ []

-- Info Object
abbrev pub info_rows : Info → List Form
info_rows x =
    text_form x.title
    ∷ optional_form text_form x.description
    ∷ optional_form text_form x.terms_of_service
    ∷ optional_form (record_form contact_rows) x.contact
    ∷ optional_form (record_form license_rows) x.license
    ∷ text_form x.version
    ∷ extensions_form x.extensions
    ∷ []

-- Example Object
abbrev pub example_rows : Example → List Form
example_rows x =
    optional_form text_form x.summary
    ∷ optional_form text_form x.description
    ∷ optional_form leaf x.value
    ∷ optional_form text_form x.external_value
    ∷ extensions_form x.extensions
    ∷ []

-- Server Variable Object
abbrev pub server_variable_rows : ServerVariable → List Form
server_variable_rows x =
    list_form text_form x.enumeration
    ∷ text_form x.default
    ∷ optional_form text_form x.description
    ∷ extensions_form x.extensions
    ∷ []

-- Server Object
abbrev pub server_rows : Server → List Form
server_rows x =
    text_form x.url
    ∷ optional_form text_form x.description
    ∷ optional_form (map_form (record_form server_variable_rows)) x.variables
    ∷ extensions_form x.extensions
    ∷ []
