-- The forms of the fields of each object that describes a schema or a tag, in the order of its field table.
use Rattle.std.specs.Prelude.{List, [], ◌∷◌}
use Rattle.openapi_tables.specs.Form.{Form}
use Rattle.openapi_fields.specs.Forms.{text_form, flag_form, optional_form, map_form, extensions_form}
use Rattle.openapi_schema_types.specs.declared.discriminator.Discriminator.{Discriminator}
use Rattle.openapi_schema_types.specs.declared.external_documentation.ExternalDocumentation.{ExternalDocumentation}
use Rattle.openapi_schema_types.specs.declared.xml.Xml.{Xml}

-- External Documentation Object
abbrev pub external_documentation_rows : ExternalDocumentation → List Form
external_documentation_rows x =
    optional_form text_form x.description
    ∷ text_form x.url
    ∷ extensions_form x.extensions
    ∷ []

-- Discriminator Object
abbrev pub discriminator_rows : Discriminator → List Form
discriminator_rows x =
    text_form x.property_name
    ∷ map_form text_form x.mapping
    ∷ extensions_form x.extensions
    ∷ []

-- XML Object
abbrev pub xml_rows : Xml → List Form
xml_rows x =
    optional_form text_form x.name
    ∷ optional_form text_form x.namespace
    ∷ optional_form text_form x.prefix
    ∷ flag_form x.attribute
    ∷ flag_form x.wrapped
    ∷ extensions_form x.extensions
    ∷ []
