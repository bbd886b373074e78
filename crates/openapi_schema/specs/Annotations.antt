-- The annotations of a new schema.
use Rattle.std.specs.Prelude.{◌≡◌, false, [], None}
use Rattle.openapi_schema_types.specs.declared.schema_data.SchemaData.{SchemaData}

-- no flag is set, and every other field is `None` or empty
pub record HasNoAnnotations (d : SchemaData) : Type 0 where
  pub nullable : d.nullable ≡ false
  pub read_only : d.read_only ≡ false
  pub write_only : d.write_only ≡ false
  pub deprecated : d.deprecated ≡ false
  pub external_docs : d.external_docs ≡ None
  pub example : d.example ≡ None
  pub title : d.title ≡ None
  pub description : d.description ≡ None
  pub discriminator : d.discriminator ≡ None
  pub default : d.default ≡ None
  pub xml : d.xml ≡ None
  pub extensions : d.extensions ≡ []
