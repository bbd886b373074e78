-- The sections of the Components Object (OpenAPI 3.0.3, section 4.7.7), each for components of one type.
use Rattle.std.specs.Prelude.{ℕ, List, codes}
use Rattle.openapi_map.specs.Entries.{Entries}
use Rattle.openapi_documents.specs.declared.callback.Callback.{Callback}
use Rattle.openapi_documents.specs.declared.components.Components.{Components}
use Rattle.openapi_media_types.specs.declared.header.Header.{Header}
use Rattle.openapi_metadata.specs.declared.example.Example.{Example}
use Rattle.openapi_metadata.specs.declared.link.Link.{Link}
use Rattle.openapi_parameters.specs.declared.parameter.Parameter.{Parameter}
use Rattle.openapi_responses.specs.declared.request_body.RequestBody.{RequestBody}
use Rattle.openapi_responses.specs.declared.response.Response.{Response}
use Rattle.openapi_schema.specs.declared.schema.Schema.{Schema}
use Rattle.openapi_security.specs.declared.security_scheme.SecurityScheme.{SecurityScheme}
use Rattle.openapi_values.specs.declared.reference.ReferenceOr.{ReferenceOr}

-- A section: its name in a document, and its components, each an object or a reference.
pub record Section (X : Type 0) : Type 0 where
  pub name : List ℕ
  pub entries : Components → Entries (ReferenceOr X)

abbrev pub schemas : Section Schema
schemas = record { name = codes "schemas"; entries = λ c. c.schemas }

abbrev pub responses : Section Response
responses = record { name = codes "responses"; entries = λ c. c.responses }

abbrev pub parameters : Section Parameter
parameters = record { name = codes "parameters"; entries = λ c. c.parameters }

abbrev pub examples : Section Example
examples = record { name = codes "examples"; entries = λ c. c.examples }

abbrev pub request_bodies : Section RequestBody
request_bodies = record { name = codes "requestBodies"; entries = λ c. c.request_bodies }

abbrev pub headers : Section Header
headers = record { name = codes "headers"; entries = λ c. c.headers }

abbrev pub security_schemes : Section SecurityScheme
security_schemes = record { name = codes "securitySchemes"; entries = λ c. c.security_schemes }

abbrev pub links : Section Link
links = record { name = codes "links"; entries = λ c. c.links }

abbrev pub callbacks : Section Callback
callbacks = record { name = codes "callbacks"; entries = λ c. c.callbacks }
