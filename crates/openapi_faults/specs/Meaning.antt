-- What the kinds, the rows, the tables and the tags of the code represent in the definitions.
use Rattle.std.specs.Prelude.{◌≡◌, ℕ, true, List, [], ◌∷◌, codes}
use Rattle.openapi_tables.specs.Kind as kind
use Rattle.openapi_tables.specs.Kind.{ref_to, list_of, map_of, null_or, one_of, format}
use Rattle.openapi_tables.specs.Tables.{parameter, security_scheme, schema_type, schema_ref, security_requirement}
use Rattle.openapi_tables.specs.Tables.{path_styles, query_styles, cookie_styles, header_styles}
use Rattle.openapi_tables.specs.Tables.{string_formats, number_formats, integer_formats}
use Rattle.openapi_faults.specs.declared.kind.Kind.{Kind}
use Rattle.openapi_faults.specs.declared.kind.Kind.TheVariants as k
use Rattle.openapi_tables.specs.Faults.{words}
use Rattle.openapi_faults.specs.declared.kind.Inside.{Inside}
use Rattle.openapi_faults.specs.declared.kind.Inside.TheVariants as i
use Rattle.openapi_faults.specs.declared.tag.Case.{Case}
use Rattle.openapi_faults.specs.declared.tag.Tag.{Tag}
use Rattle.openapi_faults.specs.declared.tag.Tag.TheVariants as g
use Rattle.openapi_faults.specs.declared.kind.Limits.{Limits}
use Rattle.openapi_faults.specs.declared.kind.Limits.TheVariants as l
use Rattle.openapi_faults.specs.declared.row.Class.{Class}
use Rattle.openapi_faults.specs.declared.row.Class.TheVariants as c
use Rattle.openapi_faults.specs.declared.row.Row.{Row}
use Rattle.openapi_faults.specs.declared.row.Row.TheVariants as r
use Rattle.openapi_faults.specs.declared.table.TableName.{TableName}
use Rattle.openapi_faults.specs.declared.table.TableName.TheVariants as t

-- the name of a table
abbrev pub table_of : TableName → kind.TableName
table_of t.OpenAPI = kind.open_api
table_of t.Info = kind.info
table_of t.Contact = kind.contact
table_of t.License = kind.license
table_of t.Server = kind.server
table_of t.ServerVariable = kind.server_variable
table_of t.Components = kind.components
table_of t.Paths = kind.paths
table_of t.PathItem = kind.path_item
table_of t.Operation = kind.operation
table_of t.ExternalDocumentation = kind.external_documentation
table_of t.ParameterData = kind.parameter_data
table_of t.QueryParameter = kind.query_parameter
table_of t.HeaderParameter = kind.header_parameter
table_of t.PathParameter = kind.path_parameter
table_of t.CookieParameter = kind.cookie_parameter
table_of t.SchemaOrContent = kind.schema_or_content
table_of t.RequestBody = kind.request_body
table_of t.MediaType = kind.media_type
table_of t.Encoding = kind.encoding
table_of t.Responses = kind.responses
table_of t.Response = kind.response
table_of t.Callback = kind.callback_object
table_of t.Example = kind.example
table_of t.Link = kind.link
table_of t.LinkOperation = kind.link_operation
table_of t.Header = kind.header
table_of t.Tag = kind.tag
table_of t.SchemaData = kind.schema_data
table_of t.StringType = kind.string_type
table_of t.NumberType = kind.number_type
table_of t.IntegerType = kind.integer_type
table_of t.ObjectType = kind.object_type
table_of t.ArrayType = kind.array_type
table_of t.BooleanType = kind.boolean_type
table_of t.AnySchema = kind.any_schema
table_of t.OneOfSchema = kind.one_of_schema
table_of t.AllOfSchema = kind.all_of_schema
table_of t.AnyOfSchema = kind.any_of_schema
table_of t.NotSchema = kind.not_schema
table_of t.Discriminator = kind.discriminator
table_of t.Xml = kind.xml_object
table_of t.APIKeyScheme = kind.api_key_scheme
table_of t.HTTPScheme = kind.http_scheme
table_of t.OAuth2Scheme = kind.oauth2_scheme
table_of t.OpenIDConnectScheme = kind.open_id_connect_scheme
table_of t.OAuth2Flows = kind.oauth2_flows
table_of t.ImplicitFlow = kind.implicit_flow
table_of t.PasswordFlow = kind.password_flow
table_of t.ClientCredentialsFlow = kind.client_credentials_flow
table_of t.AuthorizationCodeFlow = kind.authorization_code_flow

-- the limits of a number
abbrev pub limits_of : Limits → kind.Limits
limits_of l.Unlimited = kind.unlimited
limits_of l.Sizes = kind.sizes
limits_of l.Signed = kind.signed

-- a text of a tag, with the table that it selects
abbrev pub case_of : Case → kind.Case
case_of c = record { word = c.0.now; table = table_of c.1 }

-- the name of a tag
abbrev pub tag_name : Tag → List ℕ
tag_name g.Parameter = codes "in"
tag_name g.SecurityScheme = codes "type"
tag_name g.SchemaType = codes "type"

-- the cases of a kind with a tag; none for other kinds
abbrev pub cases_in : kind.Kind → List kind.Case
cases_in (kind.tagged n cs) = cs
cases_in _ = []

-- the kind of the objects that have a tag
abbrev pub tagged_of : Tag → kind.Kind
tagged_of g.Parameter = parameter
tagged_of g.SecurityScheme = security_scheme
tagged_of g.SchemaType = schema_type

-- the texts of a tag, each with the table that it selects
abbrev pub cases_of : Tag → List kind.Case
cases_of g = cases_in (tagged_of g)

-- the kind of a value
abbrev pub kind_of : Kind → kind.Kind
kind_of k.Text = kind.any_text
kind_of k.Flag = kind.any_flag
kind_of (k.Number w) = kind.number (limits_of w)
kind_of k.Any = kind.any_tree
kind_of k.APIKeyLocation = one_of (codes "query" ∷ codes "header" ∷ codes "cookie" ∷ [])
kind_of k.PathStyle = one_of path_styles
kind_of k.QueryStyle = one_of query_styles
kind_of k.CookieStyle = one_of cookie_styles
kind_of k.HeaderStyle = one_of header_styles
kind_of k.StringFormat = format string_formats true
kind_of k.NumberFormat = format number_formats true
kind_of k.IntegerFormat = format integer_formats true
kind_of k.ParameterTag = one_of (words (cases_of g.Parameter))
kind_of k.SecuritySchemeTag = one_of (words (cases_of g.SecurityScheme))
kind_of k.SchemaTypeTag = one_of (words (cases_of g.SchemaType))
kind_of k.TextOrNull = null_or kind.any_text
kind_of k.FlagOrNull = null_or kind.any_flag
kind_of (k.NumberOrNull w) = null_or (kind.number (limits_of w))
kind_of k.Texts = list_of kind.any_text
kind_of k.Values = list_of kind.any_tree
kind_of k.TextsOrNulls = list_of (null_or kind.any_text)
kind_of k.FlagsOrNulls = list_of (null_or kind.any_flag)
kind_of (k.NumbersOrNulls w) = list_of (null_or (kind.number (limits_of w)))
kind_of k.TextMap = map_of kind.any_text
kind_of k.ValueMap = map_of kind.any_tree
kind_of k.SecurityRequirement = security_requirement
kind_of k.SecurityRequirements = list_of security_requirement
kind_of (k.Object i) = kind.by (table_of i)
kind_of (k.Objects i) = list_of (kind.by (table_of i))
kind_of (k.ObjectMap i) = map_of (kind.by (table_of i))
kind_of (k.ObjectOrRef i) = ref_to (kind.by (table_of i))
kind_of (k.ObjectOrRefMap i) = map_of (ref_to (kind.by (table_of i)))
kind_of k.Parameter = parameter
kind_of k.ParameterOrRef = ref_to parameter
kind_of k.ParametersOrRefs = list_of (ref_to parameter)
kind_of k.ParameterOrRefMap = map_of (ref_to parameter)
kind_of k.SecurityScheme = security_scheme
kind_of k.SecuritySchemeOrRef = ref_to security_scheme
kind_of k.SecuritySchemeOrRefMap = map_of (ref_to security_scheme)
kind_of k.Schema = kind.a_schema
kind_of k.SchemaOrRef = schema_ref
kind_of k.SchemasOrRefs = list_of schema_ref
kind_of k.SchemaOrRefMap = map_of schema_ref
kind_of k.FlagOrSchema = kind.flag_or_schema
kind_of k.SchemaKind = kind.a_schema_kind
kind_of k.SchemaType = schema_type
kind_of k.StatusCode = kind.status_code

-- a class of names
abbrev pub class_of : Class → kind.Class
class_of c.Extensions = kind.extensions
class_of c.CallbackNames = kind.callback_names
class_of c.PathNames = kind.path_names
class_of c.StatusNames = kind.status_names

-- a row of a table
abbrev pub row_of : Row → kind.Row
row_of (r.Required n k) = kind.row n.now kind.required (kind_of k)
row_of (r.Optional n k) = kind.row n.now kind.optional (kind_of k)
row_of (r.Nullable n k) = kind.row n.now kind.nullable (kind_of k)
row_of (r.Listed n k) = kind.row n.now kind.listed (kind_of k)
row_of (r.Flag n) = kind.row n.now kind.flagged kind.any_flag
row_of (r.Styled n s k) = kind.row n.now (kind.styled s.now) (kind_of k)
row_of (r.Format n k) = kind.row n.now kind.formatted (kind_of k)
row_of (r.Either a j b k) = kind.either a.now (kind_of j) b.now (kind_of k)
row_of (r.Names c k) = kind.class (class_of c) (kind_of k)

-- a kind that requires nothing of the values inside a value
abbrev pub is_leaf : kind.Kind → Type 0
is_leaf (list_of k) = ⊥
is_leaf (map_of k) = ⊥
is_leaf (kind.by i) = ⊥
is_leaf (kind.tagged n cs) = ⊥
is_leaf (ref_to k) = ⊥
is_leaf kind.flag_or_schema = ⊥
is_leaf kind.a_schema = ⊥
is_leaf kind.a_schema_kind = ⊥
is_leaf _ = Unit {0}

-- what a kind requires inside a value
abbrev pub inside_of : kind.Kind → Inside → Type 0
inside_of k i.Nothing = is_leaf k
inside_of k (i.Items j) = k ≡ list_of (kind_of j)
inside_of k (i.Members j) = k ≡ map_of (kind_of j)
inside_of k (i.Rows n) = k ≡ kind.by (table_of n)
inside_of k (i.Tagged g) = k ≡ tagged_of g
inside_of k (i.Item j) = k ≡ ref_to (kind_of j)
inside_of k i.Schema = k ≡ kind.flag_or_schema
inside_of k i.SchemaRows = k ≡ kind.a_schema
inside_of k i.TypeRows = k ≡ kind.a_schema_kind
