-- Kinds (what a value may be), classes of names, rows (the fields of field tables) with their modes, and the names of
-- the tables.
use Rattle.std.specs.Prelude.{ℕ, ℤ, pos, negsuc, Bool, true, false, not, ◌&&◌, ◌||◌, List, [], ◌∷◌, ◌==◌, nat_le, codes}
use Rattle.openapi_tables.specs.Lists.{same_text}
use Rattle.openapi_tables.specs.Code.{is_code, code_of}
-- definitions that other modules import from this one
pub use Rattle.openapi_tables.specs.Code.{Code, code, range, is_digit, is_x, code_of_bytes, code_of, is_code}
pub use Rattle.openapi_tables.specs.Code.{writable_code, text_of}

-- the range of a whole number: unlimited, from 0 to the maximum of `u64` (`sizes`), or that of `i64` (`signed`)
pub data Limits : Type 0 where
  unlimited : Limits
  sizes : Limits
  signed : Limits

-- whether a number is within limits
abbrev pub within : Limits → ℤ → Bool
within unlimited z = true
within sizes (pos n) = nat_le n 18446744073709551615
within sizes (negsuc n) = false
within signed (pos n) = nat_le n 9223372036854775807
within signed (negsuc n) = nat_le n 9223372036854775807

-- The names of the field tables: those of the objects of OpenAPI 3.0 and of their variants, such as each type of
-- schema. Others are for the fields that all parameters share, for those that all schemas share, and for a choice of
-- two members as an object of its own.
pub data TableName : Type 0 where
  open_api : TableName
  info : TableName
  contact : TableName
  license : TableName
  example : TableName
  server : TableName
  server_variable : TableName
  tag : TableName
  external_documentation : TableName
  discriminator : TableName
  components : TableName
  paths : TableName
  path_item : TableName
  operation : TableName
  parameter_data : TableName
  query_parameter : TableName
  header_parameter : TableName
  path_parameter : TableName
  cookie_parameter : TableName
  header : TableName
  media_type : TableName
  encoding : TableName
  request_body : TableName
  responses : TableName
  response : TableName
  link : TableName
  api_key_scheme : TableName
  http_scheme : TableName
  oauth2_scheme : TableName
  open_id_connect_scheme : TableName
  oauth2_flows : TableName
  implicit_flow : TableName
  password_flow : TableName
  client_credentials_flow : TableName
  authorization_code_flow : TableName
  schema_data : TableName
  string_type : TableName
  number_type : TableName
  integer_type : TableName
  object_type : TableName
  array_type : TableName
  boolean_type : TableName
  any_schema : TableName
  one_of_schema : TableName
  all_of_schema : TableName
  any_of_schema : TableName
  not_schema : TableName
  schema_or_content : TableName
  link_operation : TableName
  callback_object : TableName
  xml_object : TableName

-- A text that a tag may have, and the name of the table that it selects.
pub record Case : Type 0 where
  pub word : List ℕ
  pub table : TableName

-- A kind: what a value may be. It is a string, a boolean, a whole number within limits, any node, or one of a set of
-- strings. `format`: a known format or any other string, or null if the boolean is true. `null_or`: null or a value of
-- a kind. `list_of`: a list of a kind. `map_of`: an object whose members are all of a kind. `by`: an object of a table.
-- `tagged`: an object whose tag, a string at a name, selects its table. `ref_to`: a reference or a value of a kind.
-- `flag_or_schema`: a boolean, or a schema or a reference to one. `a_schema`: a schema. `a_schema_kind`: a schema
-- without the fields that all schemas share. `status_code`: a status code.
pub data Kind : Type 0 where
  any_text : Kind
  any_flag : Kind
  number : Limits → Kind
  any_tree : Kind
  one_of : List (List ℕ) → Kind
  format : List (List ℕ) → Bool → Kind
  null_or : Kind → Kind
  list_of : Kind → Kind
  map_of : Kind → Kind
  by : TableName → Kind
  tagged : List ℕ → List Case → Kind
  ref_to : Kind → Kind
  flag_or_schema : Kind
  a_schema : Kind
  a_schema_kind : Kind
  status_code : Kind

-- How a row reads a member that is missing or null, and when it writes one. `required`: the member may not be missing.
-- `optional`: missing and null are read as absent, which is not written. `nullable`: the same, but absent is written as
-- null. `listed`: missing is read as empty, and empty is not written. `flagged`: missing is read as false, and false is
-- not written. `styled`: missing is read as the default, and the member is always written. `formatted`: missing and
-- null are read as unset, which is not written.
pub data Mode : Type 0 where
  required : Mode
  optional : Mode
  nullable : Mode
  listed : Mode
  flagged : Mode
  styled : List ℕ → Mode
  formatted : Mode

-- A class of names: those that begin with `x-`, those that do not, those that begin with `/`, or the status codes.
pub data Class : Type 0 where
  extensions : Class
  callback_names : Class
  path_names : Class
  status_names : Class

-- A row: a field of a field table. It has one name, two names of which the first in the object is read, a class of
-- names, or a name with one constant text, such as a tag.
pub data Row : Type 0 where
  row : List ℕ → Mode → Kind → Row
  either : List ℕ → Kind → List ℕ → Kind → Row
  class : Class → Kind → Row
  constant : List ℕ → List ℕ → Row

-- Tables: the rows of the table of each name.
abbrev pub Tables : Type 0
Tables = TableName → List Row

-- whether the second text begins with the first
abbrev pub begins : List ℕ → List ℕ → Bool
begins [] t = true
begins (a ∷ p) [] = false
begins (a ∷ p) (b ∷ t) = a == b && begins p t

-- whether a name is in a class
abbrev pub in_class : Class → List ℕ → Bool
in_class extensions n = begins (codes "x-") n
in_class callback_names n = not (begins (codes "x-") n)
in_class path_names n = begins (codes "/") n
in_class status_names n = is_code (code_of n)

-- whether a row takes the members of a name: the name is that of the row, one of its two names, or in its class
abbrev pub takes : Row → List ℕ → Bool
takes (row a m k) n = same_text a n
takes (either a j b k) n = same_text a n || same_text b n
takes (class c k) n = in_class c n
takes (constant a v) n = same_text a n
