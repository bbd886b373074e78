-- Sets of words, and the word of each value.
use Rattle.std.specs.Prelude.{◌≡◌, ℕ, List, [], ◌∷◌, codes, Result, is_ok, IfOk}
use Rattle.openapi_node.specs.Tree.{text}
use Rattle.openapi_tables.specs.Form.{Form, leaf}
use Rattle.openapi_tables.specs.Lists.{has}
use Rattle.openapi_values.specs.declared.parameter.CookieStyle.{CookieStyle}
use Rattle.openapi_values.specs.declared.parameter.CookieStyle.TheVariants as cookie
use Rattle.openapi_values.specs.declared.parameter.HeaderStyle.{HeaderStyle}
use Rattle.openapi_values.specs.declared.parameter.HeaderStyle.TheVariants as header
use Rattle.openapi_values.specs.declared.parameter.PathStyle.{PathStyle}
use Rattle.openapi_values.specs.declared.parameter.PathStyle.TheVariants as path
use Rattle.openapi_values.specs.declared.parameter.QueryStyle.{QueryStyle}
use Rattle.openapi_values.specs.declared.parameter.QueryStyle.TheVariants as query
use Rattle.openapi_values.specs.declared.schema.IntegerFormat.{IntegerFormat}
use Rattle.openapi_values.specs.declared.schema.IntegerFormat.TheVariants as integer
use Rattle.openapi_values.specs.declared.schema.NumberFormat.{NumberFormat}
use Rattle.openapi_values.specs.declared.schema.NumberFormat.TheVariants as number
use Rattle.openapi_values.specs.declared.schema.StringFormat.{StringFormat}
use Rattle.openapi_values.specs.declared.schema.StringFormat.TheVariants as string
use Rattle.openapi_values.specs.declared.security_scheme.APIKeyLocation.{APIKeyLocation}
use Rattle.openapi_values.specs.declared.security_scheme.APIKeyLocation.TheVariants as location

-- a text that is a word of the set is read as a value with that word, and any other text is an error
pub record IsWordRead {X E : Type 0} (word : X → List ℕ) (words : List (List ℕ))
    (text : List ℕ) (r : Result X E) : Type 0 where
  pub found : is_ok r ≡ has words text
  pub value : IfOk r (λ x. word x ≡ text)

-- the form of a value of a set, by the word of each value
abbrev pub word_form : {X : Type 0} → (X → List ℕ) → X → Form
word_form word x = leaf (text (word x))

-- the word of a number format
abbrev pub number_format_word : NumberFormat → List ℕ
number_format_word number.Float = codes "float"
number_format_word number.Double = codes "double"

-- the word of an integer format
abbrev pub integer_format_word : IntegerFormat → List ℕ
integer_format_word integer.Int32 = codes "int32"
integer_format_word integer.Int64 = codes "int64"

-- the word of a string format
abbrev pub string_format_word : StringFormat → List ℕ
string_format_word string.Date = codes "date"
string_format_word string.DateTime = codes "date-time"
string_format_word string.Password = codes "password"
string_format_word string.Byte = codes "byte"
string_format_word string.Binary = codes "binary"

-- the word of a style of parameters in a path
abbrev pub path_style_word : PathStyle → List ℕ
path_style_word path.Matrix = codes "matrix"
path_style_word path.Label = codes "label"
path_style_word path.Simple = codes "simple"

-- the word of a style of parameters in a query
abbrev pub query_style_word : QueryStyle → List ℕ
query_style_word query.Form = codes "form"
query_style_word query.SpaceDelimited = codes "spaceDelimited"
query_style_word query.PipeDelimited = codes "pipeDelimited"
query_style_word query.DeepObject = codes "deepObject"

-- the word of a style of parameters in a cookie
abbrev pub cookie_style_word : CookieStyle → List ℕ
cookie_style_word cookie.Form = codes "form"

-- the word of a style of headers
abbrev pub header_style_word : HeaderStyle → List ℕ
header_style_word header.Simple = codes "simple"

-- the words for the parts of a request that may hold an API key
abbrev pub api_key_locations : List (List ℕ)
api_key_locations = codes "query" ∷ codes "header" ∷ codes "cookie" ∷ []

-- the word for a part of a request that may hold an API key
abbrev pub api_key_location_word : APIKeyLocation → List ℕ
api_key_location_word location.Query = codes "query"
api_key_location_word location.Header = codes "header"
api_key_location_word location.Cookie = codes "cookie"
