-- Status codes as the field tables have them.
use Rattle.std.specs.Prelude.{ℕ, ℤ, pos, negsuc, ◌&&◌, cond, nat_le, Option, Some, None}
use Rattle.openapi_tables.specs.Kind.{Code, code, range}
use Rattle.openapi_tables.specs.Form.{Form, of_code}
use Rattle.openapi_values.specs.declared.status_code.StatusCode.{StatusCode}
use Rattle.openapi_values.specs.declared.status_code.StatusCode.TheVariants as v

-- the `Code` of a status code
abbrev pub code_in : StatusCode → Code
code_in (v.Code n) = code n
code_in (v.Range n) = range n

-- the `Code` of a whole number, if it is one of 100 to 999
abbrev pub code_of_number : ℤ → Option Code
code_of_number (pos n) = cond (nat_le 100 n && nat_le n 999) (Some (code n)) None
code_of_number (negsuc n) = None

-- the rank of the variant in the order of status codes: 0 for a code of one number, 1 for a range
abbrev pub rank_of : StatusCode → ℕ
rank_of (v.Code n) = 0
rank_of (v.Range n) = 1

-- the number that a status code holds
abbrev pub number_of : StatusCode → ℕ
number_of (v.Code n) = n
number_of (v.Range n) = n

-- the form of a status code
abbrev pub status_code_form : StatusCode → Form
status_code_form s = of_code (code_in s)
