-- Two status codes are equal exactly if their codes are.
use Rattle.std.proofs.Common.{◌≡◌, refl}
use Rattle.openapi_tables.specs.Read.{same_code}
use Rattle.openapi_values.specs.StatusCode.{code_in}
use Rattle.openapi_values.specs.declared.status_code.StatusCode.{StatusCode}
use Rattle.openapi_values.specs.declared.status_code.StatusCode.TheVariants.{Code, Range}
use Rattle.openapi_values.specs.contracts.status_code.StatusCodePartialEq.TheImpl as impl

-- `==` on status codes returns whether their codes are the same
pub eq-same_code : (a b : StatusCode) → impl.ghosts.eq a b ≡ same_code (code_in a) (code_in b)
eq-same_code (Code m) (Code n) = refl
eq-same_code (Code m) (Range n) = refl
eq-same_code (Range m) (Code n) = refl
eq-same_code (Range m) (Range n) = refl
