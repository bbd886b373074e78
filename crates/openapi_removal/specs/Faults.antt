-- Why no text is returned for a document.
use Rattle.std.specs.Prelude.{ℕ, List}
use Rattle.openapi_json.specs.Reading as reading
use Rattle.openapi_json.specs.declared.fault.JsonFault.TheVariants as unread
use Rattle.openapi_removal.specs.declared.fault.CleanFault.{CleanFault}
use Rattle.openapi_removal.specs.declared.fault.CleanFault.TheVariants.{NotJson, Memory, Internal}
use Rattle.openapi_removal.specs.declared.fault.Failure.{Failure}
use Rattle.openapi_removal.specs.declared.fault.Failure.TheVariants as failure

-- the error that is returned for a failure after reading
abbrev pub fault_of : Failure → CleanFault
fault_of failure.Memory = Memory
fault_of failure.Internal = Internal

-- why bytes are not read, for `NotJson`: they are not JSON in UTF-8; nothing is stated about the other errors
abbrev pub Explains : List ℕ → CleanFault → Type 0
Explains bytes NotJson = reading.Explains bytes unread.NotJson
Explains bytes Memory = Unit {0}
Explains bytes Internal = Unit {0}
