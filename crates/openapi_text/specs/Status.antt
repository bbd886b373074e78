-- The exit status of each failure.
use Rattle.std.specs.Prelude.{ℕ}
use Rattle.openapi_text.specs.declared.fault.RunFault.{RunFault}
use Rattle.openapi_text.specs.declared.fault.RunFault.TheVariants.{Refused, NotJson, Memory, Read, Write}

-- the exit status of a failure
abbrev pub status_of : RunFault → ℕ
status_of (Refused f) = 1
status_of NotJson = 2
status_of Memory = 3
status_of Read = 3
status_of Write = 3
