-- The position of the value for which a text is rejected.
use Rattle.std.specs.Prelude.{ℕ, List, None, IfSome}
use Rattle.openapi_json.specs.Positions.{StandsAt}
use Rattle.openapi_json.specs.declared.position.Position.{Position}
use Rattle.openapi_node.specs.Fault.{place_of}
use Rattle.openapi_tables.specs.Kind.{Kind}
use Rattle.openapi_text.specs.Texts.{Explains}
use Rattle.openapi_text.specs.declared.fault.RunFault.{RunFault}
use Rattle.openapi_text.specs.declared.fault.RunFault.TheVariants as fault
use Rattle.openapi_text.specs.declared.layout.Layout.TheVariants as layout
use Rattle.openapi_text.specs.declared.refusal.Refusal.{Refusal}

-- the position is that of the value at the location of the fault
abbrev pub IsPositionOf : List ℕ → RunFault → Position → Type 0
IsPositionOf bytes (fault.Refused f) p = StandsAt bytes (place_of f) p
IsPositionOf bytes fault.NotJson p = ⊥
IsPositionOf bytes fault.Memory p = ⊥
IsPositionOf bytes fault.Read p = ⊥
IsPositionOf bytes fault.Write p = ⊥

-- why a text that has to be an object of a kind is rejected: the fault explains it, and the position, if there is one, is
-- that of the fault
pub record IsRefusal (k : Kind) (bytes : List ℕ) (refusal : Refusal) : Type 0 where
  pub explains : Explains layout.InOrder k bytes refusal.fault
  pub located : IfSome refusal.position (IsPositionOf bytes refusal.fault)

-- the `Refusal` for a failed allocation, which has no position
abbrev pub no_memory : Refusal
no_memory = record { fault = fault.Memory; position = None }
