-- What a `Fault` reports: its cause and its location.
use Rattle.std.specs.Prelude.{◌≡◌, ℕ, [], ◌∷◌, map, string_bytes, ◌⊎◌}
use Rattle.openapi_node.specs.Place.{Step, named, indexed, Place}
use Rattle.openapi_node.specs.declared.fault.Cause.{Cause}
use Rattle.openapi_node.specs.declared.fault.Cause.TheVariants.{Missing, MissingEither, WrongKind, NotAllowed}
use Rattle.openapi_node.specs.declared.fault.Cause.TheVariants.{UnknownVariant, NameNotWritable, NotWhole}
use Rattle.openapi_node.specs.declared.fault.Cause.TheVariants.{Memory}
use Rattle.openapi_node.specs.declared.fault.PlaceStep.{PlaceStep}
use Rattle.openapi_node.specs.declared.fault.PlaceStep.TheVariants.{Name, Index}
use Rattle.openapi_node.specs.declared.fault.Fault.{Fault}

-- the number of a cause
abbrev pub number_of : Cause → ℕ
number_of (Missing n) = 1
number_of (MissingEither n m) = 2
number_of (WrongKind e) = 3
number_of NotAllowed = 4
number_of UnknownVariant = 5
number_of NameNotWritable = 6
number_of NotWhole = 7
number_of Memory = 8

-- the `Step` that a step of a fault's location represents
abbrev pub step_of : PlaceStep → Step
step_of (Name s) = named (string_bytes s)
step_of (Index i) = indexed i

-- the location of a fault
abbrev pub place_of : Fault → Place
place_of f = map step_of f.place.items

-- the fault of a failed allocation, which has the empty location
pub record IsMemory (f : Fault) : Type 0 where
  pub cause : f.cause ≡ Memory
  pub place : f.place.items ≡ []

-- `above` is the fault `below` as seen one step above: it has the same cause, and the step before the location. It may be
-- the fault of a failed allocation instead, and it is one if `below` is
pub record GoesUp (step : Step) (below above : Fault) : Type 0 where
  pub keeps_memory : IsMemory below → IsMemory above
  pub otherwise : IsMemory above ⊎ ((above.cause ≡ below.cause) × (place_of above ≡ step ∷ place_of below))
