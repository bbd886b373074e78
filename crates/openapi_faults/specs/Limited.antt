-- The locations at which a whole number within limits is required.
use Rattle.std.specs.Prelude.{Bool, true, false, cond, List, [], ◌∷◌, map}
use Rattle.openapi_node.specs.Fault.{step_of}
use Rattle.openapi_node.specs.Place.{Place}
use Rattle.openapi_node.specs.Tree.{Tree}
use Rattle.openapi_tables.specs.Faults.{Asking, asked}
use Rattle.openapi_tables.specs.Kind.{Kind, Limits, null_or, number, sizes, signed, unlimited}
use Rattle.openapi_tables.specs.Lists.{each, flat}
use Rattle.openapi_tables.specs.Tables.{final_tables}
use Rattle.openapi_faults.specs.declared.limited.LimitedNumber.{LimitedNumber}

-- whether the limits exclude some whole numbers
abbrev pub is_bounded : Limits → Bool
is_bounded unlimited = false
is_bounded sizes = true
is_bounded signed = true

-- whether a kind is that of a whole number within limits (a length, a count or a limit of an integer), with or without null
abbrev pub is_limited : Kind → Bool
is_limited (number w) = is_bounded w
is_limited (null_or (number w)) = is_bounded w
is_limited k = false

-- the location of a required kind, if it is the kind of such a number
abbrev pub limited_at : Asking → List Place
limited_at a = cond (is_limited a.kind) (a.place ∷ []) []

-- all locations at which such a number is required, in the order of `asked`
abbrev pub limited_in : Kind → Tree → List Place
limited_in k t = flat (each limited_at (asked final_tables k t))

-- the location that a `LimitedNumber` contains
abbrev pub limited_place : LimitedNumber → Place
limited_place n = map step_of n.place.items
