-- What is done with each member of an object: it is removed, or the members at some locations are removed from its value.
use Rattle.std.specs.Prelude.{ℕ, cond, List, [], ◌∷◌, Option, Some, None, option_map}
use Rattle.std.specs.Borrow.{Bor}
use Rattle.std.specs.Global.{Vec}
use Rattle.json.specs.Json.{Members, no_members, member}
use Rattle.openapi_node.specs.Place.{Place, named}
use Rattle.openapi_node.specs.declared.fault.PlaceStep.{PlaceStep}
use Rattle.openapi_faults.specs.Without.{has_root, inside}
use Rattle.openapi_removal.specs.Below.{grouped}
use Rattle.openapi_removal.specs.Without.{below}

-- the plan for a member with the members `later` after it. It is `None` if the member is removed, and otherwise the
-- locations of the members that are removed from its value, relative to that value
abbrev pub plan : List Place → List ℕ → Members → Option (List Place)
plan ps n later = cond (has_root (inside (named n) ps)) None (Some (below ps n later))

-- the plan for each member
abbrev pub plans : List Place → Members → List (Option (List Place))
plans ps no_members = []
plans ps (member n j ms) = plan ps n ms ∷ plans ps ms

-- a plan of the code, with the locations that its steps lead to
abbrev pub planned : Option (Vec (Bor (List PlaceStep))) → Option (List Place)
planned p = option_map grouped p

-- ---- for private clauses

-- the plan for the last member of a name, given the locations that begin with the name, each without it
abbrev pub plan_by : List Place → Option (List Place)
plan_by ps = cond (has_root ps) None (Some ps)

-- the locations for which `plan_by` gives the plan for a member of the name `n` with the members `later` after it
abbrev pub left_for : List Place → Members → List ℕ → List Place
left_for ps later n = cond (has_root (inside (named n) ps)) (inside (named n) ps) (below ps n later)
