-- A JSON value without the members at some locations. An object may have several members of one name; the last one counts.
use Rattle.std.specs.Prelude.{ℕ, suc, cond, List, [], is_some}
use Rattle.json.specs.Find.{get_member}
use Rattle.json.specs.Json.{Json, null, boolean, number, string, array, object, Items, no_items, item, Members, no_members, member}
use Rattle.openapi_node.specs.Place.{Place, named, indexed}
use Rattle.openapi_faults.specs.Without.{has_root, inside}

-- The locations inside the value of a member, relative to that value; `later` are the members after it in its object. There
-- are none if one of those has its name, since locations lead to the last member of a name.
abbrev pub below : List Place → List ℕ → Members → List Place
below ps n later = cond (is_some (get_member n later)) [] (inside (named n) ps)

abbrev mutual
  -- a value without the members at these locations
  pub json_without : List Place → Json → Json
  json_without ps null = null
  json_without ps (boolean b) = boolean b
  json_without ps (number s) = number s
  json_without ps (string s) = string s
  json_without ps (array js) = array (items_without ps 0 js)
  json_without ps (object ms) = object (members_without ps ms)

  -- the items of an array, counted from an index
  pub items_without : List Place → ℕ → Items → Items
  items_without ps i no_items = no_items
  items_without ps i (item j js) = item (json_without (inside (indexed i) ps) j) (items_without ps (suc i) js)

  -- the members of an object; if one of the locations is that of a name, every member of that name is removed
  pub members_without : List Place → Members → Members
  members_without ps no_members = no_members
  members_without ps (member n j ms) =
      cond (has_root (inside (named n) ps)) (members_without ps ms)
      (member n (json_without (below ps n ms) j) (members_without ps ms))
