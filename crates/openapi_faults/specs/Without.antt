-- A value without the members at some locations.
use Rattle.std.specs.Prelude.{ℕ, suc, Bool, true, false, ◌||◌, ◌==◌, cond, List, [], ◌∷◌}
use Rattle.openapi_node.specs.Place.{Place, Step, named, indexed}
use Rattle.openapi_node.specs.Tree.{Tree, list, object, Items, no_items, item, Members, no_members, member}
use Rattle.openapi_tables.specs.Lists.{each, flat, same_text}

-- whether two steps are the same
abbrev pub same_step : Step → Step → Bool
same_step (named a) (named b) = same_text a b
same_step (indexed i) (indexed j) = i == j
same_step s r = false

-- the rest of a location after its first step, if that is the given step
abbrev pub behind_step : Step → Place → List Place
behind_step s [] = []
behind_step s (r ∷ p) = cond (same_step s r) (p ∷ []) []

-- the locations that begin with a step, each without that step
abbrev pub inside : Step → List Place → List Place
inside s ps = flat (each (behind_step s) ps)

-- whether a location is that of the value itself
abbrev pub is_root : Place → Bool
is_root [] = true
is_root (s ∷ p) = false

-- whether one of the locations is that of the value itself
abbrev pub has_root : List Place → Bool
has_root [] = false
has_root (p ∷ ps) = is_root p || has_root ps

abbrev mutual
  -- a value without the members at these locations
  pub without : List Place → Tree → Tree
  without ps (list ts) = list (items_without ps 0 ts)
  without ps (object ms) = object (members_without ps ms)
  without ps t = t

  -- the items of an array, counted from an index
  pub items_without : List Place → ℕ → Items → Items
  items_without ps i no_items = no_items
  items_without ps i (item t ts) = item (without (inside (indexed i) ps) t) (items_without ps (suc i) ts)

  -- the members of an object
  pub members_without : List Place → Members → Members
  members_without ps no_members = no_members
  members_without ps (member n t ms) =
      cond (has_root (inside (named n) ps)) (members_without ps ms)
      (member n (without (inside (named n) ps) t) (members_without ps ms))
