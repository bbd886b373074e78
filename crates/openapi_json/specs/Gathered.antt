-- Members of an object in the order of their names, and the type that holds them while the object is read.
use Rattle.std.specs.Prelude.{◌≡◌, ℕ, List, [], ◌∷◌, map}
use Rattle.std.specs.Ordering.{nat_cmp}
use Rattle.std.specs.declared.cmp.Ordering.TheVariants.{Less}
use Rattle.std.specs.Cmp.Lexicographic.{slice_cmp}
use Rattle.openapi_map.specs.Entries.{Entries, owned_entry}
use Rattle.openapi_json.specs.declared.members.Members.{Members}
use Rattle.openapi_json.specs.declared.members.Members.TheVariants.{InOrder, ByName, Few}
use Rattle.openapi_node.specs.Tree.{Tree}

-- each name of the entries is less than the name `n`
abbrev pub AllBelow : List ℕ → Entries Tree → Type 0
AllBelow n [] = Unit {0}
AllBelow n (e ∷ es) = (slice_cmp nat_cmp e.0 n ≡ Less) × AllBelow n es

-- the first name of the entries is greater than the name `n`, and each name is less than the next
abbrev pub Rises : List ℕ → Entries Tree → Type 0
Rises n [] = Unit {0}
Rises n (e ∷ es) = (slice_cmp nat_cmp n e.0 ≡ Less) × Rises e.0 es

-- each name is less than the next
abbrev pub Ascends : Entries Tree → Type 0
Ascends [] = Unit {0}
Ascends (e ∷ es) = Rises e.0 es

-- the members that are held
abbrev pub entries_in : Members → Entries Tree
entries_in (Few v) = map owned_entry v.items
entries_in (InOrder m) = m
entries_in (ByName m) = map owned_entry m.entries

-- the members held in a list, or in a map that keeps its order, are in the order of their names
abbrev pub IsInOrder : Members → Type 0
IsInOrder (Few v) = Ascends (map owned_entry v.items)
IsInOrder (InOrder m) = Ascends m
IsInOrder (ByName m) = Unit {0}
