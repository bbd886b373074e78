-- When two maps are equal.
use Rattle.std.specs.Prelude.{ℕ, List, Bool}
use Rattle.std.specs.HashMap.{HashMap, hash_map_eq}
use Rattle.std.specs.Str.{bytes_eq}
use Rattle.indexmap.specs.Layout.{hash_map}
use Rattle.openapi_map.specs.Entries.{Entries}

module _ {V : Type 0} where
  -- the entries as those of a `HashMap`, so that its definitions and lemmas apply
  abbrev pub as_map : Entries V → HashMap (List ℕ) V (Unit {0})
  as_map es = hash_map es tt 0

  -- whether the two have the same names, in any order, and equal values for each. Every name of either has a value in both,
  -- and the two values are equal by `eq`
  abbrev pub entries_eq : (V → V → Bool) → Entries V → Entries V → Bool
  entries_eq eq es fs = hash_map_eq bytes_eq eq (as_map es) (as_map fs)
