-- The contents of a map. A map that never had an entry may have none.
use Rattle.std.specs.Prelude.{◌≡◌, List, [], length, Option, Some, None}
use Rattle.std.specs.Vec.{with_items}
use Rattle.std.specs.declared.alloc.Global.{Global}
use Rattle.std.specs.declared.boxed.Box.{Box}
use Rattle.openapi_map.specs.declared.Held.{Held}
use Rattle.openapi_map.specs.Entries.{Entries, entries_of, names_of}
use Rattle.openapi_map.specs.Index.{IsIndexAt}

module _ {V : Type 0} where
  -- the entries of the contents
  abbrev pub held_entries : Held V → Entries V
  held_entries h = entries_of h.names.items h.values.items

  -- there is a value for each name, and the finder finds the names
  pub record IsConsistent (h : Held V) : Type 0 where
    pub even : length h.values.items ≡ length h.names.items
    pub index : IsIndexAt (names_of h.names.items) h.finder

  -- the entries of a map, which are none if it has no contents
  abbrev pub kept : Option (Box (Held V) Global) → Entries V
  kept None = []
  kept (Some b) = held_entries b.value

  -- the contents of a map are consistent, if it has any
  abbrev pub IsHeldConsistent : Option (Box (Held V) Global) → Type 0
  IsHeldConsistent None = Unit {0}
  IsHeldConsistent (Some b) = IsConsistent b.value

  -- the contents with `ws` as the values, as far as there are entries. Values past the end of `ws` stay
  abbrev pub with_held_values : Held V → List V → Held V
  with_held_values h ws = record { names = h.names; values = with_items h.values ws; finder = h.finder }

  -- the same for the contents of a map, if it has any
  abbrev pub with_kept_values : Option (Box (Held V) Global) → List V → Option (Box (Held V) Global)
  with_kept_values None ws = None
  with_kept_values (Some b) ws = Some (record { ptr = b.ptr; alloc = b.alloc; value = with_held_values b.value ws })
