-- What a map holds once a `&mut` to its values has ended.
use Rattle.std.specs.Prelude.{◌≡◌, ℕ, List, Option, length}
use Rattle.std.specs.Borrow.{Fml, GName, RattleType, MutBor, Array, Lends, LendsIf, follows}
use Rattle.std.specs.Map.{keys_of}
use Rattle.std.specs.declared.alloc.Global.{Global}
use Rattle.std.specs.declared.boxed.Box.{Box}
use Rattle.std.specs.contracts.alloc.Global as heap
use Rattle.std.specs.contracts.boxed.Box as box
use Rattle.std.specs.contracts.impls.GlobalAllocator.TheImpl.{ghosts}
use Rattle.std.specs.contracts.option.Option as option
use Rattle.indexmap.specs.IndexMap.{set_value_at}
use Rattle.indexmap.specs.Layout.{set_values}
use Rattle.openapi_map.specs.Entries.{Entries, insert_entry}
use Rattle.openapi_map.specs.Held.{with_held_values, with_kept_values}
use Rattle.openapi_map.specs.contracts.Held as held
use Rattle.openapi_map.specs.contracts.OrderedMap.{the_row}
use Rattle.openapi_map.specs.declared.Held.{Held}

module _ (V : RattleType) (m : MutBor (Entries V.Denot)) where
  -- once the borrow `r` ends, the map is as before, with the last value written through `r` at index `i`
  abbrev pub lends_place : ℕ → MutBor V.Denot → Fml
  lends_place i r = Lends (the_row V) V m r (set_value_at m.now i)

  -- the same if `r` is `Some`; at `None` the map stays as it is
  abbrev pub lends_index : ℕ → Option (MutBor V.Denot) → Fml
  lends_index i r = LendsIf (the_row V) V m r (set_value_at m.now i) m.now

  -- the map is as after an insert of the last value written through `r` at the name; at `None` it stays as it is
  abbrev pub lends_name : List ℕ → Option (MutBor V.Denot) → Fml
  lends_name name r = LendsIf (the_row V) V m r (insert_entry m.now name) m.now

  -- the values of the map are the last ones written through the borrow with this ghost name
  abbrev pub lends_values : GName → Fml
  lends_values r = follows (the_row V) (Array V 0) m.ghost_name r (set_values m.now)

-- whatever values are written, the names and their number stay the same
abbrev pub KeepsNames : {V : Type 0} → Entries V → Type 0
KeepsNames {V} m =
    ((ws : List V) → keys_of (set_values m ws) ≡ keys_of m) × ((ws : List V) → length (set_values m ws) ≡ length m)

-- the type of the contents of a map, as the logic has it
abbrev pub kept_row : RattleType → RattleType
kept_row V = option.the_row (box.the_row (held.the_row V) heap.the_row ghosts)

-- the values of the contents are the last ones written through the borrow with this ghost name
abbrev pub lends_held : (V : RattleType) → MutBor (Held V.Denot) → GName → Fml
lends_held V h r = follows (held.the_row V) (Array V 0) h.ghost_name r (with_held_values h.now)

-- the same for the contents of a map, if it has any
abbrev pub lends_kept : (V : RattleType) → MutBor (Option (Box (Held V.Denot) Global)) → GName → Fml
lends_kept V o r = follows (kept_row V) (Array V 0) o.ghost_name r (with_kept_values o.now)
