-- Definitions that contracts of an `Entry` use. They apply to its variants too, as in `entry_value (Occupied o)`.
pub use Rattle.openapi_map.specs.declared.entry.Entry.TheVariants.{Occupied, Vacant}
use Rattle.std.specs.Prelude.{◌≡◌, ℕ, zero, suc, Bool, true, false, List, [], ◌∷◌, Option, Some, Result, position, string_bytes}
use Rattle.std.specs.Borrow.{Fml, RattleType, MutBor, follows, follows_if, name_if_ok}
use Rattle.std.specs.Map.{keys_of}
use Rattle.std.specs.Str.{bytes_eq}
use Rattle.std.proofs.Common.{refl, ap, ◌∙◌}
use mir.Syntax.{named}
use Rattle.indexmap.specs.IndexMap.{set_value_at}
use Rattle.openapi_map.specs.Entries.{Entries, get, insert_entry}
use Rattle.openapi_map.specs.declared.entry.Entry.{Entry}
use Rattle.openapi_map.specs.declared.entry.OccupiedEntry.{OccupiedEntry}
use Rattle.openapi_map.specs.contracts.OrderedMap.{the_row}
use Rattle.openapi_map.specs.contracts.entry.OccupiedEntry as occupied

module _ {V : Type 0} where
  -- the reference to the map
  abbrev pub entry_map_ref : Entry V → MutBor (Entries V)
  entry_map_ref (Occupied o) = o.map
  entry_map_ref (Vacant e) = e.map

  -- the map, as the entry holds it
  abbrev pub entry_map : Entry V → Entries V
  entry_map e = (entry_map_ref e).now

  -- the name of the entry
  abbrev pub entry_name : Entry V → List ℕ
  entry_name (Occupied o) = string_bytes o.name
  entry_name (Vacant e) = string_bytes e.name

  -- whether the map has the name
  abbrev pub is_occupied : Entry V → Bool
  is_occupied (Occupied o) = true
  is_occupied (Vacant e) = false

  -- the value of the name, if the map has the name
  abbrev pub entry_value : Entry V → Option V
  entry_value e = get (entry_name e) (entry_map e)

  -- the map after an insert of the value at the name of the entry
  abbrev pub map_with_value : Entry V → V → Entries V
  map_with_value e v = insert_entry (entry_map e) (entry_name e) v

  keys_of-set : (es : Entries V) (i : ℕ) (v : V) → keys_of (set_value_at es i v) ≡ keys_of es
  keys_of-set [] i v = refl
  keys_of-set (e ∷ es) zero v = refl
  keys_of-set (e ∷ es) (suc i) v = ap (λ names. e.0 ∷ names) (keys_of-set es i v)

  -- setting the value of a name leaves the index of the name as it is
  pub still_found : (o : OccupiedEntry V) (v : V)
      → position (bytes_eq (string_bytes o.name)) (keys_of (set_value_at o.map.now o.place v)) ≡ Some o.place
  still_found o v = ap (position (bytes_eq (string_bytes o.name))) (keys_of-set o.map.now o.place v) ∙ o.found

  -- the occupied entry `o`, after its value is set to `v`
  abbrev pub with_entry_value : OccupiedEntry V → V → OccupiedEntry V
  with_entry_value o v = record {
    map = record o.map { now = set_value_at o.map.now o.place v };
    name = o.name;
    place = o.place;
    found = still_found o v;
  }

  -- `d` is the entry `e`, after its value is set to `v`
  abbrev pub IsWritten : Entry V → V → Entry V → Type 0
  IsWritten e v d = ((entry_map_ref d).ghost_name ≡ (entry_map_ref e).ghost_name) × (entry_map d ≡ map_with_value e v)
      × (entry_name d ≡ entry_name e) × (entry_value d ≡ Some v)
      × ((w : V) → map_with_value d w ≡ map_with_value e w)

module _ (V : RattleType) where
  -- once the borrow `r` ends, the map has the last value written through `r` at the name of `e`
  abbrev pub entry_lends : Entry V.Denot → MutBor V.Denot → Fml
  entry_lends e r = follows (the_row V) V (entry_map_ref e).ghost_name r.ghost_name (map_with_value e)

  -- the same if `r` is `Ok`; at `Err` the map stays as it is
  abbrev pub entry_lends_ok : {E : Type 0} → Entry V.Denot → Result (MutBor V.Denot) E → Fml
  entry_lends_ok e r =
      follows_if (the_row V) V (entry_map_ref e).ghost_name (name_if_ok (λ x. x.ghost_name) r) (map_with_value e)
      (entry_map e)

  -- once the borrow `r` ends, the entry behind `o` has the last value written through `r`. The lifetime of the entry is the
  -- second of the signature
  abbrev pub occupied_lends : MutBor (OccupiedEntry V.Denot) → MutBor V.Denot → Fml
  occupied_lends o r =
      follows (occupied.the_row (record { mir = named 1; lft = [] }) V) V o.ghost_name r.ghost_name
      (with_entry_value o.now)
