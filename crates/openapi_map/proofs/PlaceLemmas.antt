-- What contracts see of an entry: the value at its place, and the map after a value is set there.
use Rattle.std.proofs.Common.{◌≡◌, ℕ, zero, suc, ◌<◌, List, [], ◌∷◌, ◌++◌, length, slice_get, Some, None, refl, sym, ap}
use Rattle.std.proofs.Common.{◌∙◌, string_bytes, arith}
use Rattle.std.proofs.lemmas.Option.{same_Some}
use Rattle.std.specs.Map.{values_of}
use Rattle.std.specs.Str.{bytes_eq}
use Rattle.indexmap.proofs.EntryLemmas.{set_middle}
use Rattle.indexmap.proofs.MapLemmas.{Found, Found-position}
use Rattle.indexmap.specs.IndexMap.{set_value_at}
use Rattle.openapi_map.specs.Entries.{Entries, get, insert_entry}
use Rattle.openapi_map.specs.Entry.{Occupied, entry_value, map_with_value, with_entry_value, IsWritten}
use Rattle.openapi_map.specs.declared.entry.OccupiedEntry.{OccupiedEntry}
use Rattle.openapi_map.proofs.EntryLemmas.{insert-found, insert-missing}

module _ {V : Type 0} where
  set-twice : (es : Entries V) (i : ℕ) (v w : V) → set_value_at (set_value_at es i v) i w ≡ set_value_at es i w
  set-twice [] i v w = refl
  set-twice (e ∷ es) zero v w = refl
  set-twice (e ∷ es) (suc i) v w = ap (λ r. e ∷ r) (set-twice es i v w)

  value-set : (es : Entries V) (i : ℕ) (v : V) → i < length es → slice_get (values_of (set_value_at es i v)) i ≡ Some v
  value-set [] i v h = absurd (omega arith)
  value-set (e ∷ es) zero v h = refl
  value-set (e ∷ es) (suc i) v h = value-set es i v (omega arith)

  -- the value at a place is that of the entry there
  pub value-there : (es : Entries V) (i : ℕ) (e : List ℕ × V) → slice_get es i ≡ Some e → slice_get (values_of es) i ≡ Some e.1
  value-there [] i e h = cc
  value-there (x ∷ es) zero e h = ap (λ y. Some y.1) (same_Some x e h)
  value-there (x ∷ es) (suc i) e h = value-there es i e h

  -- the value at the place of an entry that was appended
  pub value-last : (es : Entries V) (name : List ℕ) (v : V) → slice_get (values_of (es ++ (name, v) ∷ [])) (length es) ≡ Some v
  value-last [] name v = refl
  value-last (e ∷ es) name v = value-last es name v

  -- setting the value of a new entry that was appended is the same as inserting that value
  pub write-last : (es : Entries V) (name : List ℕ) (v w : V) → get name es ≡ None
      → set_value_at (es ++ (name, v) ∷ []) (length es) w ≡ insert_entry es name w
  write-last es name v w absent = set_middle es [] name v w ∙ insert-missing name es w absent

  module _ (o : OccupiedEntry V) where
    at : Found (bytes_eq (string_bytes o.name)) o.map.now o.place
    at = Found-position (bytes_eq (string_bytes o.name)) o.map.now o.place o.found

    pub occupied_within : o.place < length o.map.now
    occupied_within = at.within

    -- the value of an occupied entry is the one at its place
    pub occupied_value : entry_value (Occupied o) ≡ slice_get (values_of o.map.now) o.place
    occupied_value = at.value

    -- setting the value at its place inserts it at its name
    pub occupied_writes : (v : V) → set_value_at o.map.now o.place v ≡ map_with_value (Occupied o) v
    occupied_writes v = insert-found (string_bytes o.name) o.map.now o.place v (sym o.found)

  module _ (o : OccupiedEntry V) (v : V) where
    abbrev d : OccupiedEntry V
    d = with_entry_value o v

    -- an insert has the same result, whether or not another value was set at its place before
    pub written_writes : (w : V) → map_with_value (Occupied d) w ≡ map_with_value (Occupied o) w
    written_writes w = sym (occupied_writes d w) ∙ set-twice o.map.now o.place v w ∙ occupied_writes o w

    -- after a value is set at its place, it is the value of the entry
    pub written_value : entry_value (Occupied d) ≡ Some v
    written_value = occupied_value d ∙ value-set o.map.now o.place v (occupied_within o)

    -- so with a value set at its place, it is the same entry, with that value
    pub occupied_written : IsWritten (Occupied o) v (Occupied d)
    occupied_written = (refl, occupied_writes o v, refl, written_value, written_writes)
