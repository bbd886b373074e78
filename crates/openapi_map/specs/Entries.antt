-- A map as the list of its entries: each name, as bytes, beside its value.
use Rattle.std.specs.Prelude.{◌≡◌, ℕ, List, [], ◌∷◌, Option, String, string_bytes}
use Rattle.std.specs.List.{IsDistinct, AllZip, zip}
use Rattle.std.specs.Map.{keys_of, lookup}
use Rattle.std.specs.Map as map
use Rattle.std.specs.Str.{bytes_eq}
use Rattle.std.specs.declared.alloc.Global.{Global}
use Rattle.indexmap.specs.IndexMap as index_map

-- entries in their order, each a name and a value
abbrev pub Entries : Type 0 → Type 0
Entries V = List (List ℕ × V)

-- names as bytes
abbrev pub names_of : List (String Global) → List (List ℕ)
names_of [] = []
names_of (n ∷ ns) = string_bytes n ∷ names_of ns

module _ {V : Type 0} where
  -- the entries that the code stores as a list of names and a list of values, with the same indexes
  abbrev pub entries_of : List (String Global) → List V → Entries V
  entries_of names values = zip (names_of names) values

  -- an entry with an owned name, with the name as bytes
  abbrev pub owned_entry : String Global × V → List ℕ × V
  owned_entry e = (string_bytes e.0, e.1)

  -- the value of a name, if there is one
  abbrev pub get : List ℕ → Entries V → Option V
  get name es = lookup (bytes_eq name) es

  -- the entries after an insert: an existing name keeps its index and gets the new value, and a new name is appended
  abbrev pub insert_entry : Entries V → List ℕ → V → Entries V
  insert_entry = index_map.insert_entry bytes_eq

  -- the entries after each entry of the second list is inserted, one after another
  abbrev pub insert_all : Entries V → Entries V → Entries V
  insert_all = index_map.insert_all bytes_eq

  -- the entries without the one of a name: the others keep their order, and nothing changes if the name is absent
  abbrev pub remove_entry : List ℕ → Entries V → Entries V
  remove_entry name es = map.remove_entry (bytes_eq name) es

  -- no name is repeated
  abbrev pub HasDistinctNames : Entries V → Type 0
  HasDistinctNames es = IsDistinct bytes_eq (keys_of es)

  -- the second has the names of the first in the same order, each with a value that is a clone of the first's, by `C`
  abbrev pub IsCloneOf : (V → V → Type 0) → Entries V → Entries V → Type 0
  IsCloneOf C = AllZip (λ e f. (f.0 ≡ e.0) × C e.1 f.1)
