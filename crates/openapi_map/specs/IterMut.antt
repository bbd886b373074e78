-- What contracts see of the iterators that borrow the values of a map mutably.
use Rattle.std.specs.Prelude.{◌≡◌, List, Option, length}
use Rattle.std.specs.Borrow.{GName, MutBor}
use Rattle.std.specs.Slice.Iter as slice
use Rattle.openapi_map.specs.Entries.{Entries, entries_of}
use Rattle.openapi_map.specs.declared.iter_mut.IterMut.{IterMut}
use Rattle.openapi_map.specs.declared.iter_mut.ValuesMut.{ValuesMut}

module _ {V : Type 0} where
  -- the entries that an `IterMut` has left
  abbrev pub iter_mut_rest : IterMut V → Entries V
  iter_mut_rest it = entries_of (slice.iter_rest it.names) (slice.iter_mut_rest it.values)

  -- the ghost name of its borrow
  abbrev pub iter_mut_name : IterMut V → GName
  iter_mut_name it = slice.iter_mut_name it.values

  -- `next` may be called: as many values as names are left
  abbrev pub IterMutCanStep : IterMut V → Type 0
  IterMutCanStep it = length (slice.iter_mut_rest it.values) ≡ length (slice.iter_rest it.names)

  -- the values that a `ValuesMut` has left
  abbrev pub values_mut_rest : ValuesMut V → List V
  values_mut_rest it = slice.iter_mut_rest it.values

  -- the ghost name of its borrow
  abbrev pub values_mut_name : ValuesMut V → GName
  values_mut_name it = slice.iter_mut_name it.values

  -- a call of `next` on `s` returned `r` and left `t`
  abbrev pub values_mut_steps : ValuesMut V → Option (MutBor V) → ValuesMut V → Type 0
  values_mut_steps s r t = slice.iter_mut_steps s.values r t.values
