-- The contents of a map.
use Rattle.std.proofs.Common.{◌≡◌, ℕ, ◌<◌, ◌^◌, List, [], length, set, Option, Some, None, refl, sym, ap, subst, ◌∙◌, arith}
use Rattle.std.proofs.lemmas.List.{length-set}
use Rattle.std.specs.List.{IsDistinct, length_refill, zip}
use Rattle.std.specs.Str.{bytes_eq}
use Rattle.std.specs.Vec.{with_item}
use Rattle.std.specs.Map.{keys_of, values_of}
use Rattle.std.specs.declared.alloc.Global.{Global}
use Rattle.std.specs.declared.boxed.Box.{Box}
use Rattle.indexmap.specs.IndexMap.{set_value_at}
use Rattle.indexmap.specs.Layout.{set_values}
use Rattle.openapi_map.specs.Entries.{names_of, HasDistinctNames}
use Rattle.openapi_map.specs.Former.{length-names_of}
use Rattle.openapi_map.specs.Held.{held_entries, kept, with_kept_values, IsConsistent, IsHeldConsistent}
use Rattle.openapi_map.specs.declared.Held.{Held}
use Rattle.openapi_map.proofs.ZipLemmas.{length-zip, keys_of-zip, values_of-zip, keys_of-set_values, zip-set_value, zip-set_values}

module _ {V : Type 0} (h : Held V) (is : IsConsistent h) where
  -- there is a value for each name as bytes
  pub even_names : length h.values.items ≡ length (names_of h.names.items)
  even_names = is.even ∙ sym (length-names_of h.names.items)

  pub held_names : names_of h.names.items ≡ keys_of (held_entries h)
  held_names = sym (keys_of-zip (names_of h.names.items) h.values.items even_names)

  pub held_values : h.values.items ≡ values_of (held_entries h)
  held_values = sym (values_of-zip (names_of h.names.items) h.values.items even_names)

  pub length-held : length (held_entries h) ≡ length h.names.items
  length-held = length-zip (names_of h.names.items) h.values.items even_names ∙ length-names_of h.names.items

  -- the names stay the same beside other values, if there are as many
  same_names : (vs : List V) → length vs ≡ length h.values.items
      → keys_of (zip (names_of h.names.items) vs) ≡ keys_of (held_entries h)
  same_names vs e = keys_of-zip (names_of h.names.items) vs (e ∙ even_names) ∙ held_names

  module _ (i : ℕ) (w : V) where
    -- the contents with `w` as the value at a place
    abbrev put : Held V
    put = record { names = h.names; values = with_item h.values i w; finder = h.finder }

    pub entries-put : held_entries put ≡ set_value_at (held_entries h) i w
    entries-put = zip-set_value (names_of h.names.items) h.values.items i w

    pub kept-put : HasDistinctNames (held_entries h) → HasDistinctNames (held_entries put) × IsConsistent put
    kept-put distinct =
        let same = length-set h.values.items i w in (
          subst (IsDistinct bytes_eq) (sym (same_names (set h.values.items i w) same)) distinct,
          record { even = same ∙ is.even; index = is.index },
        )

-- the number of entries of a map is less than 2^63
pub small-kept : {V : Type 0} (o : Option (Box (Held V) Global)) → IsHeldConsistent o → length (kept o) < 2 ^ 63
small-kept None is = omega arith
small-kept (Some b) is = omega (arith, length-held b.value is, b.value.names.ok.0, b.value.names.small)

-- the entries after other values are written
pub kept-written : {V : Type 0} (o : Option (Box (Held V) Global)) → IsHeldConsistent o → (ws : List V)
    → kept (with_kept_values o ws) ≡ set_values (kept o) ws
kept-written None is ws = zip-set_values [] [] ws 0 refl refl
kept-written (Some b) is ws =
    let h = b.value in
    zip-set_values (names_of h.names.items) h.values.items ws h.values.len (even_names h is) h.values.ok.0

pub consistent-written : {V : Type 0} (o : Option (Box (Held V) Global)) → IsHeldConsistent o → (ws : List V)
    → IsHeldConsistent (with_kept_values o ws)
consistent-written None is ws = tt
consistent-written (Some b) is ws =
    let h = b.value in
    record {
      even = sym (length_refill h.values.len h.values.items ws h.values.ok.0) ∙ h.values.ok.0 ∙ is.even;
      index = is.index;
    }

-- distinct names stay distinct after other values are written
pub distinct-written : {V : Type 0} (o : Option (Box (Held V) Global)) → IsHeldConsistent o → HasDistinctNames (kept o)
    → (ws : List V) → HasDistinctNames (kept (with_kept_values o ws))
distinct-written o is distinct ws =
    subst (IsDistinct bytes_eq) (sym (ap keys_of (kept-written o is ws) ∙ keys_of-set_values (kept o) ws)) distinct
