-- The rest of a map, and of the names in its index, after a name is removed.
use Rattle.std.proofs.Common.{◌≡◌, ℕ, Bool, true, false, cond, List, [], ◌∷◌, remove, position, Some, None}
use Rattle.std.proofs.Common.{refl, sym, ap, subst, ◌∙◌}
use Rattle.std.specs.List.{IsDistinct, AllByRecursion}
use Rattle.std.specs.Map.{keys_of}
use Rattle.std.specs.Set.{remove_key}
use Rattle.std.specs.Str.{bytes_eq}
use Rattle.indexmap.proofs.CallerLemmas.{keys-shift_remove_entry}
use Rattle.indexmap.proofs.MapLemmas.{Found-position, remove_entry-first}
use Rattle.openapi_map.specs.Entries.{Entries, get, remove_entry, HasDistinctNames}

-- what holds of all names holds of those that are left
left : (P : List ℕ → Type 0) (t : List ℕ → Bool) (ns : List (List ℕ)) → AllByRecursion P ns
    → AllByRecursion P (remove_key t ns)
left P t [] h = tt
left P t (n ∷ ns) h = by (t n) (left P t ns h.1)
  where
    by : (b : Bool) → AllByRecursion P (remove_key t ns) → AllByRecursion P (cond b ns (n ∷ remove_key t ns))
    by true rest = h.1
    by false rest = (h.0, rest)

-- so distinct names stay distinct
distinct-left : (t : List ℕ → Bool) (ns : List (List ℕ)) → IsDistinct bytes_eq ns
    → IsDistinct bytes_eq (remove_key t ns)
unfolding IsDistinct
distinct-left t [] h = tt
distinct-left t (n ∷ ns) h = by (t n) (distinct-left t ns h.1)
  where
    by : (b : Bool) → IsDistinct bytes_eq (remove_key t ns)
        → IsDistinct bytes_eq (cond b ns (n ∷ remove_key t ns))
    by true rest = h.1
    by false rest = (left (λ x. bytes_eq n x ≡ false) t ns h.0, rest)

module _ {V : Type 0} where
  module _ (name : List ℕ) (m : Entries V) (i : ℕ) (found : Some i ≡ position (bytes_eq name) (keys_of m)) where
    -- removing the entry at the place of a name removes the entry of the name
    pub entry-gone : remove m i ≡ remove_entry name m
    entry-gone = sym (remove_entry-first (bytes_eq name) m i (Found-position (bytes_eq name) m i (sym found)).first)

    -- distinct names stay distinct without the removed one
    pub distinct-gone : HasDistinctNames m → HasDistinctNames (remove m i)
    distinct-gone distinct =
        let gone = ap keys_of entry-gone ∙ keys-shift_remove_entry (bytes_eq name) m in
        subst (IsDistinct bytes_eq) (sym gone) (distinct-left (bytes_eq name) (keys_of m) distinct)

  -- if a name is absent, nothing is removed
  pub none-gone : (name : List ℕ) (es : Entries V) → None ≡ get name es → es ≡ remove_entry name es
  none-gone name [] h = refl
  none-gone name (e ∷ es) h = by (bytes_eq name e.0) h (none-gone name es)
    where
      by : (b : Bool) → None ≡ cond b (Some e.1) (get name es) → (None ≡ get name es → es ≡ remove_entry name es)
          → e ∷ es ≡ cond b es (e ∷ remove_entry name es)
      by true n rest = cc
      by false n rest = ap (λ l. e ∷ l) (rest n)
