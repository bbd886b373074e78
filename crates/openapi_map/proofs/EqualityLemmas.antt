-- Equality of maps of the same length is decided by one lookup for each name.
use Rattle.std.proofs.Common.{◌≡◌, ℕ, ◌≤◌, Bool, true, false, cond, List, [], ◌∷◌, ◌++◌, map, length, Option, Some}
use Rattle.std.proofs.Common.{None, is_some, IsSome, Bor, refl, sym, ap, ◌∙◌, subst, arith, true≢false}
use Rattle.std.proofs.lemmas.List.{map-append}
use Rattle.std.proofs.lemmas.Map.Entries.{length-keys_of}
use Rattle.std.proofs.lemmas.Map.Made.{is_some-lookup}
use Rattle.std.proofs.lemmas.Map.Steps.{length-le_from_keys}
use Rattle.std.specs.Cmp.Lexicographic.{nat_list_eq_equiv}
use Rattle.std.specs.HashMap.Eq.{lookup_congr, get_from_hash_map_eq, hash_map_eq_from_get}
use Rattle.std.specs.List.{AllByRecursion, IsDistinct}
use Rattle.std.specs.Map.{keys_of}
use Rattle.std.specs.Map.Iter.{deref_pair}
use Rattle.std.specs.Option.{option_eq}
use Rattle.std.specs.Str.{bytes_eq}
use Rattle.indexmap.proofs.MapLemmas.{absent_from_lookup}
use Rattle.openapi_map.specs.Entries.{Entries, get, HasDistinctNames}
use Rattle.openapi_map.specs.Equality.{entries_eq, as_map}

module _ {V : Type 0} where
  get-congr : (es : Entries V) (name other : List ℕ) → bytes_eq name other ≡ true → get name es ≡ get other es
  get-congr es = lookup_congr bytes_eq nat_list_eq_equiv.congr es

  -- a map whose names are all among another's is no longer than the other
  length-covered : (es fs : Entries V) → HasDistinctNames es
      → ((name : List ℕ) → IsSome (get name es) → IsSome (get name fs)) → length es ≤ length fs
  length-covered es fs distinct covers =
      let among = λ (name : List ℕ). is_some-lookup (bytes_eq name) es in
      let long = length-le_from_keys nat_list_eq_equiv (keys_of es) fs distinct
      (λ name h. covers name (among name ∙ h)) in
      omega (arith, long, length-keys_of es)

module _ {V : Type 0} (E : V → V → Bool) where
  -- equal optional values are both `Some`, or both `None`
  is_some-agree : (p q : Option V) → option_eq E p q ≡ true → is_some p ≡ is_some q
  is_some-agree None None h = refl
  is_some-agree None (Some w) h = h
  is_some-agree (Some v) None h = sym h
  is_some-agree (Some v) (Some w) h = refl

  -- maps that differ at a name are not equal
  pub unequal-at : (es fs : Entries V) (name : List ℕ) → option_eq E (get name es) (get name fs) ≡ false
      → false ≡ entries_eq E es fs
  unequal-at es fs name differs = by (entries_eq E es fs) refl
    where
      by : (b : Bool) → entries_eq E es fs ≡ b → false ≡ entries_eq E es fs
      by false p = sym p
      by true p =
          let agree = get_from_hash_map_eq bytes_eq E nat_list_eq_equiv (as_map es) (as_map fs) p name in
          absurd (true≢false (sym agree ∙ differs))

  -- maps of different lengths are not equal
  pub unequal-length : (es fs : Entries V) → HasDistinctNames es → HasDistinctNames fs
      → (length es ≡ length fs → ⊥) → false ≡ entries_eq E es fs
  unequal-length es fs distinct distinct' differ = by (entries_eq E es fs) refl
    where
      by : (b : Bool) → entries_eq E es fs ≡ b → false ≡ entries_eq E es fs
      by false p = sym p
      by true p =
          let agree = λ (name : List ℕ). is_some-agree (get name es) (get name fs)
          (get_from_hash_map_eq bytes_eq E nat_list_eq_equiv (as_map es) (as_map fs) p name) in
          let most = length-covered es fs distinct (λ name h. sym (agree name) ∙ h) in
          let least = length-covered fs es distinct' (λ name h. agree name ∙ h) in
          absurd (differ (omega (arith, most, least)))

  -- the map `fs` has, at the name of each entry of `es`, a value that is equal to the entry's
  abbrev pub AllAgree : Entries V → Entries V → Type 0
  AllAgree fs es = AllByRecursion (λ e. option_eq E (Some e.1) (get e.0 fs) ≡ true) es

  AllAgree-push : (fs es : Entries V) (e : List ℕ × V) → AllAgree fs es
      → option_eq E (Some e.1) (get e.0 fs) ≡ true → AllAgree fs (es ++ e ∷ [])
  AllAgree-push fs [] e all h = (h, tt)
  AllAgree-push fs (x ∷ es) e all h = (all.0, AllAgree-push fs es e all.1 h)

  -- what holds of the entries that an iterator returned holds with one more
  pub AllAgree-next : (fs : Entries V) (xs : List (Bor (List ℕ) × Bor V)) (x : Bor (List ℕ) × Bor V)
      → AllAgree fs (map deref_pair xs) → option_eq E (Some x.1.now) (get x.0.now fs) ≡ true
      → AllAgree fs (map deref_pair (xs ++ x ∷ []))
  AllAgree-next fs xs x all h =
      subst (AllAgree fs) (sym (map-append deref_pair xs (x ∷ [])))
      (AllAgree-push fs (map deref_pair xs) (deref_pair x) all h)

  module _ (es fs : Entries V) (distinct : HasDistinctNames es) where
    -- then it has an equal value wherever there is one
    agree-found : (part : Entries V) → AllAgree fs part → (name : List ℕ) (v : V) → get name part ≡ Some v
        → option_eq E (Some v) (get name fs) ≡ true
    agree-found [] all name v p = absurd (true≢false (sym (ap is_some p)))
    agree-found (e ∷ part) all name v p = by (bytes_eq name e.0) refl p (agree-found part all.1 name v)
      where
        by : (b : Bool) → bytes_eq name e.0 ≡ b → cond b (Some e.1) (get name part) ≡ Some v
            → (get name part ≡ Some v → option_eq E (Some v) (get name fs) ≡ true)
            → option_eq E (Some v) (get name fs) ≡ true
        by true q p rest = (λ i. option_eq E (sym p i) (get-congr fs name e.0 q i)) ∙ all.0
        by false q p rest = rest p

    module _ (all : AllAgree fs es) where
      covers : (name : List ℕ) → (r : Option V) → get name es ≡ r → IsSome r → IsSome (get name fs)
      covers name None p h = absurd (true≢false (sym h))
      covers name (Some v) p h = sym (is_some-agree (Some v) (get name fs) (agree-found es all name v p))

      -- if `fs` has a name that `es` lacks, it has more entries than `es`
      length-more : (name : List ℕ) (w : V) → get name es ≡ None → get name fs ≡ Some w
          → length ((name, w) ∷ es) ≤ length fs
      unfolding IsDistinct
      length-more name w p q =
          length-covered ((name, w) ∷ es) fs (absent_from_lookup (bytes_eq name) es p, distinct)
          (λ other h. by other (bytes_eq other name) refl h)
        where
          by : (other : List ℕ) (b : Bool) → bytes_eq other name ≡ b → IsSome (cond b (Some w) (get other es))
              → IsSome (get other fs)
          by other true e h = ap is_some (get-congr fs other name e ∙ q)
          by other false e h = covers other (get other es) refl h

      module _ (same : length es ≡ length fs) where
        agree-at : (name : List ℕ) (r s : Option V) → get name es ≡ r → get name fs ≡ s
            → option_eq E (get name es) (get name fs) ≡ true
        agree-at name (Some v) s p q =
            ap (λ o. option_eq E o (get name fs)) p ∙ agree-found es all name v p
        agree-at name None None p q = λ i. option_eq E (p i) (q i)
        agree-at name None (Some w) p q = absurd (omega (arith, length-more name w p q))

        -- maps of the same length are equal if each entry of the first has an equal value in the second
        pub equal-by_names : true ≡ entries_eq E es fs
        equal-by_names =
            sym (hash_map_eq_from_get bytes_eq E (as_map es) (as_map fs)
            (λ name. agree-at name (get name es) (get name fs) refl refl))
