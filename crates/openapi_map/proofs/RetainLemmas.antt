-- What the loop of `retain` keeps.
use Rattle.std.proofs.Common.{◌≡◌, ℕ, zero, suc, ◌+◌, ◌<◌, ◌≤◌, Bool, true, false, cond, List, [], ◌∷◌, ◌++◌, length, get_or, set}
use Rattle.std.proofs.Common.{take, drop, drop-cons, String, string_bytes, refl, sym, ap, subst, ◌∙◌, arith}
use Rattle.std.proofs.lemmas.List.{append_assoc, append-nil, take-set-le, drop-set-lt, get_or-set_same, drop_all, length-set}
use Rattle.std.specs.List.{swap, zip, IsDistinct, AllByRecursion}
use Rattle.std.specs.Map.{keys_of}
use Rattle.std.specs.Str.{bytes_eq}
use Rattle.std.specs.Map.Calls.{RetainsPairs}
use Rattle.std.specs.declared.alloc.Global.{Global}
use Rattle.openapi_map.specs.Entries.{Entries, entries_of, names_of, HasDistinctNames}
use Rattle.openapi_map.specs.Former.{length-names_of}
use Rattle.openapi_map.proofs.EntryLemmas.{names_of-get_or, names_of-swap, names_of-take}
use Rattle.openapi_map.proofs.ZipLemmas.{zip-put, zip-swap, zip-take}

-- ---- an element that is moved to the front
module _ {X : Type 0} where
  front : (xs : List X) (k i : ℕ) (d : X) → k ≤ i → i < length xs
      → take (suc k) (set (set xs k (get_or xs i d)) i (get_or xs k d)) ≡ take k xs ++ get_or xs i d ∷ []
  front [] k i d le lt = absurd (omega arith)
  front (x ∷ xs) zero zero d le lt = refl
  front (x ∷ xs) zero (suc i) d le lt = refl
  front (x ∷ xs) (suc k) zero d le lt = absurd (omega arith)
  front (x ∷ xs) (suc k) (suc i) d le lt = ap (λ l. x ∷ l) (front xs k i d (omega arith) (omega arith))

  any_default : (xs : List X) (i : ℕ) (c d : X) → i < length xs → get_or xs i c ≡ get_or xs i d
  any_default [] i c d lt = absurd (omega arith)
  any_default (x ∷ xs) zero c d lt = refl
  any_default (x ∷ xs) (suc i) c d lt = any_default xs i c d (omega arith)

  moved_front : (xs : List X) (k i : ℕ) (x : X) → k ≤ i → i < length xs → get_or xs i x ≡ x
      → take (k + 1) (swap xs k i) ≡ take k xs ++ x ∷ []
  moved_front [] k i x le lt e = absurd (omega arith)
  moved_front (d ∷ xs) k i x le lt e =
      let next : k + 1 ≡ suc k = omega arith in
      ap (λ n. take n (swap (d ∷ xs) k i)) next ∙ front (d ∷ xs) k i d le lt
      ∙ ap (λ y. take k (d ∷ xs) ++ y ∷ []) (any_default (d ∷ xs) i d x lt ∙ e)

  moved_back : (xs : List X) (k i : ℕ) → k ≤ i → drop (i + 1) (swap xs k i) ≡ drop (i + 1) xs
  moved_back [] k i le = refl
  moved_back (d ∷ xs) k i le =
      drop-set-lt (i + 1) (set (d ∷ xs) k (get_or (d ∷ xs) i d)) i (get_or (d ∷ xs) k d) (omega arith)
      ∙ drop-set-lt (i + 1) (d ∷ xs) k (get_or (d ∷ xs) i d) (omega arith)

  begins : (xs : List X) (i : ℕ) (x : X) → i < length xs → x ≡ get_or xs i x → drop i xs ≡ x ∷ drop (i + 1) xs
  begins xs i x lt e =
      let next : suc i ≡ i + 1 = omega arith in
      drop-cons xs i x lt ∙ (λ j. sym e j ∷ drop (next j) xs)

module _ {F V : Type 0} (T : F → List ℕ → V → Bool → V → F → Type 0) where
  -- the first `i` entries have been visited, and the first `n` of the list are those of them that are kept
  pub record Sifted (f₀ : F) (es₀ : Entries V) (f : F) (es : Entries V) (n i : ℕ) : Type 0 where
    pub rest : (left : Entries V) → RetainsPairs T f (drop i es) left
        → RetainsPairs T f₀ es₀ (take n es ++ left)

  module _ {f₀ : F} {es₀ : Entries V} {f : F} {es : Entries V} {n i : ℕ} (s : Sifted f₀ es₀ f es n i)
      (le : n ≤ i) (within : i < length es) (e : List ℕ × V) (at : e ≡ get_or es i e) (w : V) (f' : F) where
    -- the next entry, with the value that the call left
    abbrev written : List ℕ × V
    written = (e.0, w)

    -- the entries that are left overall, by whether the next entry is kept and which entries after it are left
    onward : (b : Bool) (left left' : Entries V) → T f e.0 e.1 b w f'
        → RetainsPairs T f' (drop (i + 1) es) left
        → left' ≡ cond b ((e.0, w) ∷ left) left
        → RetainsPairs T f₀ es₀ (take n es ++ left')
    onward b left left' t on is =
        s.rest left'
        (subst (λ xs. RetainsPairs T f xs left') (sym (begins es i e within at)) (b, w, f', left, t, on, is))

    -- the next entry is removed
    pub sifted-passed : T f e.0 e.1 false w f' → Sifted f₀ es₀ f' (set es i written) n (i + 1)
    sifted-passed t = record {
      rest = λ left r.
          let on = subst (λ xs. RetainsPairs T f' xs left) (drop-set-lt (i + 1) es i written (omega arith)) r in
          subst (λ xs. RetainsPairs T f₀ es₀ (xs ++ left)) (sym (take-set-le n es i written le))
          (onward false left left t on refl);
    }

    -- the next entry is kept
    pub sifted-kept : T f e.0 e.1 true w f'
        → Sifted f₀ es₀ f' (swap (set es i written) n i) (n + 1) (i + 1)
    sifted-kept t =
        let put = set es i written in
        let there : i < length put = omega (arith, within, length-set es i written) in
        let first : take (n + 1) (swap put n i) ≡ take n es ++ written ∷ [] =
        moved_front put n i written le there (get_or-set_same es i written written within)
        ∙ ap (λ xs. xs ++ written ∷ []) (take-set-le n es i written le) in
        let behind : drop (i + 1) (swap put n i) ≡ drop (i + 1) es =
        moved_back put n i le ∙ drop-set-lt (i + 1) es i written (omega arith) in
        record {
          rest = λ left r.
              let on = subst (λ xs. RetainsPairs T f' xs left) behind r in
              let entry : List ℕ × V = (e.0, w) in
              subst (λ xs. RetainsPairs T f₀ es₀ xs)
              (sym (ap (λ xs. xs ++ left) first ∙ append_assoc (take n es) (entry ∷ []) left))
              (onward true left (entry ∷ left) t on refl);
        }

  -- after the last entry, the first `n` entries are those that are left
  pub sifted-all : {f₀ : F} {es₀ : Entries V} {f : F} {es : Entries V} {n i : ℕ} → Sifted f₀ es₀ f es n i
      → length es ≤ i → RetainsPairs T f₀ es₀ (take n es)
  sifted-all {f₀ = f₀} {es₀ = es₀} {f = f} {es = es} {n = n} {i = i} s done =
      let none = subst (λ xs. RetainsPairs T f xs []) (sym (drop_all i es done)) refl in
      subst (RetainsPairs T f₀ es₀) (append-nil (take n es)) (s.rest [] none)

  -- a name that no entry has, no entry that is left has
  apart-retained : (name : List ℕ) (f : F) (es left : Entries V) → RetainsPairs T f es left
      → AllByRecursion (λ n. bytes_eq name n ≡ false) (keys_of es) → AllByRecursion (λ n. bytes_eq name n ≡ false) (keys_of left)
  apart-retained name f [] left r a = subst (λ es. AllByRecursion (λ n. bytes_eq name n ≡ false) (keys_of es)) (sym r) tt
  apart-retained name f (e ∷ es) left r a =
      let rest = apart-retained name r.2 es r.3 r.5 a.1 in
      let Apart : Entries V → Type 0 = λ es. AllByRecursion (λ n. bytes_eq name n ≡ false) (keys_of es) in
      subst Apart (sym r.6)
      (elim r.0 as (λ b. Apart (cond b ((e.0, r.1) ∷ r.3) r.3)) [ true ↦ (a.0, rest) | false ↦ rest ])

  -- so distinct names stay distinct
  pub distinct-retained : (f : F) (es left : Entries V) → RetainsPairs T f es left → HasDistinctNames es
      → HasDistinctNames left
  unfolding IsDistinct
  distinct-retained f [] left r d = subst HasDistinctNames (sym r) tt
  distinct-retained f (e ∷ es) left r d =
      let rest = distinct-retained r.2 es r.3 r.5 d.1 in
      subst HasDistinctNames (sym r.6)
      (elim r.0 as (λ b. HasDistinctNames (cond b ((e.0, r.1) ∷ r.3) r.3)) [
        | true ↦ (apart-retained e.0 r.2 es r.3 r.5 d.0, rest)
        | false ↦ rest
      ])

-- ---- names and values in two lists
module _ {V : Type 0} (ns : List (String Global)) (vs : List V) where
  -- a value that is written at a place, beside its name
  pub column-written : (i : ℕ) (n : String Global) (w : V) → n ≡ get_or ns i n
      → entries_of ns (set vs i w) ≡ set (entries_of ns vs) i (string_bytes n, w)
  column-written i n w is = zip-put (names_of ns) vs i (string_bytes n) w (ap string_bytes is ∙ names_of-get_or ns i n)

  -- names and values that are swapped
  pub columns-swapped : (i j : ℕ) → length vs ≡ length ns
      → entries_of (swap ns i j) (swap vs i j) ≡ swap (entries_of ns vs) i j
  columns-swapped i j even =
      ap (λ ks. zip ks (swap vs i j)) (names_of-swap ns i j)
      ∙ zip-swap (names_of ns) vs i j (even ∙ sym (length-names_of ns))

  -- as many names as values from the front
  pub columns-taken : (k : ℕ) → entries_of (take k ns) (take k vs) ≡ take k (entries_of ns vs)
  columns-taken k = ap (λ ks. zip ks (take k vs)) (names_of-take k ns) ∙ zip-take k (names_of ns) vs
