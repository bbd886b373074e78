-- A list of names and a list of values as one list of entries.
use Rattle.std.proofs.Common.{◌≡◌, ℕ, zero, suc, ◌<◌, List, [], ◌∷◌, ◌++◌, length, get_or, set, take, remove}
use Rattle.std.proofs.Common.{slice_get, Some, refl, sym, ap, ◌∙◌, arith}
use Rattle.std.proofs.lemmas.List.{length-map}
use Rattle.std.specs.List.{zip, refill, length_refill, swap}
use Rattle.std.specs.Map.{keys_of, values_of}
use Rattle.indexmap.specs.IndexMap.{set_value_at}
use Rattle.indexmap.specs.Layout.{set_values}

module _ {K V : Type 0} where
  pub length-zip : (ks : List K) (vs : List V) → length vs ≡ length ks → length (zip ks vs) ≡ length ks
  length-zip [] vs e = refl
  length-zip (k ∷ ks) [] e = absurd (omega (arith, e))
  length-zip (k ∷ ks) (v ∷ vs) e = ap suc (length-zip ks vs (omega (arith, e)))

  pub keys_of-zip : (ks : List K) (vs : List V) → length vs ≡ length ks → keys_of (zip ks vs) ≡ ks
  keys_of-zip [] vs e = refl
  keys_of-zip (k ∷ ks) [] e = absurd (omega (arith, e))
  keys_of-zip (k ∷ ks) (v ∷ vs) e = ap (λ l. k ∷ l) (keys_of-zip ks vs (omega (arith, e)))

  pub values_of-zip : (ks : List K) (vs : List V) → length vs ≡ length ks → values_of (zip ks vs) ≡ vs
  values_of-zip [] [] e = refl
  values_of-zip [] (v ∷ vs) e = absurd (omega (arith, e))
  values_of-zip (k ∷ ks) [] e = absurd (omega (arith, e))
  values_of-zip (k ∷ ks) (v ∷ vs) e = ap (λ l. v ∷ l) (values_of-zip ks vs (omega (arith, e)))

  -- an entry that is appended
  pub zip-push : (ks : List K) (vs : List V) (k : K) (v : V) → length vs ≡ length ks
      → zip (ks ++ k ∷ []) (vs ++ v ∷ []) ≡ zip ks vs ++ (k, v) ∷ []
  zip-push [] [] k v e = refl
  zip-push [] (y ∷ vs) k v e = absurd (omega (arith, e))
  zip-push (x ∷ ks) [] k v e = absurd (omega (arith, e))
  zip-push (x ∷ ks) (y ∷ vs) k v e = ap (λ l. (x, y) ∷ l) (zip-push ks vs k v (omega (arith, e)))

  -- an entry that is removed
  pub zip-remove : (ks : List K) (vs : List V) (i : ℕ) → length vs ≡ length ks
      → zip (remove ks i) (remove vs i) ≡ remove (zip ks vs) i
  zip-remove [] [] zero e = refl
  zip-remove [] [] (suc i) e = refl
  zip-remove [] (y ∷ vs) i e = absurd (omega (arith, e))
  zip-remove (x ∷ ks) [] i e = absurd (omega (arith, e))
  zip-remove (x ∷ ks) (y ∷ vs) zero e = refl
  zip-remove (x ∷ ks) (y ∷ vs) (suc i) e = ap (λ l. (x, y) ∷ l) (zip-remove ks vs i (omega (arith, e)))

  -- a value that is set at a place
  pub zip-set_value : (ks : List K) (vs : List V) (i : ℕ) (v : V) → zip ks (set vs i v) ≡ set_value_at (zip ks vs) i v
  zip-set_value [] vs i v = refl
  zip-set_value (x ∷ ks) [] i v = refl
  zip-set_value (x ∷ ks) (y ∷ vs) zero v = refl
  zip-set_value (x ∷ ks) (y ∷ vs) (suc i) v = ap (λ l. (x, y) ∷ l) (zip-set_value ks vs i v)

  -- the same with the name at that place
  pub zip-put : (ks : List K) (vs : List V) (i : ℕ) (k : K) (v : V) → k ≡ get_or ks i k
      → zip ks (set vs i v) ≡ set (zip ks vs) i (k, v)
  zip-put [] vs i k v is = refl
  zip-put (x ∷ ks) [] i k v is = refl
  zip-put (x ∷ ks) (y ∷ vs) zero k v is = ap (λ z. (z, v) ∷ zip ks vs) (sym is)
  zip-put (x ∷ ks) (y ∷ vs) (suc i) k v is = ap (λ l. (x, y) ∷ l) (zip-put ks vs i k v is)

  zip-none : (ks : List K) → ◌≡◌ {A = List (K × V)} (zip ks []) []
  zip-none [] = refl
  zip-none (k ∷ ks) = refl

  zip-set : (ks : List K) (vs : List V) (i : ℕ) (k : K) (v : V) → zip (set ks i k) (set vs i v) ≡ set (zip ks vs) i (k, v)
  zip-set [] vs i k v = refl
  zip-set (x ∷ ks) [] i k v = zip-none (set (x ∷ ks) i k)
  zip-set (x ∷ ks) (y ∷ vs) zero k v = refl
  zip-set (x ∷ ks) (y ∷ vs) (suc i) k v = ap (λ l. (x, y) ∷ l) (zip-set ks vs i k v)

  pub get_or-zip : (ks : List K) (vs : List V) (i : ℕ) (k : K) (v : V) → length vs ≡ length ks
      → (get_or ks i k, get_or vs i v) ≡ get_or (zip ks vs) i (k, v)
  get_or-zip [] [] i k v e = refl
  get_or-zip [] (y ∷ vs) i k v e = absurd (omega (arith, e))
  get_or-zip (x ∷ ks) [] i k v e = absurd (omega (arith, e))
  get_or-zip (x ∷ ks) (y ∷ vs) zero k v e = refl
  get_or-zip (x ∷ ks) (y ∷ vs) (suc i) k v e = get_or-zip ks vs i k v (omega (arith, e))

  -- names and values that are swapped
  pub zip-swap : (ks : List K) (vs : List V) (i j : ℕ) → length vs ≡ length ks
      → zip (swap ks i j) (swap vs i j) ≡ swap (zip ks vs) i j
  zip-swap [] [] i j e = refl
  zip-swap [] (y ∷ vs) i j e = absurd (omega (arith, e))
  zip-swap (x ∷ ks) [] i j e = absurd (omega (arith, e))
  zip-swap (x ∷ ks) (y ∷ vs) i j e =
      let at : (n : ℕ) → (get_or (x ∷ ks) n x, get_or (y ∷ vs) n y) ≡ get_or (zip (x ∷ ks) (y ∷ vs)) n (x, y)
      = λ n. get_or-zip (x ∷ ks) (y ∷ vs) n x y e in
      zip-set (set (x ∷ ks) i (get_or (x ∷ ks) j x)) (set (y ∷ vs) i (get_or (y ∷ vs) j y)) j
      (get_or (x ∷ ks) i x) (get_or (y ∷ vs) i y)
      ∙ ap (λ l. set l j (get_or (x ∷ ks) i x, get_or (y ∷ vs) i y))
      (zip-set (x ∷ ks) (y ∷ vs) i (get_or (x ∷ ks) j x) (get_or (y ∷ vs) j y))
      ∙ (λ t. set (set (zip (x ∷ ks) (y ∷ vs)) i (at j t)) j (at i t))

  pub zip-take : (n : ℕ) (ks : List K) (vs : List V) → zip (take n ks) (take n vs) ≡ take n (zip ks vs)
  zip-take zero ks vs = refl
  zip-take (suc n) [] vs = refl
  zip-take (suc n) (k ∷ ks) [] = refl
  zip-take (suc n) (k ∷ ks) (v ∷ vs) = ap (λ l. (k, v) ∷ l) (zip-take n ks vs)

  -- the entry at a place
  pub slice_get-zip : (ks : List K) (vs : List V) (i : ℕ) (k : K) (v : V) → length vs ≡ length ks → i < length ks
      → slice_get (zip ks vs) i ≡ Some (get_or ks i k, get_or vs i v)
  slice_get-zip [] vs i k v e h = absurd (omega (arith, h))
  slice_get-zip (x ∷ ks) [] i k v e h = absurd (omega (arith, e))
  slice_get-zip (x ∷ ks) (y ∷ vs) zero k v e h = refl
  slice_get-zip (x ∷ ks) (y ∷ vs) (suc i) k v e h = slice_get-zip ks vs i k v (omega (arith, e)) (omega (arith, h))

  -- a list of entries is its names zipped with its values
  pub zip-columns : (es : List (K × V)) → zip (keys_of es) (values_of es) ≡ es
  zip-columns [] = refl
  zip-columns (e ∷ es) = ap (λ l. e ∷ l) (zip-columns es)

  pub length-values_of : (es : List (K × V)) → length (values_of es) ≡ length es
  length-values_of es = length-map es (λ e. e.1)

  pub length-keys_of : (es : List (K × V)) → length (keys_of es) ≡ length es
  length-keys_of es = length-map es (λ e. e.0)

  -- ---- other values
  pub length-refilled : (es : List (K × V)) (ws : List V)
      → length (refill (length es) (values_of es) ws) ≡ length (keys_of es)
  length-refilled es ws =
      sym (length_refill (length es) (values_of es) ws (sym (length-values_of es))) ∙ sym (length-keys_of es)

  pub keys_of-set_values : (es : List (K × V)) (ws : List V) → keys_of (set_values es ws) ≡ keys_of es
  keys_of-set_values es ws = keys_of-zip (keys_of es) (refill (length es) (values_of es) ws) (length-refilled es ws)

  pub length-set_values : (es : List (K × V)) (ws : List V) → length (set_values es ws) ≡ length es
  length-set_values es ws =
      length-zip (keys_of es) (refill (length es) (values_of es) ws) (length-refilled es ws) ∙ length-keys_of es

  -- writing values beside the names writes them over the values of the entries
  pub zip-set_values : (ks : List K) (vs ws : List V) (n : ℕ) → length vs ≡ length ks → n ≡ length vs
      → zip ks (refill n vs ws) ≡ set_values (zip ks vs) ws
  zip-set_values ks vs ws n e is =
      let count : n ≡ length (zip ks vs) = is ∙ e ∙ sym (length-zip ks vs e) in
      λ i. zip (sym (keys_of-zip ks vs e) i) (refill (count i) (sym (values_of-zip ks vs e) i) ws)

-- the element at a place
pub slice_get-at : {X : Type 0} (xs : List X) (i : ℕ) (d : X) → i < length xs → slice_get xs i ≡ Some (get_or xs i d)
slice_get-at [] i d h = absurd (omega (arith, h))
slice_get-at (x ∷ xs) zero d h = refl
slice_get-at (x ∷ xs) (suc i) d h = slice_get-at xs i d (omega (arith, h))
