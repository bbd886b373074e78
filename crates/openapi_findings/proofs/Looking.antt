-- The search for locations by their keys.
use Rattle.std.proofs.Common.{◌≡◌, ℕ, zero, suc, ◌+◌, ◌<◌, ◌≤◌, Bool, true, false, cond, ◌&&◌, ◌||◌, List, [], ◌∷◌, ◌++◌, Some, None}
use Rattle.std.proofs.Common.{length, map, drop, get_or, is_some, append-nil, append_assoc, refl, sym, ap, ◌∙◌, arith, true≢false}
use Rattle.std.proofs.lemmas.Bool.Decides.{Decides-eqb}
use Rattle.std.proofs.lemmas.List.{drop_all, drop_more}
use Rattle.std.proofs.lemmas.Slice.Eq.{bytes_eq-Decides}
use Rattle.std.specs.List.{flat_map, list_any}
use Rattle.std.specs.Str.{bytes_eq}
use Rattle.openapi_map.specs.Entries.{Entries, get, insert_entry}
use Rattle.openapi_node.specs.Place.{Place, Step, named, indexed}
use Rattle.openapi_findings.specs.Numbers.{HasKeys, is_among, key_text, same_place, same_step}

or_false : (a : Bool) → (a || false) ≡ a
or_false true = refl
or_false false = refl

or_true : (a : Bool) → (a || true) ≡ true
or_true true = refl
or_true false = refl

or_assoc : (a b c : Bool) → ((a || b) || c) ≡ (a || (b || c))
or_assoc true b c = refl
or_assoc false b c = refl

and_false : (a : Bool) → (a && false) ≡ false
and_false true = refl
and_false false = refl

-- with the next element, what was made so far and what is made of the rest are still what is made of all
module _ {A E Y : Type 0} (f : A → E) (g : E → List Y) (xs : List A) (all : List Y) where
  pub flat_next : (i : ℕ) (d : A) (old new : List Y) → i < length xs → new ≡ old ++ g (f (get_or xs i d))
      → old ++ flat_map g (map f (drop i xs)) ≡ all → new ++ flat_map g (map f (drop (i + 1) xs)) ≡ all
  flat_next i d old new lt n h =
      let rest = flat_map g (map f (drop (i + 1) xs)) in
      ap (λ l. l ++ rest) n ∙ append_assoc old (g (f (get_or xs i d))) rest
      ∙ ap (λ l. old ++ flat_map g (map f l)) (sym (drop_more xs i d lt)) ∙ h

  pub flat_end : (i : ℕ) (made : List Y) → length xs ≤ i → made ++ flat_map g (map f (drop i xs)) ≡ all → made ≡ all
  flat_end i made le h =
      sym (append-nil made) ∙ ap (λ l. made ++ flat_map g (map f l)) (sym (drop_all i xs le)) ∙ h

-- ---- two locations
same_step_is : (s t : Step) → same_step s t ≡ true → s ≡ t
same_step_is (named m) (named n) h = ap named ((bytes_eq-Decides m n).0 h)
same_step_is (named m) (indexed j) h = absurd (true≢false (sym h))
same_step_is (indexed i) (named n) h = absurd (true≢false (sym h))
same_step_is (indexed i) (indexed j) h = ap indexed ((Decides-eqb i j).0 h)

both_true : (a b : Bool) → (a && b) ≡ true → (a ≡ true) × (b ≡ true)
both_true true b h = (refl, h)
both_true false b h = absurd (true≢false (sym h))

same_is : (p q : Place) → same_place p q ≡ true → p ≡ q
same_is [] [] h = refl
same_is [] (t ∷ q) h = absurd (true≢false (sym h))
same_is (s ∷ p) [] h = absurd (true≢false (sym h))
same_is (s ∷ p) (t ∷ q) h =
    let parts = both_true (same_step s t) (same_place p q) h in
    λ i. same_step_is s t parts.0 i ∷ same_is p q parts.1 i

-- locations of different lengths are not the same
pub lengths_differ : (p q : Place) → (length p ≡ length q → ⊥) → false ≡ same_place p q
lengths_differ [] [] h = absurd (h refl)
lengths_differ [] (t ∷ q) h = refl
lengths_differ (s ∷ p) [] h = refl
lengths_differ (s ∷ p) (t ∷ q) h =
    sym (ap (λ b. same_step s t && b) (sym (lengths_differ p q (λ e. h (ap suc e)))) ∙ and_false (same_step s t))

-- ---- a location among others

-- a location that is the same as an element of a list is one of the list
pub among_at : {A : Type 0} (f : A → Place) (p : Place) (xs : List A) (i : ℕ) (d : A) → i < length xs
    → same_place p (f (get_or xs i d)) ≡ true → true ≡ is_among p (map f xs)
among_at f p [] i d lt is = absurd (omega (arith, lt))
among_at f p (x ∷ xs) zero d lt is = ap (λ b. b || is_among p (map f xs)) (sym is)
among_at f p (x ∷ xs) (suc i) d lt is =
    sym (or_true (same_place p (f x))) ∙ ap (λ b. same_place p (f x) || b) (among_at f p xs i d (omega (arith, lt)) is)

-- ---- keys
one_of_two : (a b : Bool) → (a || b) ≡ false → (a ≡ false) × (b ≡ false)
one_of_two true b h = absurd (true≢false h)
one_of_two false b h = (refl, h)

same_key : (k : List ℕ) → bytes_eq k k ≡ true
same_key k = (bytes_eq-Decides k k).1 refl

-- if no location of a list has the key of another, that one is not in the list
pub none_by_key : (p : Place) (ps : List Place) → list_any (λ q. bytes_eq (key_text p) (key_text q)) ps ≡ false → is_among p ps ≡ false
none_by_key p [] h = refl
none_by_key p (q ∷ qs) h =
    let parts = one_of_two (bytes_eq (key_text p) (key_text q)) (list_any (λ r. bytes_eq (key_text p) (key_text r)) qs) h in
    by (same_place p q) refl parts.0 (none_by_key p qs parts.1)
  where
    by : (b : Bool) → same_place p q ≡ b → bytes_eq (key_text p) (key_text q) ≡ false → is_among p qs ≡ false
        → (b || is_among p qs) ≡ false
    by true is differ rest =
        absurd (true≢false (sym (same_key (key_text p)) ∙ ap (λ r. bytes_eq (key_text p) (key_text r)) (same_is p q is) ∙ differ))
    by false is differ rest = rest

-- which names are in a map after an insert
get_put : (b k : List ℕ) (v : ℕ) (es : Entries ℕ) → is_some (get b (insert_entry es k v)) ≡ (is_some (get b es) || bytes_eq b k)
get_put b k v [] = by (bytes_eq b k)
  where
    by : (c : Bool) → is_some (cond c (Some v) None) ≡ c
    by true = refl
    by false = refl
get_put b k v (e ∷ es) = by (bytes_eq k e.0) refl (get_put b k v es)
  where
    kept : (d : Bool) → bytes_eq b e.0 ≡ d → bytes_eq k e.0 ≡ true
        → is_some (cond d (Some v) (get b es)) ≡ (is_some (cond d (Some e.1) (get b es)) || bytes_eq b k)
    kept true at is = refl
    kept false at is =
        let other : bytes_eq b k ≡ false = ap (bytes_eq b) ((bytes_eq-Decides k e.0).0 is) ∙ at in
        sym (ap (λ c. is_some (get b es) || c) other ∙ or_false (is_some (get b es)))

    moved : (d : Bool) → is_some (get b (insert_entry es k v)) ≡ (is_some (get b es) || bytes_eq b k)
        → is_some (cond d (Some e.1) (get b (insert_entry es k v))) ≡ (is_some (cond d (Some e.1) (get b es)) || bytes_eq b k)
    moved true rest = refl
    moved false rest = rest

    by : (c : Bool) → bytes_eq k e.0 ≡ c → is_some (get b (insert_entry es k v)) ≡ (is_some (get b es) || bytes_eq b k)
        → is_some (get b (cond c ((e.0, v) ∷ es) (e ∷ insert_entry es k v))) ≡ (is_some (get b (e ∷ es)) || bytes_eq b k)
    by true is rest = kept (bytes_eq b e.0) refl is
    by false is rest = moved (bytes_eq b e.0) rest

module _ {A : Type 0} (f : A → Place) (xs : List A) (b : List ℕ) where
  pub keys_next : (i : ℕ) (d : A) (old new : Entries ℕ) (k : List ℕ) → i < length xs → new ≡ insert_entry old k i
      → k ≡ key_text (f (get_or xs i d))
      → (is_some (get b old) || list_any (λ p. bytes_eq b (key_text p)) (map f (drop i xs)))
      ≡ list_any (λ p. bytes_eq b (key_text p)) (map f xs)
      → (is_some (get b new) || list_any (λ p. bytes_eq b (key_text p)) (map f (drop (i + 1) xs)))
      ≡ list_any (λ p. bytes_eq b (key_text p)) (map f xs)
  keys_next i d old new k lt n is h =
      let rest = list_any (λ p. bytes_eq b (key_text p)) (map f (drop (i + 1) xs)) in
      let put : is_some (get b new) ≡ (is_some (get b old) || bytes_eq b (key_text (f (get_or xs i d)))) =
      ap (λ m. is_some (get b m)) n ∙ get_put b k i old ∙ ap (λ l. is_some (get b old) || bytes_eq b l) is in
      ap (λ c. c || rest) put ∙ or_assoc (is_some (get b old)) (bytes_eq b (key_text (f (get_or xs i d)))) rest
      ∙ ap (λ l. is_some (get b old) || list_any (λ p. bytes_eq b (key_text p)) (map f l)) (sym (drop_more xs i d lt)) ∙ h

  pub keys_end : (i : ℕ) (m : Entries ℕ) → length xs ≤ i
      → (is_some (get b m) || list_any (λ p. bytes_eq b (key_text p)) (map f (drop i xs)))
      ≡ list_any (λ p. bytes_eq b (key_text p)) (map f xs)
      → is_some (get b m) ≡ list_any (λ p. bytes_eq b (key_text p)) (map f xs)
  keys_end i m le h =
      sym (or_false (is_some (get b m)))
      ∙ ap (λ l. is_some (get b m) || list_any (λ p. bytes_eq b (key_text p)) (map f l)) (sym (drop_all i xs le)) ∙ h

-- if the key of a location is not in an index, the location is not either
pub no_key : (p : Place) (ps : List Place) (m : Entries ℕ) (k : List ℕ) → k ≡ key_text p → None ≡ get k m → HasKeys ps m
    → false ≡ is_among p ps
no_key p ps m k is none h =
    sym (none_by_key p ps (sym (h (key_text p)) ∙ ap (λ l. is_some (get l m)) (sym is) ∙ ap is_some (sym none)))
