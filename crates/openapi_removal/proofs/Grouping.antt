-- Groups of locations that grow by one.
use Rattle.std.proofs.Common.{◌≡◌, ℕ, Bool, true, false, cond, not, ◌&&◌, ◌==◌, ◌<◌, List, [], ◌∷◌, ◌++◌, Option, Some, None, unwrap_or, nat_cmp, Ordering, Less, Equal, Greater, true≢false}
use Rattle.std.proofs.Common.{refl, sym, ap, ◌∙◌, append_assoc, append-nil, arith}
use Rattle.std.proofs.lemmas.Bool.Decides.{nat_tests}
use Rattle.std.proofs.lemmas.Cmp.{ranked}
use Rattle.std.proofs.lemmas.Slice.Eq.{bytes_eq-Decides}
use Rattle.std.specs.Borrow.{Bor}
use Rattle.std.specs.Cmp.Lexicographic.{nat_list_eq_equiv}
use Rattle.std.specs.Global.{Vec}
use Rattle.std.specs.Option.{option_map_or}
use Rattle.std.specs.Ordering.{is_eq, MatchOrdering}
use Rattle.std.specs.Str.{bytes_eq}
use Rattle.openapi_node.specs.Place.{Place, Step, named, indexed}
use Rattle.openapi_node.specs.declared.fault.PlaceStep.{PlaceStep}
use Rattle.openapi_tables.specs.Lists.{join}
use Rattle.openapi_tables.proofs.ListLaws.{same_bytes}
use Rattle.openapi_faults.specs.Without.{behind_step, has_root, inside, same_step}
use Rattle.openapi_removal.specs.Below.{grouped, places_of}

joined : {A : Type 0} (xs ys : List A) → join xs ys ≡ xs ++ ys
joined [] ys = refl
joined (x ∷ xs) ys = ap (λ zs. x ∷ zs) (joined xs ys)

-- a group that is missing has no locations
pub or_empty : (o : Option (Vec (Bor (List PlaceStep)))) (v : Vec (Bor (List PlaceStep))) → v.items ≡ []
    → grouped (unwrap_or o v) ≡ option_map_or grouped o []
or_empty None v none = ap places_of none
or_empty (Some w) v none = refl

-- one more location is added to its group, and those after it are left
pub next_location : (s : Step) (p : Place) (ps : List Place) (old new all : List Place) → new ≡ old ++ behind_step s p
    → old ++ inside s (p ∷ ps) ≡ all → new ++ inside s ps ≡ all
next_location s p ps old new all grew whole =
    ap (λ xs. xs ++ inside s ps) grew ∙ append_assoc old (behind_step s p) (inside s ps)
    ∙ ap (λ xs. old ++ xs) (sym (joined (behind_step s p) (inside s ps))) ∙ whole

module _ {K V : Type 0} (eq : K → K → Bool) (step : K → Step) (locations : V → List Place) where
  module _ (equal : (a b : K) → eq a b ≡ true → a ≡ b) (same : (a b : K) → same_step (step b) (step a) ≡ eq a b) where
    -- a location is added to the group of `k`, and the other groups are unchanged
    grown : (f g h : K → Option V) (k : K) (v : V) (p : Place) → ((n : K) → g n ≡ cond (eq k n) None (f n))
        → ((n : K) → h n ≡ cond (eq k n) (Some v) (g n)) → locations v ≡ option_map_or locations (f k) [] ++ p ∷ []
        → (n : K) → option_map_or locations (h n) [] ≡ option_map_or locations (f n) [] ++ behind_step (step n) (step k ∷ p)
    grown f g h k v p gone put held n = by (eq k n) refl
      where
        by : (b : Bool) → eq k n ≡ b
            → option_map_or locations (h n) [] ≡ option_map_or locations (f n) [] ++ behind_step (step n) (step k ∷ p)
        by true is =
            let found : behind_step (step n) (step k ∷ p) ≡ p ∷ [] = ap (λ b. cond b (p ∷ []) []) (same k n ∙ is) in
            ap (λ o. option_map_or locations o []) (put n ∙ ap (λ b. cond b (Some v) (g n)) is) ∙ held
            ∙ ap (λ m. option_map_or locations (f m) [] ++ p ∷ []) (equal k n is)
            ∙ ap (λ xs. option_map_or locations (f n) [] ++ xs) (sym found)
        by false is =
            let none : behind_step (step n) (step k ∷ p) ≡ [] = ap (λ b. cond b (p ∷ []) []) (same k n ∙ is) in
            ap (λ o. option_map_or locations o [])
            (put n ∙ ap (λ b. cond b (Some v) (g n)) is ∙ gone n ∙ ap (λ b. cond b None (f n)) is)
            ∙ sym (append-nil (option_map_or locations (f n) []))
            ∙ ap (λ xs. option_map_or locations (f n) [] ++ xs) (sym none)

same_name : (a b : List ℕ) → same_step (named b) (named a) ≡ bytes_eq a b
same_name a b = same_bytes b a ∙ nat_list_eq_equiv.symm b a

pub grown_at_name : {V : Type 0} (locations : V → List Place) (f g h : List ℕ → Option V) (k : List ℕ) (v : V) (p : Place)
    → ((n : List ℕ) → g n ≡ cond (bytes_eq k n) None (f n)) → ((n : List ℕ) → h n ≡ cond (bytes_eq k n) (Some v) (g n))
    → locations v ≡ option_map_or locations (f k) [] ++ p ∷ []
    → (n : List ℕ) → option_map_or locations (h n) [] ≡ option_map_or locations (f n) [] ++ behind_step (named n) (named k ∷ p)
grown_at_name locations = grown bytes_eq named locations (λ a b. (bytes_eq-Decides a b).0) same_name

-- if the group of a name is removed and none of its locations is that of the member itself, it has none afterwards
pub taken : {V : Type 0} (locations : V → List Place) (f g : List ℕ → Option V) (k : List ℕ)
    → ((n : List ℕ) → g n ≡ cond (bytes_eq k n) None (f n)) → has_root (option_map_or locations (f k) []) ≡ false
    → (n : List ℕ) → option_map_or locations (g n) []
    ≡ cond (bytes_eq k n && not (has_root (option_map_or locations (f n) []))) [] (option_map_or locations (f n) [])
taken locations f g k gone stays n = ap (λ o. option_map_or locations o []) (gone n) ∙ by (bytes_eq k n) refl
  where
    by : (b : Bool) → bytes_eq k n ≡ b → option_map_or locations (cond b None (f n)) []
        ≡ cond (b && not (has_root (option_map_or locations (f n) []))) [] (option_map_or locations (f n) [])
    by true is =
        let same : k ≡ n = (bytes_eq-Decides k n).0 is in
        sym (ap (λ b. cond (not b) [] (option_map_or locations (f n) []))
        (ap (λ m. has_root (option_map_or locations (f m) [])) (sym same) ∙ stays))
    by false is = refl

abbrev pub tied : ℕ → ℕ → Bool
tied a b = is_eq (nat_cmp a b)

tied_equal : (a b : ℕ) → tied a b ≡ true → a ≡ b
tied_equal a b = by (nat_cmp a b) (ranked a b (nat_cmp a b) refl)
  where
    by : (o : Ordering) → MatchOrdering o (a < b) (a ≡ b) (b < a) → is_eq o ≡ true → a ≡ b
    by Less h is = absurd (true≢false (sym is))
    by Equal h is = h
    by Greater h is = absurd (true≢false (sym is))

same_index : (a b : ℕ) → same_step (indexed b) (indexed a) ≡ tied a b
same_index a b = by (nat_cmp a b) (ranked a b (nat_cmp a b) refl)
  where
    by : (o : Ordering) → MatchOrdering o (a < b) (a ≡ b) (b < a) → (b == a) ≡ is_eq o
    by Less h = grind (arith, nat_tests)
    by Equal h = grind (arith, nat_tests)
    by Greater h = grind (arith, nat_tests)

pub grown_at_index : {V : Type 0} (locations : V → List Place) (f g h : ℕ → Option V) (k : ℕ) (v : V) (p : Place)
    → ((n : ℕ) → g n ≡ cond (tied k n) None (f n)) → ((n : ℕ) → h n ≡ cond (tied k n) (Some v) (g n))
    → locations v ≡ option_map_or locations (f k) [] ++ p ∷ []
    → (n : ℕ) → option_map_or locations (h n) [] ≡ option_map_or locations (f n) [] ++ behind_step (indexed n) (indexed k ∷ p)
grown_at_index locations = grown tied indexed locations tied_equal same_index
