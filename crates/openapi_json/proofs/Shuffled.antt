-- Members that are sorted by their names: they have the same data as before, and each name is less than the next.
use Rattle.std.proofs.Common.{◌≡◌, ℕ, zero, suc, ◌+◌, ◌≤◌, List, [], ◌∷◌, get_or, All, Bor, Ordering, Less, Equal}
use Rattle.std.proofs.Common.{Greater, is_lt, false, true≢false, nat_cmp, refl, sym, subst, ◌∙◌, arith}
use Rattle.std.proofs.lemmas.List.Elements.{All-from_recursion, recursion_from_All}
use Rattle.std.proofs.lemmas.List.Sorted.{All-permutation, IsPermutation-map, IsPermutation-sym, length_permutation}
use Rattle.std.proofs.lemmas.Map.Keys.{IsDistinct-IsPermutation}
use Rattle.std.proofs.lemmas.Option.{slice_get-get_or}
use Rattle.std.proofs.lemmas.Slice.Eq.{bytes_eq-Decides}
use Rattle.std.specs.Cmp.Lexicographic.{slice_cmp, nat_list_eq_equiv}
use Rattle.std.specs.List.{AllByRecursion, IsDistinct}
use Rattle.std.specs.List.Sorted.{IsPermutation, IsSortedByKey}
use Rattle.std.specs.Map.{keys_of}
use Rattle.std.specs.Str.{bytes_eq}
use Rattle.serde_json.specs.Data.{no_members}
use Rattle.openapi_map.specs.Entries.{Entries, HasDistinctNames}
use Rattle.openapi_node.specs.Json.{members_data}
use Rattle.openapi_node.specs.Tree.{Tree, members_of, members_size, size_of}
use Rattle.openapi_node.proofs.EqualLemmas.{AreFoundIn, IsFoundIn, equal_members, found_from_equal}
use Rattle.openapi_json.specs.Gathered.{Ascends, Rises}
use Rattle.openapi_json.specs.Writing.{AllFit, AreWhole, arranged, lent, MembersAreWhole, standing}
use Rattle.openapi_json.specs.declared.write.Order.TheVariants.{ByName}
use Rattle.openapi_json.proofs.Order.{equal_names, turned}
use Rattle.openapi_json.proofs.Sorted.{fits_in, members-by_name}

-- the numbers of members fit an `i64` or a `u64` if and only if those of each member do
whole_each : (es : Entries Tree) → MembersAreWhole (members_of es) → AllByRecursion (λ e. AreWhole e.1) es
whole_each [] h = tt
whole_each (e ∷ es) h = (h.0, whole_each es h.1)

whole_all : (es : Entries Tree) → AllByRecursion (λ e. AreWhole e.1) es → MembersAreWhole (members_of es)
whole_all [] h = tt
whole_all (e ∷ es) h = (h.0, whole_all es h.1)

-- members in another order
module _ (ms ns : Entries Tree) (shuffled : IsPermutation ms ns) where
  -- each of them is no larger than all members together
  pub fit_still : AllFit (members_size (members_of ms)) ns
  fit_still =
      let P : List ℕ × Tree → Type 0 = λ e. size_of e.1 ≤ members_size (members_of ms) in
      recursion_from_All P ns (All-permutation P ms ns shuffled
      (λ k d h. fits_in ms k (get_or ms k d) (slice_get-get_or ms k d h)))

  -- if their numbers fit, those of the members in the first order do
  pub whole_before : MembersAreWhole (members_of ns) → MembersAreWhole (members_of ms)
  whole_before h =
      let P : List ℕ × Tree → Type 0 = λ e. AreWhole e.1 in
      whole_all ms (recursion_from_All P ms (All-permutation P ns ms (IsPermutation-sym ms ns shuffled)
      (All-from_recursion P ns (whole_each ns h))))

  module _ (distinct : HasDistinctNames ms) where
    -- their names are still distinct
    pub distinct_still : HasDistinctNames ns
    distinct_still = IsDistinct-IsPermutation bytes_eq nat_list_eq_equiv.symm (keys_of ms) (keys_of ns)
        (IsPermutation-map (λ e. e.0) ms ns shuffled) distinct

    as_found : (es : Entries Tree) → AllByRecursion (IsFoundIn ns) es → AreFoundIn ns es
    as_found [] h = tt
    as_found (e ∷ es) h = (h.0, as_found es h.1)

    same_data : members_data (members_of ns) no_members ≡ members_data (members_of ms) no_members
    same_data =
        let own : All (IsFoundIn ns) ns = λ k d h. found_from_equal ns ns distinct_still distinct_still refl k (get_or ns k d) (slice_get-get_or ns k d h) in
        let all = All-permutation (IsFoundIn ns) ns ms (IsPermutation-sym ms ns shuffled) own in
        let same = equal_members ms ns distinct distinct_still (sym (length_permutation ms ns shuffled))
        (as_found ms (recursion_from_All (IsFoundIn ns) ms all)) in
        cc

    -- they have the same data by name
    pub data_still : arranged ByName (standing ByName ms) ≡ arranged ByName (standing ByName ns)
    data_still =
        sym (members-by_name (members_of ms) no_members) ∙ sym same_data ∙ members-by_name (members_of ns) no_members

-- borrowed members in an order in which no name is less than the one before it
abbrev Sorted : List (Bor (List ℕ) × Bor Tree) → Type 0
Sorted vs = IsSortedByKey (λ e. e.0) (λ (a b : Bor (List ℕ)). slice_cmp nat_cmp a.now b.now) vs

above : (a b : List ℕ) (o : Ordering) → slice_cmp nat_cmp b a ≡ o → is_lt o ≡ false → bytes_eq a b ≡ false
    → slice_cmp nat_cmp a b ≡ Less
above a b Less is low apart = absurd (true≢false low)
above a b Equal is low apart = absurd (true≢false (sym ((bytes_eq-Decides a b).1 (sym (equal_names b a is))) ∙ apart))
above a b Greater is low apart = turned b a is

lent_rises : (v : Bor (List ℕ) × Bor Tree) (vs : List (Bor (List ℕ) × Bor Tree)) → HasDistinctNames (lent (v ∷ vs))
    → Sorted (v ∷ vs) → Rises v.0.now (lent vs)
unfolding IsDistinct
lent_rises v [] d s = tt
lent_rises v (w ∷ vs) d s = (
  above v.0.now w.0.now (slice_cmp nat_cmp w.0.now v.0.now) refl (s zero v (omega arith) (omega arith)) d.0.0,
  lent_rises w vs d.1 (λ k x a b.
      subst (λ n. is_lt (slice_cmp nat_cmp (get_or (v ∷ w ∷ vs) n x).0.now (get_or (w ∷ vs) k x).0.now) ≡ false)
      {x = suc k + 1} {y = suc (k + 1)} (omega arith) (s (suc k) x (omega arith) (omega (arith, b)))),
)

-- these are in the order of their names, if no two names are the same
pub lent_ascends : (vs : List (Bor (List ℕ) × Bor Tree)) → HasDistinctNames (lent vs) → Sorted vs → Ascends (lent vs)
lent_ascends [] d s = tt
lent_ascends (v ∷ vs) d s = lent_rises v vs d s
