-- A map that is made from all pairs together holds what it holds if they are inserted one after another.
use Rattle.std.proofs.Common.{◌≡◌, ℕ, List, [], ◌∷◌, map, Option, Some, None, option_map, Bool, true, false, cond}
use Rattle.std.proofs.Common.{Ordering, Less, Equal, Greater, nat_cmp, String, string_bytes, string_cmp, Global}
use Rattle.std.proofs.Common.{BTreeMap, Result, IfOk, ◌⊎◌, inl, inr, refl, sym, ap, ◌∙◌, true≢false, bytes_eq}
use Rattle.std.proofs.lemmas.Map.Text.{is_eq-slice_cmp}
use Rattle.std.proofs.lemmas.Result.{IfOk-weaker}
use Rattle.std.proofs.lemmas.Slice.Eq.{bytes_eq-Decides}
use Rattle.std.specs.BTreeMap.{IsFromIterResult}
use Rattle.std.specs.Cmp.Lexicographic.{slice_cmp}
use Rattle.std.specs.List.{AllByRecursion}
use Rattle.std.specs.List.Sorted.{IsStrictlySortedBy}
use Rattle.std.specs.Map.{keys_of, update, update_all}
use Rattle.std.specs.Ordering.{eq_by_cmp, match_ordering}
use Rattle.serde_json.specs.Data.{Data, Members, no_members, put}
use Rattle.serde_json.specs.Find.{get_member}
use Rattle.serde_json.specs.View.{view, members_view}
use Rattle.serde_json.proofs.Views.{Entry, view-lookup, get_member-put, get_member-put_other}
use Rattle.serde_json.specs.declared.value.Value.{Value}
use Rattle.openapi_node.specs.Json.{members_data}
use Rattle.openapi_node.specs.Pairs.{pair_view, pair_data, put_all}
use Rattle.openapi_node.specs.Tree.{Tree, members_of}
use Rattle.openapi_node.proofs.DataOrder.{Below, InOrder, InOrder-put, Within, fits, tied}

members_data-put_all : (ms : List (List ℕ × Tree)) (ds : Members)
    → members_data (members_of ms) ds ≡ put_all ds (map pair_data ms)
members_data-put_all [] ds = refl
members_data-put_all (m ∷ ms) ds = members_data-put_all ms (put m.0 (pair_data m).1 ds)

InOrder-put_all : (ps : List (List ℕ × Data)) (ds : Members) → InOrder ds → InOrder (put_all ds ps)
InOrder-put_all [] ds o = o
InOrder-put_all (p ∷ ps) ds o = InOrder-put_all ps (put p.0 p.1 ds) (InOrder-put p.0 p.1 ds o)

Below-view : (k : String Global) (es : List Entry) → AllByRecursion (λ l. string_cmp k l ≡ Less) (keys_of es)
    → Below (string_bytes k) (members_view es)
Below-view k [] h = tt
Below-view k (e ∷ es) h = (h.0, Below-view k es h.1)

InOrder-view : (es : List Entry) → IsStrictlySortedBy string_cmp (keys_of es) → InOrder (members_view es)
unfolding IsStrictlySortedBy
InOrder-view [] h = tt
InOrder-view (e ∷ es) h = (Below-view e.0 es h.0, InOrder-view es h.1)

module _ (k : List ℕ) where
  -- a name that is found is that of a key
  abbrev Named : Type 0
  Named = (q : String Global) × (k ≡ string_bytes q)

  named-view : (es : List Entry) (d : Data) → get_member k (members_view es) ≡ Some d → Named
  named-view [] d found = cc
  named-view (e ∷ es) d found = by (slice_cmp nat_cmp k (string_bytes e.0)) refl found (named-view es d)
    where
      by : (o : Ordering) → slice_cmp nat_cmp k (string_bytes e.0) ≡ o
          → match_ordering o (get_member k (members_view es)) (Some (view e.1)) (get_member k (members_view es)) ≡ Some d
          → (get_member k (members_view es) ≡ Some d → Named) → Named
      by Less h f later = later f
      by Equal h f later = (e.0, tied k (string_bytes e.0) h)
      by Greater h f later = later f

  named-put : (p : Entry) (ds : Members) (d : Data) → get_member k (put (string_bytes p.0) (view p.1) ds) ≡ Some d
      → Named ⊎ (get_member k ds ≡ Some d)
  named-put p ds d found = by (bytes_eq k (string_bytes p.0)) refl
    where
      by : (b : Bool) → bytes_eq k (string_bytes p.0) ≡ b → Named ⊎ (get_member k ds ≡ Some d)
      by true h = inl (p.0, (bytes_eq-Decides k (string_bytes p.0)).0 h)
      by false h = inr (sym (get_member-put_other k (string_bytes p.0) (view p.1) ds
          (λ same. true≢false (sym ((bytes_eq-Decides k (string_bytes p.0)).1 same) ∙ h))) ∙ found)

  named-put_all : (ps : List Entry) (ds : Members) (d : Data) → get_member k (put_all ds (map pair_view ps)) ≡ Some d
      → Named ⊎ (get_member k ds ≡ Some d)
  named-put_all [] ds d found = inr found
  named-put_all (p ∷ ps) ds d found =
      elim (named-put_all ps (put (string_bytes p.0) (view p.1) ds) d found) [ inl n ↦ inl n | inr f ↦ named-put p ds d f ]

-- what a map returns for its keys is what is found among the members
abbrev Finds : (String Global → Option Value) → Members → Type 0
Finds f ds = (q : String Global) → option_map view (f q) ≡ get_member (string_bytes q) ds

finds-put : (f : String Global → Option Value) (ds : Members) (p : Entry) → Finds f ds
    → Finds (update (eq_by_cmp string_cmp) f p.0 (Some p.1)) (put (string_bytes p.0) (view p.1) ds)
finds-put f ds p same q = by (eq_by_cmp string_cmp p.0 q) refl
  where
    by : (b : Bool) → eq_by_cmp string_cmp p.0 q ≡ b
        → option_map view (cond b (Some p.1) (f q)) ≡ get_member (string_bytes q) (put (string_bytes p.0) (view p.1) ds)
    by true h =
        let here : string_bytes p.0 ≡ string_bytes q =
        (bytes_eq-Decides (string_bytes p.0) (string_bytes q)).0 (sym (is_eq-slice_cmp (string_bytes p.0) (string_bytes q)) ∙ h) in
        sym (get_member-put (string_bytes p.0) (view p.1) ds)
        ∙ ap (λ n. get_member n (put (string_bytes p.0) (view p.1) ds)) here
    by false h = same q ∙ sym (get_member-put_other (string_bytes q) (string_bytes p.0) (view p.1) ds
        (λ here. true≢false (sym (is_eq-slice_cmp (string_bytes p.0) (string_bytes q)
        ∙ (bytes_eq-Decides (string_bytes p.0) (string_bytes q)).1 (sym here)) ∙ h)))

finds-all : (f : String Global → Option Value) (ds : Members) (ps : List Entry) → Finds f ds
    → Finds (update_all (eq_by_cmp string_cmp) f ps) (put_all ds (map pair_view ps))
finds-all f ds [] same = same
finds-all f ds (p ∷ ps) same = finds-all (update (eq_by_cmp string_cmp) f p.0 (Some p.1))
    (put (string_bytes p.0) (view p.1) ds) ps (finds-put f ds p same)

-- a map that `from_iter` made from pairs holds them as if they were put one after another
pub made_of_pairs : (ps : List Entry) (m : BTreeMap (String Global) Value) → IsFromIterResult string_cmp ps m
    → members_view m.entries ≡ put_all no_members (map pair_view ps)
made_of_pairs ps m made =
    let es = members_view m.entries in
    let ds = put_all no_members (map pair_view ps) in
    let same : (q : String Global) → get_member (string_bytes q) es ≡ get_member (string_bytes q) ds =
    λ q. sym (view-lookup (string_bytes q) m.entries) ∙ ap (option_map view) (made.0 q)
    ∙ finds-all (λ r. None) no_members ps (λ r. refl) q in
    let within : Within es ds = λ k d found.
    let n = named-view k m.entries d found in
    ap (λ l. get_member l ds) n.1 ∙ sym (same n.0) ∙ ap (λ l. get_member l es) (sym n.1) ∙ found in
    let covers : Within ds es = λ k d found.
    elim (named-put_all k ps no_members d found) [
      | inl n ↦ ap (λ l. get_member l es) n.1 ∙ same n.0 ∙ ap (λ l. get_member l ds) (sym n.1) ∙ found
      | inr f ↦ cc
    ] in
    let o = InOrder-view m.entries made.1 in
    let p = InOrder-put_all (map pair_view ps) no_members tt in
    (fits es ds o p within).same (fits ds es p o covers).fewer

-- so it holds the members that the pairs were made of
pub members_of_pairs : {E : Type 0} (r : Result (BTreeMap (String Global) Value) E) (ps : List Entry)
    (ms : List (List ℕ × Tree)) → map pair_view ps ≡ map pair_data ms
    → IfOk r (λ m. members_view m.entries ≡ put_all no_members (map pair_view ps))
    → IfOk r (λ m. members_view m.entries ≡ members_data (members_of ms) no_members)
members_of_pairs r ps ms made = IfOk-weaker r (λ m. members_view m.entries ≡ put_all no_members (map pair_view ps)) _
    (λ m h. h ∙ ap (put_all no_members) made ∙ sym (members_data-put_all ms no_members))
