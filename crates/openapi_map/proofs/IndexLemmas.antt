-- The index: what it is after a name is appended or removed, and what a lookup in it finds.
use Rattle.std.proofs.Common.{◌≡◌, ◌≢◌, ℕ, suc, ◌+◌, ◌-◌, ◌<◌, ◌≤◌, Bool, true, false, cond, eqb, nat_lt, List, [], ◌∷◌}
use Rattle.std.proofs.Common.{◌++◌, length, get_or, set, remove, replicate, position, Some, None, Vec}
use Rattle.std.proofs.Common.{vec_len, slice_index, refl, sym, ap, subst, ◌∙◌, arith, true≢false, get_or-set_other}
use Rattle.std.proofs.lemmas.Bool.{cases_lt, eqb-true, eq-eqb, lt-ltb}
use Rattle.std.proofs.lemmas.Bool.Decides.{eqb_tells, nat_tests}
use Rattle.std.proofs.lemmas.Grind.{get_or-set_at}
use Rattle.std.proofs.lemmas.List.Edits.{get_or-remove_below, get_or-remove_above, length-remove}
use Rattle.std.proofs.lemmas.List.Sums.{position_or_len_is}
use Rattle.std.proofs.lemmas.Map.Keys.{IsDistinct-push, apart_from_distinct}
use Rattle.std.proofs.lemmas.Slice.Eq.{bytes_eq-Decides}
use Rattle.std.proofs.Math.ListN.{get_or-append}
use Rattle.std.proofs.Math.Seq.{get_or-append_seam}
use Rattle.std.proofs.lemmas.List.{length-append, get_or-replicate, map-append}
use Rattle.std.specs.Cmp.Lexicographic.{nat_list_eq_equiv}
use Rattle.std.specs.List.{IsDistinct, position_or_len}
use Rattle.std.specs.Str.{bytes_eq}
use Rattle.std.specs.Vec.{with_item}
use Rattle.std.specs.declared.alloc.Global.{Global}
use mathlib.Core.Logic.{inl, inr}
use Rattle.openapi_map.specs.Entries.{Entries, get, HasDistinctNames}
use Rattle.std.specs.Map.{keys_of}
use Rattle.openapi_map.specs.Index.{bucket, link_at, moved_link, HasPlace, IsIndex, IsIndexAt}
use Rattle.openapi_map.specs.declared.index.NameIndex.{NameIndex}
use Rattle.openapi_map.specs.declared.lookup.Finder.{Finder}
use Rattle.openapi_map.specs.declared.lookup.Finder.TheVariants.{Few, Many}
use Rattle.openapi_map.proofs.EntryLemmas.{none-among}
use Rattle.openapi_map.proofs.LinkLemmas.{link_at-same, link_at-push, link_at-moved, link_at-below, Leads}
use Rattle.openapi_map.proofs.LinkLemmas.{link_at-Leads, moved-low}

-- ---- names that are distinct
pub distinct-nil : IsDistinct bytes_eq []
unfolding IsDistinct
distinct-nil = tt

-- names stay distinct if one that the map lacks is appended
pub distinct-names : {V : Type 0} (name : List ℕ) (m : Entries V) (v : V) → HasDistinctNames m → get name m ≡ None
    → HasDistinctNames (m ++ (name, v) ∷ [])
distinct-names name m v distinct absent =
    subst (IsDistinct bytes_eq) (sym (map-append (λ x. x.0) m ((name, v) ∷ [])))
    (IsDistinct-push nat_list_eq_equiv (keys_of m) name distinct (none-among name m absent))

-- ---- a name is appended
module _ (names : List (List ℕ)) (name : List ℕ) (index : NameIndex) (is : IsIndex names index) where
  abbrev n : ℕ
  n = vec_len index.heads

  abbrev longer : List (List ℕ)
  longer = names ++ name ∷ []

  length-longer : length longer ≡ suc (length names)
  length-longer = omega (arith, length-append names (name ∷ []))

  -- the links below the new place are as they were
  below : (b k : ℕ) → k ≤ length names → link_at n b longer k ≡ link_at n b names k
  below b k h = link_at-same n b longer names k (λ j l. get_or-append names (name ∷ []) [] j (omega (arith, h, l)))

  module _ (b last : ℕ) (falls : b ≡ bucket n name) (within : b < n) (counts : last ≡ length names + 1) where
    chosen : (c : ℕ) → c < n → slice_index (set index.heads.items b last) c
        ≡ cond (eqb b c) (suc (length names)) (link_at n c names (length names))
    chosen c h = by (eqb b c) refl
      where
        by : (t : Bool) → eqb b c ≡ t → slice_index (set index.heads.items b last) c
            ≡ cond t (suc (length names)) (link_at n c names (length names))
        by true e =
            let at : c ≡ b = sym (eqb-true b c e) in
            get_or-set_at index.heads.items b c last 0 at (omega (arith, within, index.heads.ok.0)) ∙ omega (arith, counts)
        by false e =
            let apart : c ≢ b = λ q. true≢false (sym (eq-eqb b c (sym q)) ∙ e) in
            get_or-set_other index.heads.items b c last 0 apart ∙ is.heads c h

    heads-push : (c : ℕ) → c < n → slice_index (set index.heads.items b last) c ≡ link_at n c longer (length longer)
    heads-push c h =
        chosen c h ∙ ap (λ x. cond (eqb x c) (suc (length names)) (link_at n c names (length names))) falls
        ∙ sym (ap (link_at n c longer) length-longer ∙ link_at-push n c names name)

    next-push : (link p : ℕ) → link ≡ slice_index index.heads.items b → p < length longer
        → slice_index (index.next.items ++ link ∷ []) p ≡ link_at n (bucket n (get_or longer p [])) longer p
    next-push link p read h = elim (eqb_tells p (length names)) [
      | inl at ↦
          let here : get_or longer p [] ≡ name =
          ap (λ j. get_or longer j []) at.1 ∙ get_or-append_seam names name [] [] in
          let place : p ≡ length index.next.items = omega (arith, at.1, is.len, index.next.ok.0) in
          ap (slice_index (index.next.items ++ link ∷ [])) place ∙ get_or-append_seam index.next.items link [] 0
          ∙ read ∙ is.heads b within ∙ sym (below b (length names) (omega arith))
          ∙ (λ j. link_at n ((falls ∙ ap (bucket n) (sym here)) j) longer (sym at.1 j))
      | inr other ↦
          let low : p < length names = omega (arith, h, other.1, length-longer) in
          get_or-append index.next.items (link ∷ []) 0 p (omega (arith, low, is.len, index.next.ok.0)) ∙ is.next p low
          ∙ sym (below _ p (omega (arith, low)))
          ∙ ap (λ x. link_at n (bucket n x) longer p) (sym (get_or-append names (name ∷ []) [] p low))
    ]

    -- the index of the longer list: the new place is the last of its bucket, and its link leads to the place that was the
    -- last before
    pub IsIndex-push : (link : ℕ) (next : Vec ℕ Global) → link ≡ slice_index index.heads.items b
        → next.items ≡ index.next.items ++ link ∷ [] → vec_len next ≡ vec_len index.next + 1
        → IsIndex longer (record { heads = with_item index.heads b last; next = next })
    IsIndex-push link next read items len = record {
      some_bucket = is.some_bucket;
      heads = heads-push;
      len = omega (arith, len, is.len, length-longer);
      next = λ p h. ap (λ xs. slice_index xs p) items ∙ next-push link p read h;
    }

-- ---- a place is removed
module _ (names : List (List ℕ)) (index : NameIndex) (is : IsIndex names index) (i : ℕ) (within : i < length names) where
  abbrev buckets : ℕ
  buckets = vec_len index.heads

  abbrev before : ℕ
  before = slice_index index.next.items i

  led : before ≡ link_at buckets (bucket buckets (get_or names i [])) names i
  led = is.next i within

  -- each link is moved
  moved-all : (b : ℕ) (k link : ℕ) → i < k → link ≡ link_at buckets b names k
      → moved_link i before link ≡ link_at buckets b (remove names i) (k - 1)
  moved-all b k link above known =
      let up : suc (k - 1) ≡ k = omega (arith, above) in
      ap (moved_link i before) (known ∙ ap (link_at buckets b names) (sym up))
      ∙ sym (link_at-moved buckets b names i before within led (k - 1) (omega (arith, above)))

  abbrev left : List (List ℕ)
  left = remove names i

  all-left : length names - 1 ≡ length left
  all-left = omega (arith, length-remove names i within)

  next-left : (p : ℕ) → p < length left → moved_link i before (slice_index (remove index.next.items i) p)
      ≡ link_at buckets (bucket buckets (get_or left p [])) left p
  next-left p h =
      let there : i < length index.next.items = omega (arith, within, is.len, index.next.ok.0) in
      elim (cases_lt p i) [
        | inl low ↦
            let b = bucket buckets (get_or names p []) in
            ap (moved_link i before) (get_or-remove_below index.next.items i 0 p low there ∙ is.next p (omega (arith, low, within)))
            ∙ moved-low i before (link_at buckets b names p) (omega (arith, (link_at-Leads buckets b names p).le, low))
            ∙ sym (link_at-below buckets b names i p within (omega (arith, low)))
            ∙ ap (λ x. link_at buckets (bucket buckets x) left p) (sym (get_or-remove_below names i [] p low within))
        | inr high ↦
            let b = bucket buckets (get_or names (p + 1) []) in
            ap (moved_link i before) (get_or-remove_above index.next.items i 0 p high there)
            ∙ moved-all b (p + 1) (slice_index index.next.items (p + 1)) (omega (arith, high))
            (is.next (p + 1) (omega (arith, h, all-left)))
            ∙ (λ j. link_at buckets (bucket buckets (sym (get_or-remove_above names i [] p high within) j)) left (down p j))
      ]
    where
      down : (p : ℕ) → p + 1 - 1 ≡ p
      down p = omega arith

  -- if all links that are left are moved, the result is an index of the names that are left
  pub IsIndex-remove : (heads next : Vec ℕ Global) → vec_len heads ≡ buckets → vec_len next + 1 ≡ vec_len index.next
      → ((b : ℕ) → b < length heads.items
      → slice_index heads.items b ≡ moved_link i before (slice_index index.heads.items b))
      → ((p : ℕ) → p < length next.items
      → slice_index next.items p ≡ moved_link i before (slice_index (remove index.next.items i) p))
      → IsIndex (remove names i) (record { heads = heads; next = next })
  IsIndex-remove heads next same less heads-moved next-moved = record {
    some_bucket = omega (arith, is.some_bucket, same);
    heads = λ b h. heads-moved b (omega (arith, h, heads.ok.0))
        ∙ moved-all b (length names) (slice_index index.heads.items b) within (is.heads b (omega (arith, h, same)))
        ∙ (λ j. link_at (sym same j) b left (all-left j));
    len = omega (arith, less, is.len, length-remove names i within);
    next = λ p h. next-moved p (omega (arith, h, less, is.len, length-remove names i within, next.ok.0))
        ∙ next-left p h ∙ (λ j. link_at (sym same j) (bucket (sym same j) (get_or left p [])) left p);
  }

-- an index has a link for each place
pub linked : (names : List (List ℕ)) (found : Finder) (i : ℕ) → IsIndexAt names found → i < length names → HasPlace i found
linked names (Few marks) i is within = tt
linked names (Many b) i is within = omega (arith, is.len, within)

-- ---- an index of no names
pub IsIndex-none : (heads next : Vec ℕ Global) (n : ℕ) → heads.items ≡ replicate n 0 → vec_len heads ≡ n → 0 < n
    → vec_len next ≡ 0 → IsIndex [] (record { heads = heads; next = next })
unfolding link_at
IsIndex-none heads next n items len some none = record {
  some_bucket = omega (arith, len, some);
  heads = λ b h. ap (λ xs. slice_index xs b) items ∙ get_or-replicate n b 0 0 (omega (arith, h, len));
  len = none;
  next = λ p h. absurd (omega (arith, h));
}

-- ---- a lookup
module _ (name : List ℕ) (names : List (List ℕ)) where
  -- the progress: the link leads to a name of the same bucket, and the name is at none of the places after that one
  pub record Passed (n link : ℕ) : Type 0 where
    pub le : link ≤ length names
    pub there : (p : ℕ) → link ≡ p + 1 → bucket n (get_or names p []) ≡ bucket n name
    pub none : (p : ℕ) → link ≤ p → p < length names → bytes_eq name (get_or names p []) ≡ false

  -- a name of another bucket is another name
  apart : (n : ℕ) (other : List ℕ) → bucket n other ≢ bucket n name → bytes_eq name other ≡ false
  apart n other differ = by (bytes_eq name other) refl
    where
      by : (t : Bool) → bytes_eq name other ≡ t → t ≡ false
      by true e = absurd (differ (ap (bucket n) (sym ((bytes_eq-Decides name other).0 e))))
      by false e = refl

  from_Leads : (n k link : ℕ) → Leads n (bucket n name) names k link → k ≤ length names
      → ((p : ℕ) → k ≤ p → p < length names → bytes_eq name (get_or names p []) ≡ false) → Passed n link
  from_Leads n k link leads within rest = record {
    le = omega (arith, leads.le, within);
    there = leads.there;
    none = λ p h l. elim (cases_lt p k) [
      | inl low ↦ apart n (get_or names p []) (leads.none p h low)
      | inr high ↦ rest p high l
    ];
  }

  module _ (index : NameIndex) (is : IsIndex names index) where
    -- the lookup begins at the bucket of the name
    pub Passed-first : (b link : ℕ) → b ≡ bucket (vec_len index.heads) name → b < vec_len index.heads
        → link ≡ slice_index index.heads.items b → Passed (vec_len index.heads) link
    Passed-first b link falls within read =
        let n = vec_len index.heads in
        let leads = link_at-Leads n (bucket n name) names (length names) in
        let link_is = read ∙ is.heads b within ∙ ap (λ c. link_at n c names (length names)) falls in
        from_Leads n (length names) link (subst (Leads n (bucket n name) names (length names)) (sym link_is) leads)
        (omega arith) (λ p h l. absurd (omega (arith, h, l)))

    -- the link of a place leads to a place before it
    pub next-below : (p next : ℕ) → p < length names → next ≡ slice_index index.next.items p → next ≤ p
    next-below p next within read =
        let n = vec_len index.heads in
        let b = bucket n (get_or names p []) in
        omega (arith, read, is.next p within, (link_at-Leads n b names p).le)

    -- the lookup continues if the name at the place is another
    pub Passed-next : (p link next : ℕ) → Passed (vec_len index.heads) link → link ≡ p + 1
        → bytes_eq name (get_or names p []) ≡ false → next ≡ slice_index index.next.items p
        → Passed (vec_len index.heads) next
    Passed-next p link next passed at other read =
        let n = vec_len index.heads in
        let within : p < length names = omega (arith, passed.le, at) in
        let next_is = read ∙ is.next p within ∙ ap (λ c. link_at n c names p) (passed.there p at) in
        from_Leads n p next (subst (Leads n (bucket n name) names p) (sym next_is) (link_at-Leads n (bucket n name) names p))
        (omega (arith, within))
        (λ q h l. elim (cases_lt p q) [
          | inl high ↦ passed.none q (omega (arith, at, high)) l
          | inr low ↦ let same : p ≡ q = omega (arith, h, low) in subst (λ r. bytes_eq name (get_or names r []) ≡ false) same other
        ])

  -- the place that it finds is the place of the name
  pub position-found : (p : ℕ) → IsDistinct bytes_eq names → p < length names → bytes_eq name (get_or names p []) ≡ true
      → Some p ≡ position (bytes_eq name) names
  position-found p distinct within found =
      let same : name ≡ get_or names p [] = (bytes_eq-Decides name (get_or names p [])).0 found in
      let first : position_or_len (bytes_eq name) names ≡ p =
      position_or_len_is (bytes_eq name) names p [] (omega (arith, within))
      (λ k h. ap (λ x. bytes_eq x (get_or names k [])) same ∙ nat_list_eq_equiv.symm (get_or names p []) (get_or names k [])
      ∙ apart_from_distinct bytes_eq names k p [] distinct h within)
      (λ h. found) in
      sym (ap (λ t. cond t (Some p) None) (lt-ltb p (length names) within))
      ∙ ap (λ q. cond (nat_lt q (length names)) (Some q) None) (sym first)

  -- if each of the names is another one, there is no place
  pub none-position : ((k : ℕ) → k < length names → bytes_eq name (get_or names k []) ≡ false)
      → None ≡ position (bytes_eq name) names
  none-position apart =
      let end = length names in
      let none : position_or_len (bytes_eq name) names ≡ end =
      position_or_len_is (bytes_eq name) names end [] (omega arith) apart (λ h. absurd (omega (arith, h))) in
      let past : nat_lt end end ≡ false = grind (arith, nat_tests) in
      sym (ap (λ t. cond t (Some end) None) past)
      ∙ ap (λ q. cond (nat_lt q end) (Some q) None) (sym none)

  -- so there is no place if the lookup comes to an end
  pub position-none : (n link : ℕ) → Passed n link → link ≡ 0 → None ≡ position (bytes_eq name) names
  position-none n link passed at = none-position (λ k h. passed.none k (omega (arith, at)) h)
