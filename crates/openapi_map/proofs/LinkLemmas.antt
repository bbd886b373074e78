-- Links: where they lead, and what they become as names are appended and removed.
use Rattle.std.proofs.Common.{◌≡◌, ◌≢◌, ℕ, zero, suc, ◌+◌, ◌-◌, ◌<◌, ◌≤◌, Bool, true, false, cond, eqb, List, [], ◌∷◌}
use Rattle.std.proofs.Common.{◌++◌, length, get_or, remove, refl, sym, ap, subst, ◌∙◌, arith, true≢false}
use Rattle.std.proofs.Math.ListN.{get_or-append}
use Rattle.std.proofs.Math.Seq.{get_or-append_seam}
use Rattle.std.proofs.lemmas.Bool.{eqb-true, eq-eqb}
use Rattle.std.proofs.lemmas.Bool.Decides.{eqb_tells, nat_tests}
use Rattle.std.proofs.lemmas.List.Edits.{get_or-remove_below, get_or-remove_above}
use mathlib.Core.Logic.{inl, inr}
use Rattle.openapi_map.specs.Index.{bucket, falls_into, link_at, moved_link}

-- ---- a link when the place `i` is removed, whose own link was `before`
module _ (i before : ℕ) where
  -- it stays the same if it leads to a place before `i`, or to none
  pub moved-low : (link : ℕ) → link ≤ i → moved_link i before link ≡ link
  moved-low link low = grind (arith, nat_tests)

  moved-here : moved_link i before (suc i) ≡ before
  moved-here = grind (arith, nat_tests)

  moved-high : (link : ℕ) → suc i < link → moved_link i before link ≡ link - 1
  moved-high link high = grind (arith, nat_tests)

-- ---- the links of bucket `b`, out of `n` buckets
module _ (n b : ℕ) where
  -- lists with the same names below `k` have the same link there
  pub link_at-same : (ms ns : List (List ℕ)) (k : ℕ) → ((j : ℕ) → j < k → get_or ms j [] ≡ get_or ns j [])
      → link_at n b ms k ≡ link_at n b ns k
  unfolding link_at
  link_at-same ms ns zero same = refl
  link_at-same ms ns (suc k) same =
      let here = same k (omega arith) in
      let below = link_at-same ms ns k (λ j h. same j (omega (arith, h))) in
      λ i. cond (eqb (bucket n (here i)) b) (suc k) (below i)

  -- a link below `k` leads to a name of the bucket, and none after that one falls into it
  pub record Leads (ns : List (List ℕ)) (k link : ℕ) : Type 0 where
    pub le : link ≤ k
    pub there : (p : ℕ) → link ≡ p + 1 → bucket n (get_or ns p []) ≡ b
    pub none : (p : ℕ) → link ≤ p → p < k → bucket n (get_or ns p []) ≢ b

  here : (ns : List (List ℕ)) (k : ℕ) → bucket n (get_or ns k []) ≡ b → Leads ns (suc k) (suc k)
  here ns k falls = record {
    le = omega arith;
    there = λ p h. let same : p ≡ k = omega (arith, h) in ap (λ j. bucket n (get_or ns j [])) same ∙ falls;
    none = λ p h l. absurd (omega (arith, h, l));
  }

  past : (ns : List (List ℕ)) (k link : ℕ) → bucket n (get_or ns k []) ≢ b → Leads ns k link → Leads ns (suc k) link
  past ns k link other leads = record {
    le = omega (arith, leads.le);
    there = leads.there;
    none = λ p h l. elim (eqb_tells p k) [
      | inl same ↦ λ e. other (ap (λ j. bucket n (get_or ns j [])) (sym same.1) ∙ e)
      | inr apart ↦ leads.none p h (omega (arith, l, apart.1))
    ];
  }

  -- the link below `k` leads to the last name below `k` that is in the bucket, if there is one
  pub link_at-Leads : (ns : List (List ℕ)) (k : ℕ) → Leads ns k (link_at n b ns k)
  unfolding link_at
  link_at-Leads ns zero = record {
    le = omega arith;
    there = λ p h. absurd (omega (arith, h));
    none = λ p h l. absurd (omega (arith, l));
  }
  link_at-Leads ns (suc k) = by (falls_into n b ns k) refl (link_at-Leads ns k)
    where
      by : (t : Bool) → falls_into n b ns k ≡ t → Leads ns k (link_at n b ns k)
          → Leads ns (suc k) (cond t (suc k) (link_at n b ns k))
      by true e leads = here ns k (eqb-true _ _ e)
      by false e leads = past ns k _ (λ q. true≢false (sym (eq-eqb _ _ q) ∙ e)) leads

  -- a name that is appended changes only the link of its own bucket
  pub link_at-push : (ns : List (List ℕ)) (name : List ℕ) → link_at n b (ns ++ name ∷ []) (suc (length ns))
      ≡ cond (eqb (bucket n name) b) (suc (length ns)) (link_at n b ns (length ns))
  unfolding link_at
  link_at-push ns name =
      let last = get_or-append_seam ns name [] [] in
      let below = link_at-same (ns ++ name ∷ []) ns (length ns) (λ j h. get_or-append ns (name ∷ []) [] j h) in
      λ i. cond (eqb (bucket n (last i)) b) (suc (length ns)) (below i)

  -- a place that is removed leaves the links below it as they are
  pub link_at-below : (ns : List (List ℕ)) (i k : ℕ) → i < length ns → k ≤ i
      → link_at n b (remove ns i) k ≡ link_at n b ns k
  link_at-below ns i k within low =
      link_at-same (remove ns i) ns k (λ j h. get_or-remove_below ns i [] j (omega (arith, h)) within)

  -- the links above it are moved
  module _ (ns : List (List ℕ)) (i before : ℕ) (within : i < length ns)
      (led : before ≡ link_at n (bucket n (get_or ns i [])) ns i) where
    first : (t : Bool) → falls_into n b ns i ≡ t
        → link_at n b (remove ns i) i ≡ moved_link i before (cond t (suc i) (link_at n b ns i))
    first true e =
        link_at-below ns i i within (omega arith)
        ∙ sym (moved-here i before ∙ led ∙ ap (λ c. link_at n c ns i) (eqb-true _ _ e))
    first false e =
        link_at-below ns i i within (omega arith) ∙ sym (moved-low i before _ (link_at-Leads ns i).le)

    step : (k link : ℕ) (t : Bool) → i ≤ k
        → cond t (suc k) (moved_link i before link) ≡ moved_link i before (cond t (suc (suc k)) link)
    step k link true low = sym (moved-high i before (suc (suc k)) (omega (arith, low)) ∙ omega arith)
    step k link false low = refl

    -- for each `k` from place `i` on, the link below `k` is then the one that was below `k + 1`, moved
    pub link_at-moved : (k : ℕ) → i ≤ k
        → link_at n b (remove ns i) k ≡ moved_link i before (link_at n b ns (suc k))
    unfolding link_at
    link_at-moved zero low =
        let at : i ≡ 0 = omega (arith, low) in
        subst (λ k. link_at n b (remove ns i) k ≡ moved_link i before (link_at n b ns (suc k))) at
        (first (falls_into n b ns i) refl)
    link_at-moved (suc k) low = elim (eqb_tells i (suc k)) [
      | inl at ↦
          subst (λ k. link_at n b (remove ns i) k ≡ moved_link i before (link_at n b ns (suc k))) at.1
          (first (falls_into n b ns i) refl)
      | inr other ↦
          let above : i ≤ k = omega (arith, low, other.1) in
          let name : get_or (remove ns i) k [] ≡ get_or ns (suc k) [] =
          get_or-remove_above ns i [] k above within ∙ ap (λ j. get_or ns j []) (omega arith) in
          (λ j. cond (eqb (bucket n (name j)) b) (suc k) (link_at-moved k above j))
          ∙ step k (link_at n b ns (suc k)) (falls_into n b ns (suc k)) above
    ]
