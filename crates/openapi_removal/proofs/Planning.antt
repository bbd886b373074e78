-- The plans of members, from the last member on.
use Rattle.std.proofs.Common.{◌≡◌, ℕ, ◌+◌, ◌<◌, ◌&&◌, Bool, true, false, not, cond, List, [], ◌∷◌, ◌++◌, Option, Some, None, is_some}
use Rattle.std.proofs.Common.{length, get_or, drop, map, refl, sym, ap, ◌∙◌}
use Rattle.std.proofs.lemmas.List.{drop_more, reverse-append}
use Rattle.std.specs.Borrow.{Bor}
use Rattle.std.specs.Global.{Vec}
use Rattle.std.specs.Prelude.{reverse}
use Rattle.std.specs.Str.{bytes_eq}
use Rattle.json.specs.Find.{get_member, later_or}
use Rattle.json.specs.Json.{Json, Members, member}
use Rattle.json.specs.Value.{members_view, value_view}
use Rattle.json.specs.declared.value.Value.{Value}
use Rattle.openapi_node.specs.Place.{Place, named}
use Rattle.openapi_node.specs.declared.fault.PlaceStep.{PlaceStep}
use Rattle.openapi_faults.specs.Without.{has_root, inside}
use Rattle.openapi_removal.specs.Plans.{left_for, plan, plan_by, planned, plans}

-- with no member after it, all locations in a member are left
pub all_left : (ps : List Place) (n : List ℕ) → inside (named n) ps ≡ cond (has_root (inside (named n) ps)) (inside (named n) ps) (inside (named n) ps)
all_left ps n = by (has_root (inside (named n) ps))
  where
    by : (r : Bool) → inside (named n) ps ≡ cond r (inside (named n) ps) (inside (named n) ps)
    by true = refl
    by false = refl

-- what is left after the plan of a member is made
module _ (ps : List Place) (m : List ℕ) (j : Json) (ms : Members) (f g : List ℕ → List Place) where
  pub next_left : ((n : List ℕ) → f n ≡ left_for ps ms n)
      → ((n : List ℕ) → g n ≡ cond (bytes_eq m n && not (has_root (f n))) [] (f n)) → (n : List ℕ) → g n ≡ left_for ps (member m j ms) n
  next_left left taken n =
      taken n ∙ ap (λ qs. cond (bytes_eq m n && not (has_root qs)) [] qs) (left n)
      ∙ by (has_root (inside (named n) ps)) refl (bytes_eq m n) (get_member n ms)
    where
      by : (r : Bool) → has_root (inside (named n) ps) ≡ r → (e : Bool) (o : Option Json)
          → cond (e && not (has_root (cond r (inside (named n) ps) (cond (is_some o) [] (inside (named n) ps))))) []
          (cond r (inside (named n) ps) (cond (is_some o) [] (inside (named n) ps)))
          ≡ cond r (inside (named n) ps) (cond (is_some (later_or o (cond e (Some j) None))) [] (inside (named n) ps))
      by true is true o = ap (λ b. cond (not b) [] (inside (named n) ps)) is
      by true is false o = refl
      by false is true (Some k) = refl
      by false is false (Some k) = refl
      by false is true None = ap (λ b. cond (not b) [] (inside (named n) ps)) is
      by false is false None = refl

-- the plan of a member, by what is left for its name
pub plan_left : (ps : List Place) (m : List ℕ) (ms : Members) (f : List ℕ → List Place) → ((n : List ℕ) → f n ≡ left_for ps ms n)
    → plan_by (f m) ≡ plan ps m ms
plan_left ps m ms f left = ap plan_by (left m) ∙ by (has_root (inside (named m) ps)) refl (is_some (get_member m ms))
  where
    by : (r : Bool) → has_root (inside (named m) ps) ≡ r → (s : Bool)
        → plan_by (cond r (inside (named m) ps) (cond s [] (inside (named m) ps))) ≡ cond r None (Some (cond s [] (inside (named m) ps)))
    by true is s = ap (λ b. cond b None (Some (inside (named m) ps))) is
    by false is true = refl
    by false is false = ap (λ b. cond b None (Some (inside (named m) ps))) is

module _ {A : Type 0} (ps : List Place) (ms : List (Bor (List ℕ) × Value A)) where
  -- the members from an index on are the member at it and those after it
  pub from_member : (i j : ℕ) (m : Bor (List ℕ) × Value A) → j ≡ i + 1 → i < length ms → m ≡ get_or ms i m
      → members_view (drop i ms) ≡ member m.0.now (value_view m.1) (members_view (drop j ms))
  from_member i j m next within is =
      ap members_view (drop_more ms i m within) ∙ ap (λ n. member n.0.now (value_view n.1) (members_view (drop (i + 1) ms))) (sym is)
      ∙ ap (λ k. member m.0.now (value_view m.1) (members_view (drop k ms))) (sym next)

  -- one more plan, before those of the later members
  pub next_plan : (i j : ℕ) (m : Bor (List ℕ) × Value A) (p : Option (Vec (Bor (List PlaceStep)))) (vs ws : List (Option (Vec (Bor (List PlaceStep)))))
      → j ≡ i + 1 → i < length ms → m ≡ get_or ms i m → ws ≡ vs ++ p ∷ []
      → planned p ≡ plan ps m.0.now (members_view (drop j ms)) → map planned (reverse vs) ≡ plans ps (members_view (drop j ms))
      → map planned (reverse ws) ≡ plans ps (members_view (drop i ms))
  next_plan i j m p vs ws next within is more one rest =
      ap (λ us. map planned (reverse us)) more ∙ ap (map planned) (reverse-append vs (p ∷ []))
      ∙ (λ t. one t ∷ rest t) ∙ sym (ap (plans ps) (from_member i j m next within is))
