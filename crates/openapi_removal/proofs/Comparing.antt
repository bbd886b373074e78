-- A value compared with another one, which is to be that value without some members, from the last item or member on.
use Rattle.std.proofs.Common.{◌≡◌, ℕ, zero, suc, ◌+◌, ◌<◌, Bool, true, false, cond, List, [], ◌∷◌, Option, Some, None, length, get_or, drop, map}
use Rattle.std.proofs.Common.{refl, sym, ap, subst, ◌∙◌, arith, add-one}
use Rattle.std.proofs.lemmas.List.{drop_more}
use Rattle.std.specs.Borrow.{Bor}
use Rattle.std.specs.Global.{Vec}
use Rattle.json.specs.Json.{item, member}
use Rattle.json.specs.Value.{items_view, members_view, value_view}
use Rattle.json.specs.declared.value.Value.{Value}
use Rattle.openapi_node.specs.Place.{Place, indexed, named}
use Rattle.openapi_node.specs.declared.fault.PlaceStep.{PlaceStep}
use Rattle.openapi_faults.specs.Without.{has_root, inside}
use Rattle.openapi_removal.specs.Plans.{plan, planned, plans}
use Rattle.openapi_removal.specs.Without.{below, items_without, json_without, members_without}
use Rattle.openapi_removal.proofs.Planning.{from_member}

-- the items from an index on are the item at it and those after it
from_item : {A : Type 0} (vs : List (Value A)) (i : ℕ) (v : Value A) → i < length vs → v ≡ get_or vs i v
    → items_view (drop i vs) ≡ item (value_view v) (items_view (drop (i + 1) vs))
from_item vs i v within is =
    ap items_view (drop_more vs i v within) ∙ ap (λ w. item (value_view w) (items_view (drop (i + 1) vs))) (sym is)

-- one more item, before those that were compared, is without the members
pub next_item : {A : Type 0} (ps : List Place) (vs fs : List (Value A)) (i j : ℕ) (v f : Value A) → j ≡ i + 1 → i < length vs → i < length fs
    → v ≡ get_or vs i v → f ≡ get_or fs i f → value_view f ≡ json_without (inside (indexed i) ps) (value_view v)
    → items_view (drop j fs) ≡ items_without ps j (items_view (drop j vs))
    → items_view (drop i fs) ≡ items_without ps i (items_view (drop i vs))
next_item ps vs fs i j v f next at_v at_f is_v is_f here rest =
    let later : items_view (drop (i + 1) fs) ≡ items_without ps (i + 1) (items_view (drop (i + 1) vs)) =
    subst (λ k. items_view (drop k fs) ≡ items_without ps k (items_view (drop k vs))) next rest in
    from_item fs i f at_f is_f ∙ (λ t. item (here t) (later t))
    ∙ ap (λ k. item (json_without (inside (indexed i) ps) (value_view v)) (items_without ps k (items_view (drop (i + 1) vs)))) (add-one i)
    ∙ sym (ap (items_without ps i) (from_item vs i v at_v is_v))

-- the plan of a member is the one at its index
pub plan_at : {A : Type 0} (ps : List Place) (ms : List (Bor (List ℕ) × Value A)) (vs : List (Option (Vec (Bor (List PlaceStep))))) (i : ℕ)
    (m : Bor (List ℕ) × Value A) (p : Option (Vec (Bor (List PlaceStep)))) → map planned vs ≡ plans ps (members_view ms) → i < length ms
    → m ≡ get_or ms i m → p ≡ get_or vs i p → planned p ≡ plan ps m.0.now (members_view (drop (suc i) ms))
plan_at ps [] vs i m p all within is_m is_p = absurd (omega (arith, within))
plan_at ps (n ∷ ms) [] i m p all within is_m is_p = cc
plan_at ps (n ∷ ms) (v ∷ vs) zero m p all within is_m is_p =
    let first : planned v ≡ plan ps n.0.now (members_view ms) = cc in
    ap planned is_p ∙ first ∙ ap (λ l. plan ps l.0.now (members_view ms)) (sym is_m)
plan_at ps (n ∷ ms) (v ∷ vs) (suc i) m p all within is_m is_p =
    let rest : map planned vs ≡ plans ps (members_view ms) = cc in
    plan_at ps ms vs i m p rest (omega (arith, within)) is_m is_p

-- there is an element at an index
pub there : {X : Type 0} (xs : List X) (i : ℕ) → i < length xs → (x : X) × (x ≡ get_or xs i x)
there [] i within = absurd (omega (arith, within))
there (x ∷ xs) zero within = (x, refl)
there (x ∷ xs) (suc i) within = there xs i (omega (arith, within))

-- a member whose plan is `None` is removed
goes : (r : Bool) (b : List Place) → None ≡ cond r None (Some b) → r ≡ true
goes true b is = refl
goes false b is = cc

-- a member with another plan stays
stays : (r : Bool) (b q : List Place) → Some q ≡ cond r None (Some b) → (r ≡ false) × (b ≡ q)
stays true b q is = cc
stays false b q is = (refl, cc)

module _ {A : Type 0} (ps : List Place) (ms fs : List (Bor (List ℕ) × Value A)) where
  pub next_removed : (i j r : ℕ) (m : Bor (List ℕ) × Value A) → j ≡ i + 1 → i < length ms → m ≡ get_or ms i m
      → None ≡ plan ps m.0.now (members_view (drop j ms)) → members_view (drop r fs) ≡ members_without ps (members_view (drop j ms))
      → members_view (drop r fs) ≡ members_without ps (members_view (drop i ms))
  next_removed i j r m next within is none rest =
      let later = members_view (drop j ms) in
      rest
      ∙ sym (ap (members_without ps) (from_member ps ms i j m next within is)
      ∙ ap (λ b. cond b (members_without ps later) (member m.0.now (json_without (below ps m.0.now later) (value_view m.1)) (members_without ps later)))
      (goes (has_root (inside (named m.0.now) ps)) (below ps m.0.now later) none))

  pub next_kept : (i j r s : ℕ) (m f : Bor (List ℕ) × Value A) (q : List Place) → j ≡ i + 1 → i < length ms → m ≡ get_or ms i m
      → s ≡ r + 1 → r < length fs → f ≡ get_or fs r f → Some q ≡ plan ps m.0.now (members_view (drop j ms)) → f.0.now ≡ m.0.now
      → value_view f.1 ≡ json_without q (value_view m.1) → members_view (drop s fs) ≡ members_without ps (members_view (drop j ms))
      → members_view (drop r fs) ≡ members_without ps (members_view (drop i ms))
  next_kept i j r s m f q next within is more found is_f kept same here rest =
      let later = members_view (drop j ms) in
      let stay = stays (has_root (inside (named m.0.now) ps)) (below ps m.0.now later) q kept in
      from_member ps fs r s f more found is_f ∙ (λ t. member (same t) (here t) (rest t))
      ∙ ap (λ qs. member m.0.now (json_without qs (value_view m.1)) (members_without ps later)) (sym stay.1)
      ∙ sym (ap (members_without ps) (from_member ps ms i j m next within is)
      ∙ ap (λ b. cond b (members_without ps later) (member m.0.now (json_without (below ps m.0.now later) (value_view m.1)) (members_without ps later)))
      stay.0)
