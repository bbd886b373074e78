-- Visits one after another, and visits below a step.
use Rattle.std.proofs.Common.{◌≡◌, ℕ, ◌-◌, List, [], ◌∷◌, ◌++◌, refl, sym, ap, ◌∙◌, subst, append_assoc, arith, length, length-append, map, take}
use Rattle.std.proofs.lemmas.List.{append-nil, length-map, take-append-le, take-map, take_all}
use Rattle.openapi_node.specs.Place.{Place, Step}
use Rattle.openapi_tables.specs.Lists.{join}
use Rattle.openapi_node.specs.Tree.{Tree}
use Rattle.openapi_tables.specs.ByRow.{asking}
use Rattle.openapi_tables.specs.Faults.{Asking, below}
use Rattle.openapi_tables.specs.Kind.{Kind}
use Rattle.openapi_faults.specs.Walk.{Folds, Visits, moved, place_in}
use Rattle.openapi_faults.specs.declared.walk.Walk.{Walk}

pub folds_join : {S : Type 0} → (R : S → Asking → S → Type 0) (as' bs : List Asking) (s m u : S) → Folds R s as' m
    → Folds R m bs u → Folds R s (join as' bs) u
folds_join R [] bs s m u f g = subst (λ x. Folds R x bs u) (sym f) g
folds_join R (a ∷ as') bs s m u f g = (f.0, f.1, folds_join R as' bs f.0 m u f.2 g)

pub moved_join : (p : Place) (as' bs : List Asking) → moved p (join as' bs) ≡ join (moved p as') (moved p bs)
moved_join p [] bs = refl
moved_join p (a ∷ as') bs =
    ap (λ l. record { place = p ++ a.place; kind = a.kind; tree = a.tree } ∷ l) (moved_join p as' bs)

pub moved_below : (p : Place) (s : Step) (as' : List Asking) → moved p (below s as') ≡ moved (p ++ (s ∷ [])) as'
moved_below p s [] = refl
moved_below p s (a ∷ as') =
    ap (λ q. record { place = q; kind = a.kind; tree = a.tree } ∷ moved p (below s as')) (sym (append_assoc p (s ∷ []) a.place))
    ∙ ap (λ l. record { place = (p ++ (s ∷ [])) ++ a.place; kind = a.kind; tree = a.tree } ∷ l) (moved_below p s as')

module _ {V : Type 0} (R : V → Asking → V → Type 0) where
  -- a walk that visits one list and afterwards another visits both, joined
  pub visits_then : (as' bs : List Asking) (old mid new : Walk V) → Visits R as' old mid → Visits R bs mid new
      → Visits R (join as' bs) old new
  visits_then as' bs old mid new f g =
      record {
        visits = subst (λ l. Folds R old.visitor l new.visitor) (sym (moved_join (place_in old) as' bs))
            (folds_join R (moved (place_in old) as') (moved (place_in old) bs) old.visitor mid.visitor new.visitor f.visits
            (subst (λ p. Folds R mid.visitor (moved p bs) new.visitor) f.back g.visits));
        back = g.back ∙ f.back;
      }

  -- a walk that is unchanged visits the empty list
  pub visits_none : (old : Walk V) → Visits R [] old old
  visits_none old = record { visits = refl; back = refl }

  -- a walk that visits a list one step below visits it with that step before each location
  pub visits_below : (s : Step) (as' : List Asking) (old down up new : Walk V) → down.visitor ≡ old.visitor
      → place_in down ≡ place_in old ++ (s ∷ []) → Visits R as' down up → new.visitor ≡ up.visitor
      → place_in new ≡ place_in old → Visits R (below s as') old new
  visits_below s as' old down up new same deeper f still back =
      record {
        visits = subst (λ l. Folds R old.visitor l new.visitor) (sym (moved_below (place_in old) s as'))
            (subst (λ p. Folds R old.visitor (moved p as') new.visitor) deeper
            (subst (λ v. Folds R old.visitor (moved (place_in down) as') v) (sym still)
            (subst (λ v. Folds R v (moved (place_in down) as') up.visitor) same f.visits)));
        back = back;
      }

-- one visit at the location of a walk
pub visits_one : {V : Type 0} (R : V → Asking → V → Type 0) (k : Kind) (t : Tree) (old new : Walk V)
    → R old.visitor (asking (place_in old) k t) new.visitor → place_in new ≡ place_in old
    → Visits R (asking [] k t ∷ []) old new
visits_one R k t old new h back =
    record {
      visits = (
        new.visitor,
        subst (λ p. R old.visitor (asking p k t) new.visitor) (sym (append-nil (place_in old))) h,
        refl,
      );
      back = back;
    }

-- a list without its last element is as it was before that element was appended
pub popped : {X Y : Type 0} → (f : X → Y) (n : ℕ) (xs zs : List X) (ps : List Y) (p : Y) → length xs ≡ n
    → map f xs ≡ ps ++ (p ∷ []) → zs ≡ take (n - 1) xs → map f zs ≡ ps
popped f n xs zs ps p w e h =
    let l : length (map f xs) ≡ length (ps ++ (p ∷ [])) = ap length e in
    let m : n - 1 ≡ length ps = omega (arith, l, w, length-map xs f, length-append ps (p ∷ [])) in
    ap (map f) h ∙ sym (take-map f (n - 1) xs) ∙ ap (take (n - 1)) e
    ∙ ap (λ k. take k (ps ++ (p ∷ []))) m ∙ take-append-le (length ps) ps (p ∷ []) (omega arith) ∙ take_all (length ps) ps (omega arith)
