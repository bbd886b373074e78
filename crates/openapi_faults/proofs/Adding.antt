-- What visits append to a list.
use Rattle.std.proofs.Common.{◌≡◌, List, [], ◌∷◌, ◌++◌, Result, Ok, OnOk, map, refl, sym, ap, ◌∙◌, subst, append_assoc}
use Rattle.std.proofs.lemmas.List.{append-nil}
use Rattle.openapi_tables.specs.Faults.{Asking}
use Rattle.openapi_tables.specs.Lists.{each, flat, join}
use Rattle.openapi_tables.proofs.ListLaws.{join-nil, join_assoc}
use Rattle.openapi_faults.specs.Adds.{Adds}
use Rattle.openapi_faults.specs.Walk.{Folds, Visits, moved, step_of}
use Rattle.openapi_faults.specs.declared.walk.Walk.{Walk}

-- `join` is the append of lists in std
pub join_append : {A : Type 0} → (xs ys : List A) → join xs ys ≡ xs ++ ys
join_append [] ys = refl
join_append (x ∷ xs) ys = ap (λ l. x ∷ l) (join_append xs ys)

-- with one more element, what `f` gives for it is at the end
pub flat-push : {A B : Type 0} → (f : A → List B) (xs : List A) (x : A)
    → flat (each f (xs ++ (x ∷ []))) ≡ join (flat (each f xs)) (f x)
flat-push f [] x = join-nil (f x)
flat-push f (y ∷ xs) x = ap (join (f y)) (flat-push f xs x) ∙ sym (join_assoc (f y) (flat (each f xs)) (f x))

module _ {X Y : Type 0} (f : X → Y) where
  pub adds_none : (xs : List X) → Adds f xs xs []
  adds_none xs = sym (append-nil (map f xs))

  pub adds_then : (xs ys zs : List X) (as' bs : List Y) → Adds f xs ys as' → Adds f ys zs bs → Adds f xs zs (as' ++ bs)
  adds_then xs ys zs as' bs p q = q ∙ ap (λ l. l ++ bs) p ∙ append_assoc (map f xs) as' bs

-- visits one after another append what each of them appends, in order
pub folds_add : {S X Y : Type 0} → (get : S → List X) (f : X → Y) (g : Asking → List Y) (as' : List Asking) (s u : S)
    → Folds (λ r a v. Adds f (get r) (get v) (g a)) s as' u → Adds f (get s) (get u) (flat (each g as'))
folds_add get f g [] s u h = subst (λ v. Adds f (get s) (get v) []) h (adds_none f (get s))
folds_add get f g (a ∷ as') s u h =
    subst (λ l. Adds f (get s) (get u) l) (sym (join_append (g a) (flat (each g as'))))
    (adds_then f (get s) (get h.0) (get u) (g a) (flat (each g as')) h.1 (folds_add get f g as' h.0 u h.2))

-- locations relative to the empty location are unchanged
pub moved_nil : (as' : List Asking) → moved [] as' ≡ as'
moved_nil [] = refl
moved_nil (a ∷ as') = ap (λ l. a ∷ l) (moved_nil as')

-- a walk that began at the empty location visited each element of the list, at its own location
pub walked : {V : Type 0} (R : V → Asking → V → Type 0) (as' : List Asking) (old new : Walk V) → old.place.items ≡ []
    → Visits R as' old new → Folds R old.visitor as' new.visitor
walked R as' old new e f =
    subst (λ l. Folds R old.visitor l new.visitor) (ap (λ s. moved (map step_of s) as') e ∙ moved_nil as') f.visits

-- what holds on success holds for a result that is `Ok`
pub at_ok : {A E : Type 0} (P : Type 0) (r : Result A E) (x : A) → r ≡ Ok x → OnOk r P → P
at_ok P r x e h = subst (λ s. OnOk s P) e h

-- visits that begin with an empty list append all that is in it afterwards
pub folds_all : {S X Y : Type 0} → (get : S → List X) (f : X → Y) (g : Asking → List Y) (as' : List Asking) (s u : S)
    → get s ≡ [] → Folds (λ r a v. Adds f (get r) (get v) (g a)) s as' u → map f (get u) ≡ flat (each g as')
folds_all get f g as' s u e h = folds_add get f g as' s u h ∙ ap (λ l. map f l ++ flat (each g as')) e
