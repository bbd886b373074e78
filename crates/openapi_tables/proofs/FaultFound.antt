-- A requirement that is not met, and a node that does not conform.
use Rattle.std.proofs.Common.{Bool, false, List, [], ◌∷◌, ◌≡◌, refl, sym, ap, ◌∙◌, inl, inr, ⊎_elim}
use Rattle.std.proofs.lemmas.Bool.{and_cases, and_left, and_right}
use Rattle.openapi_tables.specs.Prelude.{every, is_empty, Cause, asked, causes, is_met, Among}
use Rattle.openapi_tables.specs.Laws.{Faults}
use Rattle.openapi_tables.proofs.FaultLaw.{conforms-asked}

among_full : {A : Type 0} → (x : A) (xs : List A) → Among x xs → is_empty xs ≡ false
among_full x [] h = absurd h
among_full x (y ∷ xs) h = refl

every_false : {A : Type 0} → (p : A → Bool) (x : A) (xs : List A) → Among x xs → p x ≡ false → every p xs ≡ false
every_false p x [] h e = absurd h
every_false p x (y ∷ xs) (inl q) e = and_left (p y) (every p xs) (ap p (sym q) ∙ e)
every_false p x (y ∷ xs) (inr h) e = and_right (p y) (every p xs) (every_false p x xs h e)

some_false : {A : Type 0} → (p : A → Bool) (xs : List A) → every p xs ≡ false → (x : A) × Among x xs × (p x ≡ false)
some_false p [] h = cc
some_false {A} p (y ∷ xs) h =
    ⊎_elim (λ (e : p y ≡ false). first e) (λ (e : every p xs ≡ false). later (some_false p xs e))
    (and_cases (p y) (every p xs) h)
  where
    first : p y ≡ false → (x : A) × Among x (y ∷ xs) × (p x ≡ false)
    first e = (y, inl refl, e)

    later : (x : A) × Among x xs × (p x ≡ false) → (x : A) × Among x (y ∷ xs) × (p x ≡ false)
    later r = (r.0, inr r.1, r.2)

first_cause : (cs : List Cause) → is_empty cs ≡ false → (c : Cause) × Among c cs
first_cause [] h = cc
first_cause (c ∷ cs) h = (c, inl refl)

-- a node does not conform if and only if some requirement in it is not met: the law `Faults`
pub faults : Faults
faults T k t W s = (
  (λ a c h g. conforms-asked T W t k s
      ∙ every_false (is_met T) a (asked T k t) h (among_full c (causes T a.kind a.tree) g)),
  (λ h. let r = some_false (is_met T) (asked T k t) (sym (conforms-asked T W t k s) ∙ h) in
      let q = first_cause (causes T (r.0).kind (r.0).tree) r.2 in
      (r.0, q.0, r.1, q.1)),
)
