-- Laws of the functions on lists and texts.
use Rattle.std.proofs.Common.{ℕ, Bool, true, false, cond, ◌&&◌, ◌==◌, List, [], ◌∷◌, ◌≡◌, refl, sym, ap, ◌∙◌, eqb-true}
use Rattle.std.proofs.Common.{eq-eqb}
use Rattle.std.proofs.lemmas.Bool.{and_parts, and_from}
use Rattle.std.specs.Str.{bytes_eq}
use Rattle.openapi_tables.specs.Lists.{same_text, each, join, only, every}

-- `P` holds for each element
abbrev pub Each : {A : Type 0} → (A → Type 0) → List A → Type 0
Each P [] = Unit {0}
Each P (x ∷ xs) = P x × Each P xs

-- `each g` after `each f` is `each` of the two functions, one after the other
pub each-each : {A B C : Type 0} → (g : B → C) (f : A → B) (xs : List A) → each g (each f xs) ≡ each (λ x. g (f x)) xs
each-each g f [] = refl
each-each g f (x ∷ xs) = ap (λ ys. g (f x) ∷ ys) (each-each g f xs)

-- two functions that agree on each element have the same results for a list
pub each_same : {A B : Type 0} → (f g : A → B) (xs : List A) → Each (λ x. f x ≡ g x) xs → each f xs ≡ each g xs
each_same f g [] h = refl
each_same f g (x ∷ xs) h = (ap (λ y. y ∷ each f xs) h.0) ∙ ap (λ ys. g x ∷ ys) (each_same f g xs h.1)

-- the results of the function that changes nothing are the list itself
pub each_id : {A : Type 0} → (xs : List A) → each (λ x. x) xs ≡ xs
each_id [] = refl
each_id (x ∷ xs) = ap (λ ys. x ∷ ys) (each_id xs)

-- what holds for all values holds for each element
pub each_all : {A : Type 0} {P : A → Type 0} → ((x : A) → P x) → (xs : List A) → Each P xs
each_all h [] = tt
each_all h (x ∷ xs) = (h x, each_all h xs)

-- if `P` implies `Q`, and `P` holds for each element, `Q` does
pub each_under : {A : Type 0} {P Q : A → Type 0} → ((x : A) → P x → Q x) → (xs : List A) → Each P xs → Each Q xs
each_under h [] e = tt
each_under h (x ∷ xs) e = (h x e.0, each_under h xs e.1)

-- the concatenation of a list and the empty list is that list
pub join-nil : {A : Type 0} → (xs : List A) → join xs [] ≡ xs
join-nil [] = refl
join-nil (x ∷ xs) = ap (λ ys. x ∷ ys) (join-nil xs)

-- `join` is associative
pub join_assoc : {A : Type 0} → (xs ys zs : List A) → join (join xs ys) zs ≡ join xs (join ys zs)
join_assoc [] ys zs = refl
join_assoc (x ∷ xs) ys zs = ap (λ l. x ∷ l) (join_assoc xs ys zs)

-- the results of a function for a concatenation are those for the first and then those for the second list
pub each-join : {A B : Type 0} → (f : A → B) (xs ys : List A) → each f (join xs ys) ≡ join (each f xs) (each f ys)
each-join f [] ys = refl
each-join f (x ∷ xs) ys = ap (λ l. f x ∷ l) (each-join f xs ys)

-- what holds for each element of two lists holds for each element of their concatenation
pub Each-join : {A : Type 0} → (P : A → Type 0) (xs ys : List A) → Each P xs → Each P ys → Each P (join xs ys)
Each-join P [] ys h g = g
Each-join P (x ∷ xs) ys h g = (h.0, Each-join P xs ys h.1 g)

only_cond : {A : Type 0} → (b : Bool) (x : A) (xs ys : List A)
    → join (cond b (x ∷ xs) xs) ys ≡ cond b (x ∷ join xs ys) (join xs ys)
only_cond true x xs ys = refl
only_cond false x xs ys = refl

-- the elements of a concatenation that pass a test are those of the first and then those of the second list
pub only-join : {A : Type 0} → (p : A → Bool) (xs ys : List A) → only p (join xs ys) ≡ join (only p xs) (only p ys)
only-join p [] ys = refl
only-join p (x ∷ xs) ys = ap (λ l. cond (p x) (x ∷ l) l) (only-join p xs ys)
    ∙ sym (only_cond (p x) x (only p xs) (only p ys))

each_cond : {A B : Type 0} → (f : A → B) (b : Bool) (x : A) (xs : List A)
    → each f (cond b (x ∷ xs) xs) ≡ cond b (f x ∷ each f xs) (each f xs)
each_cond f true x xs = refl
each_cond f false x xs = refl

-- the results that pass a test are the results for the elements whose result passes it
pub only-each : {A B : Type 0} → (p : B → Bool) (f : A → B) (xs : List A)
    → only p (each f xs) ≡ each f (only (λ x. p (f x)) xs)
only-each p f [] = refl
only-each p f (x ∷ xs) = ap (λ l. cond (p (f x)) (f x ∷ l) l) (only-each p f xs)
    ∙ sym (each_cond f (p (f x)) x (only (λ y. p (f y)) xs))

-- if each element passes a test, the elements that pass are the whole list
pub only_all : {A : Type 0} → (p : A → Bool) (xs : List A) → Each (λ x. p x ≡ true) xs → only p xs ≡ xs
only_all p [] h = refl
only_all p (x ∷ xs) h = ap (λ b. cond b (x ∷ only p xs) (only p xs)) h.0 ∙ ap (λ l. x ∷ l) (only_all p xs h.1)

-- if no element passes a test, the elements that pass are none
pub only_none : {A : Type 0} → (p : A → Bool) (xs : List A) → Each (λ x. p x ≡ false) xs → only p xs ≡ []
only_none p [] h = refl
only_none p (x ∷ xs) h = ap (λ b. cond b (x ∷ only p xs) (only p xs)) h.0 ∙ only_none p xs h.1

keeps : {A : Type 0} → (p : A → Bool) (x : A) (b : Bool) (l : List A) → p x ≡ b → Each (λ y. p y ≡ true) l
    → Each (λ y. p y ≡ true) (cond b (x ∷ l) l)
keeps p x true l e h = (e, h)
keeps p x false l e h = h

-- each of the elements that pass a test passes it
pub Each-only : {A : Type 0} → (p : A → Bool) (xs : List A) → Each (λ x. p x ≡ true) (only p xs)
Each-only p [] = tt
Each-only p (x ∷ xs) = keeps p x (p x) (only p xs) refl (Each-only p xs)

only_passes : {A : Type 0} → (P : A → Type 0) (x : A) (b : Bool) (l : List A) → P x → Each P l
    → Each P (cond b (x ∷ l) l)
only_passes P x true l h g = (h, g)
only_passes P x false l h g = g

-- what holds for each element holds for each that passes a test
pub Each_within-only : {A : Type 0} → (P : A → Type 0) (p : A → Bool) (xs : List A) → Each P xs → Each P (only p xs)
Each_within-only P p [] h = tt
Each_within-only P p (x ∷ xs) h = only_passes P x (p x) (only p xs) h.0 (Each_within-only P p xs h.1)

-- if `every` returns true for a test, each element passes it
pub every_each : {A : Type 0} → (p : A → Bool) (xs : List A) → every p xs ≡ true → Each (λ x. p x ≡ true) xs
every_each p [] h = tt
every_each p (x ∷ xs) h = let e = and_parts (p x) (every p xs) h in (e.0, every_each p xs e.1)

-- if each element passes a test, `every` returns true for it
pub every_from : {A : Type 0} → (p : A → Bool) (xs : List A) → Each (λ x. p x ≡ true) xs → every p xs ≡ true
every_from p [] h = refl
every_from p (x ∷ xs) h = and_from (p x) (every p xs) h.0 (every_from p xs h.1)

-- a text is the same as itself
pub same_text-refl : (s : List ℕ) → same_text s s ≡ true
same_text-refl [] = refl
same_text-refl (a ∷ s) = and_from (a == a) (same_text s s) (eq-eqb a a refl) (same_text-refl s)

-- texts that are the same by `same_text` are equal
pub same_text_eq : (s u : List ℕ) → same_text s u ≡ true → s ≡ u
same_text_eq (a ∷ s) (b ∷ u) h =
    let e = and_parts (a == b) (same_text s u) h in
    let p = eqb-true a b e.0 in
    let q = same_text_eq s u e.1 in
    ap (λ n. n ∷ s) p ∙ ap (λ l. b ∷ l) q
same_text_eq s [] h = cc
same_text_eq s u h = cc

-- two tests that agree on each element agree on whether all elements pass
pub every_same : {A : Type 0} → (p q : A → Bool) (xs : List A) → Each (λ x. p x ≡ q x) xs → every p xs ≡ every q xs
every_same p q [] h = refl
every_same p q (x ∷ xs) h = ap (λ b. b && every p xs) h.0 ∙ ap (λ b. q x && b) (every_same p q xs h.1)

-- if all elements of a concatenation pass a test, all of the second list do
pub every_behind : {A : Type 0} → (p : A → Bool) (vs ws : List A) → every p (join vs ws) ≡ true → every p ws ≡ true
every_behind p [] ws h = h
every_behind p (v ∷ vs) ws h = every_behind p vs ws (and_parts (p v) (every p (join vs ws)) h).1

-- `same_text` and `bytes_eq` return the same for two texts
pub same_bytes : (a b : List ℕ) → same_text a b ≡ bytes_eq a b
same_bytes (x ∷ a) (y ∷ b) = ap (λ t. (x == y) && t) (same_bytes a b)
same_bytes a [] = refl
same_bytes a b = refl
