-- Functions on lists and texts that the other definitions use, each by cases on a list. A text is the list of its
-- bytes.
use Rattle.std.specs.Prelude.{ℕ, Bool, true, false, cond, ◌&&◌, ◌||◌, List, [], ◌∷◌, ◌==◌}

-- whether two texts are the same
abbrev pub same_text : List ℕ → List ℕ → Bool
same_text [] [] = true
same_text [] (b ∷ bs) = false
same_text (a ∷ as') [] = false
same_text (a ∷ as') (b ∷ bs) = a == b && same_text as' bs

-- whether a list contains a text
abbrev pub has : List (List ℕ) → List ℕ → Bool
has [] n = false
has (m ∷ ms) n = same_text m n || has ms n

-- the results of a function for the elements of a list, in order
abbrev pub each : {A B : Type 0} → (A → B) → List A → List B
each f [] = []
each f (x ∷ xs) = f x ∷ each f xs

-- the concatenation of two lists
abbrev pub join : {A : Type 0} → List A → List A → List A
join [] ys = ys
join (x ∷ xs) ys = x ∷ join xs ys

-- the concatenation of the lists in a list, in order
abbrev pub flat : {A : Type 0} → List (List A) → List A
flat [] = []
flat (x ∷ xs) = join x (flat xs)

-- the elements that pass a test
abbrev pub only : {A : Type 0} → (A → Bool) → List A → List A
only p [] = []
only p (x ∷ xs) = cond (p x) (x ∷ only p xs) (only p xs)

-- whether all elements pass a test
abbrev pub every : {A : Type 0} → (A → Bool) → List A → Bool
every p [] = true
every p (x ∷ xs) = p x && every p xs

-- the element at an index, or a default if the list ends before it
abbrev pub place_or : {A : Type 0} → A → List A → ℕ → A
place_or d [] i = d
place_or d (x ∷ xs) ℕ.zero = x
place_or d (x ∷ xs) (ℕ.suc i) = place_or d xs i

-- whether a list has no element
abbrev pub is_empty : {A : Type 0} → List A → Bool
is_empty [] = true
is_empty (x ∷ xs) = false
