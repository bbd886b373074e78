-- Searching for a word among the values of a set.
use Rattle.std.proofs.Common.{◌≡◌, ℕ, suc, ◌+◌, ◌<◌, Bool, true, false, ◌&&◌, ◌||◌, ◌==◌, List, [], ◌∷◌, length, get_or}
use Rattle.std.proofs.Common.{drop, map, refl, sym, ap, ◌∙◌, add-one}
use Rattle.std.proofs.Math.Seq.{drop-cons}
use Rattle.std.specs.Str.{bytes_eq}
use Rattle.openapi_tables.specs.Lists.{same_text, has}

-- the two tests of texts agree
pub same_text-bytes_eq : (s t : List ℕ) → same_text s t ≡ bytes_eq s t
same_text-bytes_eq (a ∷ s) (b ∷ t) = ap (λ r. a == b && r) (same_text-bytes_eq s t)
same_text-bytes_eq s [] = refl
same_text-bytes_eq s t = refl

-- the values from an index on have the word exactly if the first of them has it, or one after it
step : {X : Type 0} → (word : X → List ℕ) (xs : List X) (i : ℕ) (x : X) (t : List ℕ)
    → i < length xs → x ≡ get_or xs i x
    → has (map word (drop i xs)) t ≡ (bytes_eq (word x) t || has (map word (drop (i + 1) xs)) t)
step word xs i x t low is =
    ap (λ l. has (map word l) t) (drop-cons xs i x low)
    ∙ ap (λ y. same_text (word y) t || has (map word (drop (suc i) xs)) t) (sym is)
    ∙ ap (λ b. b || has (map word (drop (suc i) xs)) t) (same_text-bytes_eq (word x) t)
    ∙ ap (λ k. bytes_eq (word x) t || has (map word (drop k xs)) t) (sym (add-one i))

-- the set has the word if a value has it
pub found : {X : Type 0} → (word : X → List ℕ) (xs : List X) (i : ℕ) (x : X) (t : List ℕ) (b : Bool)
    → b ≡ has (map word (drop i xs)) t → i < length xs → x ≡ get_or xs i x → bytes_eq (word x) t ≡ true → true ≡ b
found word xs i x t b left low is same =
    sym (left ∙ step word xs i x t low is ∙ ap (λ c. c || has (map word (drop (i + 1) xs)) t) same)

-- if a value does not have the word, the set has the word exactly if a later value has it
pub passed : {X : Type 0} → (word : X → List ℕ) (xs : List X) (i : ℕ) (x : X) (t : List ℕ) (b : Bool)
    → b ≡ has (map word (drop i xs)) t → i < length xs → x ≡ get_or xs i x → bytes_eq (word x) t ≡ false
    → b ≡ has (map word (drop (i + 1) xs)) t
passed word xs i x t b left low is other =
    left ∙ step word xs i x t low is ∙ ap (λ c. c || has (map word (drop (i + 1) xs)) t) other
