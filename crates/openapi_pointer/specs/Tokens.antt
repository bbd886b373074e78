-- Reference tokens (RFC 6901): the parts of a JSON Pointer, and the name that each represents.
use Rattle.std.specs.Prelude.{ℕ, Bool, true, false, cond, ◌==◌, List, [], ◌∷◌, ◌++◌, Option, Some, None, option_map}
use Rattle.std.specs.List.{slice_split}

-- the bytes of `/`, `~`, `0` and `1`
abbrev pub slash : ℕ
slash = 47

abbrev pub tilde : ℕ
tilde = 126

abbrev pub digit_0 : ℕ
digit_0 = 48

abbrev pub digit_1 : ℕ
digit_1 = 49

-- the texts that are separated by `/`
abbrev pub tokens_in : List ℕ → List (List ℕ)
tokens_in = slice_split (λ b. b == slash)

-- a name with these bytes before it, if there is a name
abbrev pub before_name : List ℕ → Option (List ℕ) → Option (List ℕ)
before_name bs o = option_map (λ n. bs ++ n) o

-- The name that a reference token represents: `~1` represents `/`, and `~0` represents `~`. A token with any other `~` has
-- no name. The flag is true directly after a `~`.
abbrev pub name_after : Bool → List ℕ → Option (List ℕ)
name_after true [] = None
name_after true (b ∷ bs) =
    cond (b == digit_0) (before_name (tilde ∷ []) (name_after false bs))
    (cond (b == digit_1) (before_name (slash ∷ []) (name_after false bs)) None)
name_after false [] = Some []
name_after false (b ∷ bs) = cond (b == tilde) (name_after true bs) (before_name (b ∷ []) (name_after false bs))

abbrev pub name_in : List ℕ → Option (List ℕ)
name_in token = name_after false token
