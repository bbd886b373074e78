-- A text with another number of spaces in place of each two spaces at the beginning of a line.
use Rattle.std.specs.Prelude.{ℕ, ◌==◌, cond, List, [], ◌∷◌, ◌++◌, replicate}
use Rattle.openapi_normalize.specs.declared.indent.Spot.{Spot}
use Rattle.openapi_normalize.specs.declared.indent.Spot.TheVariants.{Even, Odd, Behind}

-- where the next byte is in its line, after a space
abbrev pub behind_space : Spot → Spot
behind_space Even = Odd
behind_space Odd = Even
behind_space Behind = Behind

-- the same after any byte
abbrev pub next_spot : Spot → ℕ → Spot
next_spot s x = cond (x == 10) Even (cond (x == 32) (behind_space s) Behind)

-- what replaces a space: at the beginning of a line nothing for the first of two and n spaces for the second, and elsewhere
-- the space itself
abbrev pub spaces : ℕ → Spot → List ℕ
spaces n Even = []
spaces n Odd = replicate n 32
spaces n Behind = 32 ∷ []

-- what replaces any byte: a byte that is not a space stays
abbrev pub piece : ℕ → Spot → ℕ → List ℕ
piece n s x = cond (x == 32) (spaces n s) (x ∷ [])

abbrev pub indented_from : ℕ → Spot → List ℕ → List ℕ
indented_from n s [] = []
indented_from n s (x ∷ xs) = piece n s x ++ indented_from n (next_spot s x) xs

-- the text with n spaces in place of each two spaces at the beginning of a line; an odd last one of these spaces is left out
abbrev pub indented : ℕ → List ℕ → List ℕ
indented n text = indented_from n Even text
