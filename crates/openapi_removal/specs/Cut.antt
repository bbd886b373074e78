-- A text without some ranges of its bytes.
use Rattle.std.specs.Prelude.{ℕ, List, [], ◌∷◌, ◌++◌, take, drop}
use Rattle.openapi_removal.specs.declared.cut.Gap.{Gap}

-- For each pair, as many bytes as its first number are kept, and then as many as its second number are left out. The bytes
-- after those of the last pair are kept.
abbrev pub cut : List (ℕ × ℕ) → List ℕ → List ℕ
cut [] text = text
cut (g ∷ gs) text = take g.0 text ++ cut gs (drop g.1 (drop g.0 text))

abbrev pub gap_of : Gap → ℕ × ℕ
gap_of g = (g.kept, g.left_out)
