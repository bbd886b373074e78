-- A text that is cut, gap after gap.
use Rattle.std.proofs.Common.{◌≡◌, ℕ, ◌+◌, ◌<◌, min, List, ◌∷◌, ◌++◌, length, get_or, take, drop, map, sym, ap, ◌∙◌, append_assoc}
use Rattle.std.proofs.lemmas.List.{drop_min, drop_more, take_min}
use Rattle.openapi_removal.specs.Cut.{cut, gap_of}
use Rattle.openapi_removal.specs.declared.cut.Gap.{Gap}

-- one more gap: what is kept so far, followed by what is kept of the rest, is all that is kept
pub next_gap : (gs : List Gap) (i : ℕ) (g : Gap) (done rest kept more behind new whole : List ℕ) → i < length gs → g ≡ get_or gs i g
    → kept ≡ take (min g.kept (length rest)) rest → more ≡ drop (min g.kept (length rest)) rest
    → behind ≡ drop (min g.left_out (length more)) more → new ≡ done ++ kept
    → done ++ cut (map gap_of (drop i gs)) rest ≡ whole → new ++ cut (map gap_of (drop (i + 1) gs)) behind ≡ whole
next_gap gs i g done rest kept more behind new whole within is first left later made all =
    let later_gaps = map gap_of (drop (i + 1) gs) in
    let gone : behind ≡ drop g.left_out (drop g.kept rest) =
    later ∙ drop_min g.left_out more ∙ ap (drop g.left_out) (left ∙ drop_min g.kept rest) in
    let gaps : map gap_of (drop i gs) ≡ gap_of g ∷ later_gaps =
    ap (map gap_of) (drop_more gs i g within) ∙ ap (λ h. gap_of h ∷ later_gaps) (sym is) in
    ap (λ xs. new ++ cut later_gaps xs) gone ∙ ap (λ xs. xs ++ cut later_gaps (drop g.left_out (drop g.kept rest))) made
    ∙ append_assoc done kept (cut later_gaps (drop g.left_out (drop g.kept rest)))
    ∙ ap (λ xs. done ++ (xs ++ cut later_gaps (drop g.left_out (drop g.kept rest)))) (first ∙ take_min g.kept rest)
    ∙ sym (ap (λ hs. done ++ cut hs rest) gaps) ∙ all
