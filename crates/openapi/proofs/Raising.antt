-- The status after one more finding.
use Rattle.std.proofs.Common.{◌≡◌, ℕ, ◌+◌, ◌<◌, max, Bool, List, [], ◌∷◌, ◌++◌, length, get_or, map, take, sym, ap, ◌∙◌, arith}
use Rattle.std.proofs.lemmas.List.{map-append, take_more}
use Rattle.openapi_findings.specs.declared.finding.Finding.{Finding}
use Rattle.openapi.specs.Statuses.{file_status, finding_status, highest}

highest-push : (ns : List ℕ) (n : ℕ) → highest (ns ++ n ∷ []) ≡ max (highest ns) n
highest-push [] n = omega arith
highest-push (m ∷ ns) n = omega (arith, highest-push ns n)

-- the highest status of the findings so far, and that of the next one
pub one_more : (deny : Bool) (fs : List Finding) (i : ℕ) (f : Finding) → i < length fs → f ≡ get_or fs i f
    → file_status deny (take (i + 1) fs) ≡ max (file_status deny (take i fs)) (finding_status deny f)
one_more deny fs i f lt is =
    ap (file_status deny) (take_more fs i f lt ∙ ap (λ g. take i fs ++ g ∷ []) (sym is))
    ∙ ap highest (map-append (finding_status deny) (take i fs) (f ∷ []))
    ∙ highest-push (map (finding_status deny) (take i fs)) (finding_status deny f)
