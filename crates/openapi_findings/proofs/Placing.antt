-- Findings at their positions, in the order in which they are shown.
use Rattle.std.proofs.Common.{◌≡◌, ℕ, ◌<◌, List, [], ◌∷◌, ◌++◌, Option, Result, Ok, Err, IfOk, length, get_or, map, sym, ap, ◌∙◌, subst, refl, arith}
use Rattle.std.proofs.lemmas.List.{length-map, map-append}
use Rattle.std.proofs.lemmas.List.Sorted.{IsPermutation-map}
use Rattle.std.specs.List.{AllZip}
use Rattle.std.specs.List.Sorted.{IsPermutation}
use Rattle.std.specs.Option.{IfSome}
use Rattle.openapi_json.specs.Positions.{IsPositionAt}
use Rattle.openapi_json.specs.declared.position.Position.{Position}
use Rattle.openapi_node.specs.Place.{Place}
use Rattle.openapi_findings.specs.Findings.{IsPlaced, finds, found}
use Rattle.openapi_findings.specs.Stated.{Statement, place_in_report, statement_of}
use Rattle.openapi_findings.specs.declared.code.Code.{Code}
use Rattle.openapi_findings.specs.declared.finding.Finding.{Finding}
use Rattle.openapi_findings.specs.declared.report.Report.{Report}

module _ {A B : Type 0} (R : A → B → Type 0) where
  -- two lists whose elements are related in pairs: what is related to an element
  beside : (xs : List A) (x : A) (ys : List A) (zs : List B) (d : B) → AllZip R (xs ++ x ∷ ys) zs → R x (get_or zs (length xs) d)
  beside [] x ys [] d h = absurd h
  beside [] x ys (z ∷ zs) d h = h.0
  beside (w ∷ xs) x ys [] d h = absurd h
  beside (w ∷ xs) x ys (z ∷ zs) d h = beside xs x ys zs d h.1

  within : (xs : List A) (x : A) (ys : List A) (zs : List B) → AllZip R (xs ++ x ∷ ys) zs → length xs < length zs
  within [] x ys [] h = absurd h
  within [] x ys (z ∷ zs) h = omega arith
  within (w ∷ xs) x ys [] h = absurd h
  within (w ∷ xs) x ys (z ∷ zs) h = omega (arith, within xs x ys zs h.1)

module _ (bytes : List ℕ) (rs done left : List Report) (r : Report) (os : List (Option Position))
    (split : rs ≡ done ++ r ∷ left) (all : AllZip (IsPositionAt bytes) (map place_in_report rs) os) where
  places : AllZip (IsPositionAt bytes) (map place_in_report done ++ place_in_report r ∷ map place_in_report left) os
  places = subst (λ l. AllZip (IsPositionAt bytes) l os) (ap (map place_in_report) split ∙ map-append place_in_report done (r ∷ left)) all

  -- the next report has a position
  pub next_within : length done < length os
  next_within =
      subst (λ n. n < length os) (length-map done place_in_report)
      (within (IsPositionAt bytes) (map place_in_report done) (place_in_report r) (map place_in_report left) os places)

  -- and it is that of the location of the report
  pub next_beside : (d : Option Position) → IsPositionAt bytes (place_in_report r) (get_or os (length done) d)
  next_beside d =
      subst (λ n. IsPositionAt bytes (place_in_report r) (get_or os n d)) (length-map done place_in_report)
      (beside (IsPositionAt bytes) (map place_in_report done) (place_in_report r) (map place_in_report left) os d places)

-- a report at its position is a finding that is placed
placed_at : (bytes : List ℕ) (f : Finding) (r : Report) (o : Option Position) → finds f ≡ found (statement_of r)
    → f.position ≡ o → IsPositionAt bytes (place_in_report r) o → IsPlaced bytes f
placed_at bytes f r o e p h =
    subst (λ q. IfSome q (λ at. IsPositionAt bytes at f.position)) (sym (ap (λ s. s.0) e))
    (subst (λ q. IsPositionAt bytes (place_in_report r) q) (sym p) h)

-- a finding of the next report, with the position at its index, is placed
pub next_placed : (bytes : List ℕ) (rs done left : List Report) (r : Report) (os : List (Option Position)) (f : Finding) (i : ℕ)
    (d : Option Position) → rs ≡ done ++ r ∷ left → AllZip (IsPositionAt bytes) (map place_in_report rs) os → i ≡ length done
    → finds f ≡ found (statement_of r) → f.position ≡ get_or os i d → IsPlaced bytes f
next_placed bytes rs done left r os f i d split all e is at =
    placed_at bytes f r (get_or os i d) is at
    (subst (λ n. IsPositionAt bytes (place_in_report r) (get_or os n d)) (sym e) (next_beside bytes rs done left r os split all d))

-- positions related to reports, where both are borrowed as slices
pub in_slices : (bytes : List ℕ) (rs ss : List Report) (os ps : List (Option Position)) → ss ≡ rs → ps ≡ os
    → AllZip (IsPositionAt bytes) (map place_in_report ss) os → AllZip (IsPositionAt bytes) (map place_in_report rs) ps
in_slices bytes rs ss os ps e f h =
    subst (λ l. AllZip (IsPositionAt bytes) (map place_in_report l) ps) e
    (subst (λ l. AllZip (IsPositionAt bytes) (map place_in_report ss) l) (sym f) h)

-- what a report states, as a finding does
abbrev pub states : Report → Option Place × Code
states r = found (statement_of r)

-- with one more report, its finding is one more
pub finds_next : (fs gs : List Finding) (f : Finding) (done : List Report) (r : Report) → gs ≡ fs ++ f ∷ []
    → map finds fs ≡ map states done → finds f ≡ states r → map finds gs ≡ map states (done ++ r ∷ [])
finds_next fs gs f done r n h s =
    ap (map finds) n ∙ map-append finds fs (f ∷ []) ∙ ap (λ l. l ++ finds f ∷ []) h ∙ ap (λ y. map states done ++ y ∷ []) s
    ∙ sym (map-append states done (r ∷ []))

-- two facts of a result imply a third
pub if_ok_both : {T E : Type 0} {P Q R : T → Type 0} (r : Result T E) → ((x : T) → P x → Q x → R x) → IfOk r P → IfOk r Q → IfOk r R
if_ok_both (Ok x) f p q = f x p q
if_ok_both (Err e) f p q = tt

finds_each : (rs : List Report) → map (λ r. found (statement_of r)) rs ≡ map found (map statement_of rs)
finds_each [] = refl
finds_each (r ∷ rs) = ap (λ l. found (statement_of r) ∷ l) (finds_each rs)

-- findings in any order state what the reports state
pub all_found : (ss : List Statement) (rs : List Report) (ps fs : List Finding) → map statement_of rs ≡ ss
    → map finds ps ≡ map (λ r. found (statement_of r)) rs → IsPermutation ps fs → IsPermutation (map found ss) (map finds fs)
all_found ss rs ps fs e h p =
    subst (λ l. IsPermutation l (map finds fs)) (h ∙ finds_each rs ∙ ap (map found) e) (IsPermutation-map finds ps fs p)
