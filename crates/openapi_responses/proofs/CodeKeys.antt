-- Status codes as the keys of a map: an insert puts a value at a code as the tables do.
use Rattle.std.proofs.Common.{◌≡◌, Bool, true, false, cond, if◌then◌else◌, List, [], ◌∷◌, refl, ap, ◌∙◌, subst, eqb-true, eq-eqb}
use Rattle.std.specs.Cmp.{IsEquivalence, decided}
use Rattle.indexmap.specs.IndexMap.{insert_entry}
use Rattle.openapi_tables.specs.Prelude.{Form, Pair, coded, put, same_code}
use Rattle.openapi_values.specs.StatusCode.{code_in}
use Rattle.openapi_values.specs.declared.status_code.StatusCode.{StatusCode}
use Rattle.openapi_values.specs.declared.status_code.StatusCode.TheVariants.{Code, Range}
use Rattle.openapi_values.specs.contracts.status_code.StatusCodePartialEq.TheImpl as impl
use Rattle.openapi_values.proofs.CodeEq.{eq-same_code}
use Rattle.openapi_responses.specs.Codes.{coded_pairs}

-- whether two codes are the same, by their `==`
abbrev pub same_status : StatusCode → StatusCode → Bool
same_status = impl.ghosts.eq

status_eq : (a b : StatusCode) → same_status a b ≡ true → a ≡ b
status_eq (Code m) (Code n) h = ap Code (eqb-true m n h)
status_eq (Code m) (Range n) h = cc
status_eq (Range m) (Code n) h = cc
status_eq (Range m) (Range n) h = ap Range (eqb-true m n h)

status-refl : (a : StatusCode) → same_status a a ≡ true
status-refl (Code n) = eq-eqb n n refl
status-refl (Range n) = eq-eqb n n refl

-- `==` on status codes is an equivalence
pub status_equiv : IsEquivalence same_status
status_equiv =
    decided same_status (λ a b. (status_eq a b, λ e. subst (λ c. same_status a c ≡ true) e (status-refl a)))

-- an entry that is inserted into a map by status codes is put at its code in the form
pub coded-insert : {X : Type 0} (view : X → Form) (es : List (StatusCode × X)) (s : StatusCode) (x : X)
    → coded_pairs view (insert_entry same_status es s x) ≡ put (coded (code_in s)) (view x) (coded_pairs view es)
coded-insert view [] s x = refl
coded-insert view (e ∷ es) s x =
    go (same_status s e.0) (same_code (code_in e.0) (code_in s))
    (status_equiv.symm s e.0 ∙ eq-same_code e.0 s) (coded-insert view es s x)
  where
    key : Pair Form
    key = record { key = coded (code_in e.0); value = view e.1 }

    go : (b c : Bool) → b ≡ c
        → coded_pairs view (insert_entry same_status es s x) ≡ put (coded (code_in s)) (view x) (coded_pairs view es)
        → coded_pairs view (if b then (e.0, x) ∷ es else e ∷ insert_entry same_status es s x)
        ≡ cond c (record { key = coded (code_in e.0); value = view x } ∷ coded_pairs view es)
        (record { key = coded (code_in e.0); value = view e.1 } ∷ put (coded (code_in s)) (view x) (coded_pairs view es))
    go false false p h = ap (λ l. record { key = coded (code_in e.0); value = view e.1 } ∷ l) h
    go b true p h = cc
    go b c p h = cc
