-- The slots of a kind that has no `type`.
use Rattle.std.proofs.Common.{◌≡◌, ℕ, List, [], ◌∷◌, refl, sym, subst}
use Rattle.openapi_tables.specs.Prelude.{Kind, Mode, Row, row, Sort, sort_rows, Form, slots}
use Rattle.openapi_schema.specs.SchemaForms.{Sorted}
use Rattle.openapi_schema.specs.Writing.{sorted_slots, untagged}

-- slots without a `type` are the others alone
pub no_tag : (n : List ℕ) (m : Mode) (k : Kind) (s : Sorted) (ws : List Row) (fs : List Form) (z : Sort)
    → s ≡ (z, fs) → sort_rows z ≡ row n m k ∷ ws → untagged (sorted_slots s) ≡ sorted_slots s
no_tag n m k s ws fs z e r =
    subst (λ (q : Sorted). untagged (sorted_slots q) ≡ sorted_slots q) (sym e)
    (subst (λ rs. untagged (slots rs fs) ≡ slots rs fs) (sym r) (here fs))
  where
    here : (fs : List Form) → untagged (slots (row n m k ∷ ws) fs) ≡ slots (row n m k ∷ ws) fs
    here [] = refl
    here (f ∷ fs) = refl
