-- The fields of a kind or a type of schema that is known to equal another: the size of their forms, and what is written
-- for them.
use Rattle.std.proofs.Common.{◌≡◌, ◌∙◌, Result, sym, ap, subst}
use Rattle.openapi_map.specs.Entries.{Entries}
use Rattle.openapi_node.specs.Tree.{Tree}
use Rattle.openapi_node.specs.declared.fault.Fault.{Fault}
use Rattle.openapi_fields.specs.Writing.{RowsWritten}
use Rattle.openapi_fields.proofs.FormSizes.{rows_size}
use Rattle.openapi_schema.specs.SchemaForms.{Sorted}
use Rattle.openapi_schema.specs.Writing.{sorted_slots, untagged}

module _ {X : Type 0} (rows : X → Sorted) where
  -- the forms of its fields have the size of those of the other
  pub size_given : {x y : X} {s : Sorted} → x ≡ y → rows y ≡ s → rows_size (rows x).1 ≡ rows_size s.1
  size_given e h = ap (λ z. rows_size (rows z).1) e ∙ ap (λ (r : Sorted). rows_size r.1) h

  -- what is written for the fields of the other is what is written for its fields
  pub rows_given : {x y : X} {s : Sorted} (w : Result (Entries Tree) Fault) → x ≡ y → rows y ≡ s
      → RowsWritten (untagged (sorted_slots s)) w → RowsWritten (untagged (sorted_slots (rows x))) w
  rows_given w e h = subst (λ ss. RowsWritten ss w)
      (sym (ap (λ z. untagged (sorted_slots (rows z))) e ∙ ap (λ (r : Sorted). untagged (sorted_slots r)) h))
