-- The optional rows of a kind of object, given what was read from the members of their names.
use Rattle.std.proofs.Common.{◌≡◌, ℕ, List, Option, Some, None, Result, Ok, refl, sym, subst}
use Rattle.openapi_node.specs.Tree.{Tree, Members, find}
use Rattle.openapi_node.specs.declared.fault.Fault.{Fault}
use Rattle.openapi_tables.specs.Prelude.{Kind, optional, row, final_tables, is_named, row_where, rows_asked, Form}
use Rattle.openapi_fields.specs.Forms.{optional_form}
use Rattle.openapi_fields.specs.Returned.{ReadAs, MemberReadAs, RowReadAs, unless_null}
use Rattle.openapi_fields.specs.Presence.{AtMember}
use Rattle.openapi_fields.proofs.Present.{at_member}
use Rattle.openapi_fields.proofs.RowReading.{present_row}

module _ {X : Type 0} (view : X → Form) (o : Kind) (n : List ℕ) (k : Kind) (ms : Members)
    (at : row_where (is_named n) (rows_asked final_tables o) ≡ Some (row n optional k)) where
  -- if the member is missing or null, the row reads that there is no value
  pub row_gone : unless_null (find n ms) ≡ None
      → RowReadAs (optional_form view) (Ok None) o (row n optional k) ms
  row_gone e =
      present_row o n optional k ms at view refl refl (Ok None)
      (subst (λ u. MemberReadAs view (Ok None) k n u) (sym e) tt)

  -- if the member exists and is not null, what was read from its value is what the row reads. An error about its value is an
  -- error about the object
  pub row_read : (t : Tree) (r : Result X Fault) (s : Result (Option X) Fault) → unless_null (find n ms) ≡ Some t
      → AtMember n r s → ReadAs view r k t → RowReadAs (optional_form view) s o (row n optional k) ms
  row_read t r s e up h =
      present_row o n optional k ms at view refl refl s
      (subst (λ u. MemberReadAs view s k n u) (sym e) (at_member view n k t r s up h))
