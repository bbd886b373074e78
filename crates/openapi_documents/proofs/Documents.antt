-- What was read from a node, and what is read from the node that it is written as.
use Rattle.std.proofs.Common.{◌≡◌, ◌↔◌, true, refl, sym, ap, ◌∙◌, subst, []}
use Rattle.openapi_node.specs.Tree.{Tree}
use Rattle.openapi_tables.specs.Prelude.{again, print, clean, form, sound, stays, final_tables, tables_with, unwritable}
use Rattle.openapi_tables.proofs.AllReadProper.{read_proper}
use Rattle.openapi_tables.proofs.again.Cleaned as cleaned
use Rattle.openapi_tables.proofs.again.FirstValue.{first_stays}
use Rattle.openapi_tables.proofs.again.ReadAgain.{read_again}
use Rattle.openapi_tables.proofs.WellMade.{final_sound}
use Rattle.openapi_tables.proofs.WritableLaws.{writable}
use Rattle.openapi_documents.specs.Documents.{document_form}
use Rattle.openapi_documents.specs.Headline.{IsReadOf, document}
use Rattle.openapi_documents.specs.declared.open_api.OpenAPI.{OpenAPI}

-- the kind of a whole document is well made
pub document_sound : sound final_tables document ≡ true
unfolding final_tables tables_with
document_sound = refl

-- nothing in a document that was read from a node is unwritable
pub can_be_written : (t : Tree) (x : OpenAPI) → IsReadOf x t
    → unwritable final_tables document (document_form x) ≡ []
can_be_written t x r =
    subst (λ f. unwritable final_tables document f ≡ []) r.1
    ((writable.0 final_tables document (form final_tables document t)).0
    (read_proper final_tables final_sound t document document_sound r.0)).1

-- the form that is read from the normalized node is that of the first document, written and read again
reads_again : (t : Tree) (x y : OpenAPI) → IsReadOf x t → IsReadOf y (clean final_tables document t)
    → again final_tables document (document_form x) ≡ document_form y
reads_again t x y r h = ap (again final_tables document) (sym r.1) ∙ h.1

-- a document that is read from the normalized node has the same form after it is written and read again
pub is_settled : (t : Tree) (x y z : OpenAPI) → IsReadOf x t → IsReadOf y (clean final_tables document t)
    → IsReadOf z (print final_tables document (document_form y)) → document_form z ≡ document_form y
is_settled t x y z r h g =
    let f = form final_tables document t in
    let e = reads_again t x y r h in
    let s = cleaned.settled final_tables final_sound document f document_sound
    (read_proper final_tables final_sound t document document_sound r.0) in
    sym g.1 ∙ sym (ap (again final_tables document) h.1) ∙ s ∙ h.1

-- and it has the form that was read first if and only if `stays` holds for that form
pub is_first : (t : Tree) (x y : OpenAPI) → IsReadOf x t → IsReadOf y (clean final_tables document t)
    → (document_form y ≡ document_form x) ↔ (stays final_tables document (document_form x) ≡ true)
is_first t x y r h =
    let e = reads_again t x y r h in (
      (λ g. subst (λ f. stays final_tables document f ≡ true) r.1 (first_stays final_tables final_sound t document
          document_sound (ap (again final_tables document) r.1 ∙ e ∙ g ∙ sym r.1))),
      (λ g. sym e ∙ ap (again final_tables document) (sym r.1) ∙ read_again final_tables final_sound t document
          document_sound (subst (λ f. stays final_tables document f ≡ true) (sym r.1) g) ∙ r.1),
    )
