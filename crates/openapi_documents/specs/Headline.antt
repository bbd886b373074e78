-- The laws of the field tables for whole documents, in one record: what holds for every JSON value as a document, and
-- for every document that is read from one.
use Rattle.std.specs.Prelude.{◌≡◌, ◌↔◌, ◌≤◌, ◌*◌, true, false, []}
use Rattle.openapi_node.specs.Tree.{Tree, size_of}
use Rattle.openapi_tables.specs.Conforms.{conforms}
use Rattle.openapi_tables.specs.Faults.{Asking, Cause, asked, causes}
use Rattle.openapi_tables.specs.Kind.{Kind, by, open_api}
use Rattle.openapi_tables.specs.Laws.{Among}
use Rattle.openapi_tables.specs.Print.{print, clean}
use Rattle.openapi_tables.specs.Stays.{stays}
use Rattle.openapi_tables.specs.Tables.{final_tables}
use Rattle.openapi_tables.specs.Unwritable.{unwritable}
use Rattle.openapi_fields.specs.Returned.{Reads}
use Rattle.openapi_documents.specs.Documents.{document_form}
use Rattle.openapi_documents.specs.declared.open_api.OpenAPI.{OpenAPI}

-- the kind of a whole document
abbrev pub document : Kind
document = by open_api

-- a document is read from the node: the node conforms, and its form is that of the document
abbrev pub IsReadOf : OpenAPI → Tree → Type 0
IsReadOf x t = Reads document_form x document t

-- some value in the node breaks a rule that is required at its location
abbrev pub HasBroken : Tree → Type 0
HasBroken t = (a : Asking) × (c : Cause) × Among a (asked final_tables document t) × Among c (causes final_tables a.kind a.tree)

-- What holds for every JSON value, and for every document that is read from one.
pub record Headline : Type 0 where
  -- a JSON value does not conform if and only if a rule is broken at some location in it
  pub refused : (t : Tree) → (conforms final_tables document t ≡ false) ↔ HasBroken t
  -- a document that was read contains nothing unwritable, and is written as the normalized value
  pub cleaned : (t : Tree) (x : OpenAPI) → IsReadOf x t
      → (unwritable final_tables document (document_form x) ≡ [])
      × (print final_tables document (document_form x) ≡ clean final_tables document t)
  -- the normalized value of one that conforms also conforms, and is at most twice as large
  pub read_again : (t : Tree) → conforms final_tables document t ≡ true
      → (conforms final_tables document (clean final_tables document t) ≡ true)
      × (size_of (clean final_tables document t) ≤ 2 * size_of t)
  -- a document that is read from the normalized value is in stable form: written and read once more, its form is the same
  pub settled : (t : Tree) (x y z : OpenAPI) → IsReadOf x t → IsReadOf y (clean final_tables document t)
      → IsReadOf z (print final_tables document (document_form y)) → document_form z ≡ document_form y
  -- and its form is that of the document read first, if and only if no schema of the sort `any_sort` in that document
  -- is written as one of another sort
  pub first : (t : Tree) (x y : OpenAPI) → IsReadOf x t → IsReadOf y (clean final_tables document t)
      → (document_form y ≡ document_form x) ↔ (stays final_tables document (document_form x) ≡ true)
