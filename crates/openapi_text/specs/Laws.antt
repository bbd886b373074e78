-- The laws that the functions of `laws` state.
use Rattle.std.specs.Prelude.{◌≡◌, ◌≤◌, ℕ, List, true}
use Rattle.std.specs.Str.{IsUtf8}
use Rattle.openapi_json.specs.Reading.{IsTreeOfText}
use Rattle.openapi_json.specs.Writing.{nesting, tree_by_name}
use Rattle.openapi_node.specs.Tree.{Tree}
use Rattle.openapi_tables.specs.Conforms.{conforms}
use Rattle.openapi_tables.specs.Kind.{Kind}
use Rattle.openapi_tables.specs.Print.{clean}
use Rattle.openapi_tables.specs.Tables.{final_tables}
use Rattle.openapi_fields.specs.Settled.{settled}
use Rattle.openapi_text.specs.Texts.{IsTextOf, kind_of, rewritten, text_in}
use Rattle.openapi_text.specs.declared.layout.Layout.{Layout}
use Rattle.openapi_text.specs.declared.layout.Layout.TheVariants.{ByName}
use Rattle.openapi_text.specs.declared.rewriting.Rewriting.TheVariants.{Settle}

-- the normalized value of a node nests its lists and objects no deeper than the node does, and neither does its stable form,
-- for every kind
abbrev pub NestsNoDeeper : Type 0
NestsNoDeeper =
    (k : Kind) (t : Tree) → (nesting (clean final_tables k t) ≤ nesting t) × (nesting (settled k t) ≤ nesting t)

-- the bytes are the text of a document, and this is what `settle` writes for it
abbrev pub IsSettledTo : Layout → List ℕ → List ℕ → Type 0
IsSettledTo l bytes text =
    IsTextOf l bytes (λ t. (conforms final_tables (kind_of Settle) t ≡ true) × (text ≡ text_in l (rewritten Settle t)))

-- what `settle` writes is the text of a document, and for that it writes the same text and no other
abbrev pub SettledTextStays : Type 0
SettledTextStays = (l : Layout) (bytes text : List ℕ) → IsUtf8 text → IsSettledTo l bytes text
    → IsSettledTo l text text × ((other : List ℕ) → IsSettledTo l text other → other ≡ text)

-- what `settle` writes by name is read by name as the node in stable form, with its members by name
abbrev pub SettledTextReads : Type 0
SettledTextReads = (bytes text : List ℕ) → IsUtf8 text → IsSettledTo ByName bytes text
    → IsTextOf ByName bytes (λ t. IsTreeOfText text (tree_by_name (rewritten Settle t)))
