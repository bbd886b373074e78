-- How texts are read as nodes and written from them, by name or in order, and what a failure states about a text.
use Rattle.std.specs.Prelude.{◌≡◌, ◌≢◌, ◌⊎◌, ℕ, List, [], ◌∷◌, ◌++◌, take, Option, Some, None, false, Result, Ok, Err, codes}
use Rattle.std.specs.Io.KnownBytes.{Appends}
use Rattle.std.specs.Str.{IsUtf8}
use Rattle.json.specs.Layout.{pretty}
use Rattle.serde_json.specs.Data.{Data}
use Rattle.serde_json.specs.Read.{read}
use Rattle.serde_json.specs.Written.{compact_text}
use Rattle.openapi_json.specs.Ordered.{IsTreeInOrder}
use Rattle.openapi_json.specs.Reading.{IsTreeOfText}
use Rattle.openapi_json.specs.Writing.{data_in_order, data_tokens}
use Rattle.openapi_json.specs.declared.fault.JsonFault.{JsonFault}
use Rattle.openapi_json.specs.declared.fault.JsonFault.TheVariants as unread
use Rattle.openapi_node.specs.Json.{data_of, IsNotWhole}
use Rattle.openapi_node.specs.Tree.{Tree}
use Rattle.openapi_node.specs.declared.fault.Cause.TheVariants as causes
use Rattle.openapi_tables.specs.Kind.{Kind, a_schema, by, open_api, tag}
use Rattle.openapi_tables.specs.Tables.{final_tables}
use Rattle.openapi_tables.specs.Conforms.{conforms}
use Rattle.openapi_tables.specs.Print.{clean}
use Rattle.openapi_fields.specs.Returned.{Fails}
use Rattle.openapi_fields.specs.Settled.{settled}
use Rattle.openapi_text.specs.declared.fault.RunFault.{RunFault}
use Rattle.openapi_text.specs.declared.fault.RunFault.TheVariants.{Refused, NotJson, Memory, Read, Write}
use Rattle.openapi_text.specs.declared.layout.Layout.{Layout}
use Rattle.openapi_text.specs.declared.layout.Layout.TheVariants.{ByName, InOrder, Pretty}
use Rattle.openapi_text.specs.declared.rewriting.Rewriting.{Rewriting}
use Rattle.openapi_text.specs.declared.rewriting.Rewriting.TheVariants.{Tag, Schema, Document, Settle}

-- the bytes are JSON in UTF-8 whose numbers are all whole, and this is the node that they are read as, by name or in order
abbrev pub IsTreeBy : Layout → List ℕ → Tree → Type 0
IsTreeBy ByName bytes t = IsTreeOfText bytes t
IsTreeBy InOrder bytes t = IsTreeInOrder bytes t
IsTreeBy Pretty bytes t = IsTreeInOrder bytes t

-- the same, and `P` holds for the node
pub record IsTextOf (l : Layout) (bytes : List ℕ) (P : Tree → Type 0) : Type 0 where
  pub tree : Tree
  pub is : IsTreeBy l bytes tree
  pub holds : P tree

-- the text of a node, with the line feed at the end
abbrev pub text_in : Layout → Tree → List ℕ
text_in ByName t = compact_text (data_of t) ++ 10 ∷ []
text_in InOrder t = compact_text (data_in_order t) ++ 10 ∷ []
text_in Pretty t = pretty (data_tokens (data_in_order t)) ++ 10 ∷ []

-- the kind of object that a rewriting reads
abbrev pub kind_of : Rewriting → Kind
kind_of Tag = by tag
kind_of Schema = a_schema
kind_of Document = by open_api
kind_of Settle = by open_api

-- the word that names a rewriting
abbrev pub word_of : Rewriting → List ℕ
word_of Tag = codes "tag"
word_of Schema = codes "schema"
word_of Document = codes "document"
word_of Settle = codes "settle"

-- the rewriting has that word, or no rewriting has it
abbrev pub IsRewritingOf : List ℕ → Result Rewriting (Unit {0}) → Type 0
IsRewritingOf word (Ok r) = word ≡ word_of r
IsRewritingOf word (Err e) = (r : Rewriting) → word ≢ word_of r

-- the node that a rewriting makes from the node of an object: the normalized one, or for `Settle` the one in stable form
abbrev pub rewritten : Rewriting → Tree → Tree
rewritten Tag t = clean final_tables (by tag) t
rewritten Schema t = clean final_tables a_schema t
rewritten Document t = clean final_tables (by open_api) t
rewritten Settle t = settled (by open_api) t

-- the failure of a run on bytes that are not read as a node
abbrev pub run_fault_of : JsonFault → RunFault
run_fault_of unread.NotJson = NotJson
run_fault_of (unread.NotWhole f) = Refused f
run_fault_of unread.Memory = Memory

-- the bytes are not UTF-8, or not JSON
abbrev pub IsNoJson : List ℕ → Type 0
IsNoJson bytes = IsUtf8 bytes → read bytes ≡ None

-- the node does not conform to the kind, and the error contains a location in it and the cause that is broken there
abbrev pub IsRefusalOf : Kind → Tree → RunFault → Type 0
IsRefusalOf k t (Refused f) = (conforms final_tables k t ≡ false) × (f.cause ≢ causes.Memory) × Fails f k t
IsRefusalOf k t NotJson = ⊥
IsRefusalOf k t Memory = ⊥
IsRefusalOf k t Read = ⊥
IsRefusalOf k t Write = ⊥

-- why a node was not rewritten: an allocation failed, or the node is rejected
abbrev pub IsFaultOf : Kind → Tree → RunFault → Type 0
IsFaultOf k t e = (e ≡ Memory) ⊎ IsRefusalOf k t e

-- the error contains the location of a number that is not whole
abbrev pub IsUnwhole : Data → RunFault → Type 0
IsUnwhole d (Refused f) = IsNotWhole d f
IsUnwhole d NotJson = ⊥
IsUnwhole d Memory = ⊥
IsUnwhole d Read = ⊥
IsUnwhole d Write = ⊥

-- the bytes are JSON in UTF-8 with a number that is not whole, whose location the error contains
pub record HoldsFraction (bytes : List ℕ) (e : RunFault) : Type 0 where
  pub utf8 : IsUtf8 bytes
  pub value : Data
  pub reads : read bytes ≡ Some value
  pub names : IsUnwhole value e

-- why no node was read from the bytes: an allocation failed, they are not JSON in UTF-8, or a number is not whole
abbrev pub IsUnread : List ℕ → RunFault → Type 0
IsUnread bytes e = (e ≡ Memory) ⊎ (((e ≡ NotJson) × IsNoJson bytes) ⊎ HoldsFraction bytes e)

-- why no text is made of the bytes: one of these reasons, or the node that they are read as is rejected
abbrev pub Explains : Layout → Kind → List ℕ → RunFault → Type 0
Explains l k bytes (Refused f) = HoldsFraction bytes (Refused f) ⊎ IsTextOf l bytes (λ t. IsRefusalOf k t (Refused f))
Explains l k bytes NotJson = IsNoJson bytes
Explains l k bytes Memory = Unit {0}
Explains l k bytes Read = ⊥
Explains l k bytes Write = ⊥

-- the writer contains what it contained before, followed by a prefix of the text
abbrev pub AppendsPart : Option (List ℕ) → Option (List ℕ) → List ℕ → Type 0
AppendsPart old new text = (n : ℕ) × Appends old new (take n text)
