-- The normalized text of an object, and the failures for which there is none.
use Rattle.std.specs.Prelude.{◌≡◌, ◌≢◌, ℕ, ◌==◌, Bool, cond, true, false, List, [], ◌∷◌, ◌++◌, length, Option, Some, None, Result, Ok, Err, codes}
use Rattle.json.specs.Layout.{pretty}
use Rattle.serde_json.specs.Data.{Data}
use Rattle.serde_json.specs.Written.{compact_text}
use Rattle.openapi_json.specs.Ordered.{IsTreeInOrder}
use Rattle.openapi_json.specs.Writing.{data_in_order, data_tokens}
use Rattle.openapi_node.specs.Json.{data_of}
use Rattle.openapi_node.specs.Tree.{Tree}
use Rattle.openapi_tables.specs.Conforms.{conforms}
use Rattle.openapi_tables.specs.Kind.{Kind, a_schema, by, open_api, tag}
use Rattle.openapi_tables.specs.Print.{clean}
use Rattle.openapi_tables.specs.Tables.{final_tables}
use Rattle.openapi_fields.specs.Settled.{settled}
use Rattle.openapi_faults.specs.Dropped.{dropped_in}
use Rattle.openapi_normalize.specs.Indent.{indented}
use Rattle.openapi_normalize.specs.declared.failure.Failure.{Failure}
use Rattle.openapi_normalize.specs.declared.failure.Failure.TheVariants.{Read, Write, Memory, Refused}
use Rattle.openapi_text.specs.declared.refusal.Refusal.{Refusal}
use Rattle.openapi_normalize.specs.declared.task.Object.{Object}
use Rattle.openapi_normalize.specs.declared.task.Object.TheVariants.{Document, Schema, Tag}
use Rattle.openapi_normalize.specs.declared.task.Task.{Task}

-- the kind of an object
abbrev pub kind_of : Object → Kind
kind_of Document = by open_api
kind_of Schema = a_schema
kind_of Tag = by tag

-- the word for an object
abbrev pub word_of : Object → List ℕ
word_of Document = codes "document"
word_of Schema = codes "schema"
word_of Tag = codes "tag"

-- the object has that word, or no object has it
abbrev pub IsObjectOf : List ℕ → Result Object (Unit {0}) → Type 0
IsObjectOf word (Ok o) = word ≡ word_of o
IsObjectOf word (Err e) = (o : Object) → word ≢ word_of o

-- the value that is written for a value: in stable form if `settle` of the task is true, and otherwise normalized
abbrev pub normal : Task → Tree → Tree
normal task t = cond task.settle (settled (kind_of task.object) t) (clean final_tables (kind_of task.object) t)

-- the data of a value, with the members of each object by name if `sort` is true, and otherwise in their order
abbrev pub data_as : Bool → Tree → Data
data_as sort t = cond sort (data_of t) (data_in_order t)

-- the text with a line for each item and each member, and n spaces for each level
abbrev pub pretty_text : ℕ → Data → List ℕ
pretty_text n d = cond (n == 2) (pretty (data_tokens d)) (indented n (pretty (data_tokens d)))

abbrev pub laid_out : Option ℕ → Data → List ℕ
laid_out None d = compact_text d
laid_out (Some n) d = pretty_text n d

-- the text of a value, with the line feed at the end
abbrev pub text_for : Task → Tree → List ℕ
text_for task t = laid_out task.indent (data_as task.sort t) ++ 10 ∷ []

-- the bytes are the JSON text of an object that conforms; `text` is what is written for it, and `dropped` is the number of
-- members that reading it drops
pub record IsNormalized (task : Task) (bytes text : List ℕ) (dropped : ℕ) : Type 0 where
  pub tree : Tree
  pub reads : IsTreeInOrder bytes tree
  pub conforms : conforms final_tables (kind_of task.object) tree ≡ true
  pub prints : text ≡ text_for task (normal task tree)
  pub counts : dropped ≡ length (dropped_in (kind_of task.object) tree)

-- whether the reader was read to its end before a failure
abbrev pub has_read : Failure → Bool
has_read (Read e) = false
has_read (Write e) = true
has_read Memory = false
has_read (Refused bytes r) = true

-- whether the writer failed
abbrev pub is_write : Failure → Bool
is_write (Read e) = false
is_write (Write e) = true
is_write Memory = false
is_write (Refused bytes r) = false

-- `P` holds for the bytes and the `Refusal`, if the failure is `Refused`
abbrev pub IfRefused : Failure → (List ℕ → Refusal → Type 0) → Type 0
IfRefused (Read e) P = Unit {0}
IfRefused (Write e) P = Unit {0}
IfRefused Memory P = Unit {0}
IfRefused (Refused bytes r) P = P bytes.items r
