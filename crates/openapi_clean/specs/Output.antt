-- What the program writes for its input, and the exit status of each outcome of a run.
use Rattle.std.specs.Prelude.{◌≡◌, ℕ, List, [], ◌∷◌, ◌++◌, true}
use Rattle.openapi_node.specs.Tree.{Tree}
use Rattle.openapi_tables.specs.Conforms.{conforms}
use Rattle.openapi_tables.specs.Kind.{by, open_api}
use Rattle.openapi_tables.specs.Operations.{Operation, ops}
use Rattle.openapi_tables.specs.Read.{form}
use Rattle.openapi_tables.specs.Tables.{final_tables}
use Rattle.openapi_text.specs.Status.{status_of}
use Rattle.openapi_text.specs.Texts.{IsTextOf, rewritten, text_in}
use Rattle.openapi_text.specs.declared.layout.Layout.TheVariants.{ByName}
use Rattle.openapi_text.specs.declared.rewriting.Rewriting.TheVariants as rewriting
use Rattle.openapi_clean.specs.Commands.{kind_of}
use Rattle.openapi_clean.specs.declared.command.Command.{Command}
use Rattle.openapi_clean.specs.declared.command.Command.TheVariants.{Tag, Schema, Document, Settle, Operations}
use Rattle.openapi_clean.specs.declared.outcome.Outcome.{Outcome}
use Rattle.openapi_clean.specs.declared.outcome.Outcome.TheVariants.{Written, WrongArguments, Failed}

-- the line of an operation: its method, a space, its path, and the end of the line
abbrev pub operation_line : (path method : List ℕ) → List ℕ
operation_line path method = method ++ 32 ∷ path ++ 10 ∷ []

-- the lines of operations
abbrev pub lines_of : List Operation → List ℕ
lines_of [] = []
lines_of (o ∷ os) = operation_line o.path o.method ++ lines_of os

-- what a command writes for a node: a line of compact JSON, with members by name, or the lines of the operations
abbrev pub text_for : Command → Tree → List ℕ
text_for Tag t = text_in ByName (rewritten rewriting.Tag t)
text_for Schema t = text_in ByName (rewritten rewriting.Schema t)
text_for Document t = text_in ByName (rewritten rewriting.Document t)
text_for Settle t = text_in ByName (rewritten rewriting.Settle t)
text_for Operations t = lines_of (ops (form final_tables (by open_api) t))

-- the bytes are JSON whose node conforms to the kind of the command, and the text is what the command writes for that node
abbrev pub IsAnswer : Command → List ℕ → List ℕ → Type 0
IsAnswer c bytes text = IsTextOf ByName bytes (λ t. (conforms final_tables (kind_of c) t ≡ true) × (text ≡ text_for c t))

-- the exit status of a run
abbrev pub status_at_end : Outcome → ℕ
status_at_end Written = 0
status_at_end WrongArguments = 2
status_at_end (Failed e) = status_of e
