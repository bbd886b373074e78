-- What the words of the command line mean.
use Rattle.std.specs.Prelude.{◌≡◌, ◌≢◌, ℕ, List, [], ◌∷◌, Option, Some, None, Result, Ok, Err, codes}
use Rattle.openapi_tables.specs.Kind.{Kind, a_schema, by, open_api, tag}
use Rattle.openapi_clean.specs.declared.command.Command.{Command}
use Rattle.openapi_clean.specs.declared.command.Command.TheVariants.{Tag, Schema, Document, Settle, Operations}

-- the word of a command
abbrev pub word_of : Command → List ℕ
word_of Tag = codes "tag"
word_of Schema = codes "schema"
word_of Document = codes "document"
word_of Settle = codes "settle"
word_of Operations = codes "operations"

-- the kind of object that a command reads
abbrev pub kind_of : Command → Kind
kind_of Tag = by tag
kind_of Schema = a_schema
kind_of Document = by open_api
kind_of Settle = by open_api
kind_of Operations = by open_api

-- the command has that word, or no command has it
abbrev pub IsCommandOf : List ℕ → Result Command (Unit {0}) → Type 0
IsCommandOf word (Ok c) = word ≡ word_of c
IsCommandOf word (Err e) = (c : Command) → word ≢ word_of c

-- the words of a command line are the name of the program, the word of the command and no other word; or they are the words
-- of no command
abbrev pub AreWordsOf : List (List ℕ) → Option Command → Type 0
AreWordsOf words (Some c) = (program : List ℕ) × (words ≡ program ∷ word_of c ∷ [])
AreWordsOf words None = (c : Command) (program : List ℕ) → words ≢ program ∷ word_of c ∷ []

-- the line for wrong arguments
abbrev pub usage_line : List ℕ
usage_line = codes "usage: openapi_clean tag|schema|document|settle|operations"
