use Rattle.std.proofs.Common.{◌≡◌, map, drop}
use Rattle.openapi_tables.specs.Lists.{has}
use Rattle.openapi_values.proofs.word.Word.from_word.Given as goal

-- the text is a word of the set exactly if it is the word of a value that is left
abbrev pub invariant-loop-value : goal.invariant-loop-value
invariant-loop-value g l =
    has g.Self.Word.words l.text ≡ has (map g.Self.Word.word_of (drop l.value-index l.value-items)) l.text
