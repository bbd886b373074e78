-- Where the tokens of a JSON text begin, byte by byte, in terms of the modes and the byte classes of the lexer of `json`.
use Rattle.std.specs.Prelude.{◌≡◌, ℕ, ◌+◌, List, [], ◌∷◌, Bool, true, false, cond}
use Rattle.std.specs.List.{AllByRecursion}
use Rattle.json.specs.Lex.{Class, quote, backslash, operator, space, other, class, Lexeme, token, comma, colon, operator_lexeme}
use Rattle.json.specs.Lex as lexing
use Rattle.json.specs.Token.{Token, bad}
use Rattle.openapi_json.specs.declared.scan.Mode.{Mode}
use Rattle.openapi_json.specs.declared.scan.Mode.TheVariants.{Between, Word, Text, Escape}

-- the mode of the lexer of `json` that a `Mode` represents
abbrev pub mode_of : Mode → lexing.Mode
mode_of Between = lexing.between
mode_of Word = lexing.in_word
mode_of Text = lexing.in_string
mode_of Escape = lexing.in_escape

-- the mode after a byte of a class
abbrev pub next_mode : lexing.Mode → Class → lexing.Mode
next_mode lexing.between quote = lexing.in_string
next_mode lexing.between backslash = lexing.in_word
next_mode lexing.between operator = lexing.between
next_mode lexing.between space = lexing.between
next_mode lexing.between other = lexing.in_word
next_mode lexing.in_word quote = lexing.in_word
next_mode lexing.in_word backslash = lexing.in_word
next_mode lexing.in_word operator = lexing.between
next_mode lexing.in_word space = lexing.between
next_mode lexing.in_word other = lexing.in_word
next_mode lexing.in_string quote = lexing.between
next_mode lexing.in_string backslash = lexing.in_escape
next_mode lexing.in_string operator = lexing.in_string
next_mode lexing.in_string space = lexing.in_string
next_mode lexing.in_string other = lexing.in_string
next_mode lexing.in_escape c = lexing.in_string

abbrev pub is_token : Lexeme → Bool
is_token (token t) = true
is_token comma = false
is_token colon = false

-- whether a token begins at the byte `x` of a class, in a mode
abbrev pub begins : lexing.Mode → Class → ℕ → Bool
begins lexing.between quote x = true
begins lexing.between backslash x = true
begins lexing.between operator x = is_token (operator_lexeme x)
begins lexing.between space x = false
begins lexing.between other x = true
begins lexing.in_word quote x = false
begins lexing.in_word backslash x = false
begins lexing.in_word operator x = is_token (operator_lexeme x)
begins lexing.in_word space x = false
begins lexing.in_word other x = false
begins lexing.in_string c x = false
begins lexing.in_escape c x = false

-- the offsets at which tokens begin in bytes, where the first byte has the offset `i` and is read in the mode `m`
abbrev pub starts_from : lexing.Mode → ℕ → List ℕ → List ℕ
starts_from m i [] = []
starts_from m i (x ∷ xs) =
    let later = starts_from (next_mode m (class x)) (i + 1) xs in
    cond (begins m (class x) x) (i ∷ later) later

-- the offsets at which the tokens of a text begin, one after another
abbrev pub starts : List ℕ → List ℕ
starts text = starts_from lexing.between 0 text

-- none of the tokens is `bad`
abbrev pub AreGood : List Token → Type 0
AreGood ts = AllByRecursion (λ t. t ≡ bad → ⊥) ts
