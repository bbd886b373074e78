-- How the characters of a text are printed: for a terminal, in a string of JSON, in a workflow command of GitHub.
use Rattle.std.specs.Prelude.{ℕ, ◌/◌, ◌%◌, Bool, false, ◌||◌, ◌==◌, nat_lt, if◌then◌else◌, List, [], ◌∷◌, ◌++◌, chars, codes, decimal, encode_utf8, flat_map, string_bytes}
use Rattle.std.specs.Char.{is_control}
use Rattle.std.specs.Fmt.{digit_glyph}
use Rattle.std.specs.Int.{is_in_range}
use Rattle.openapi_node.specs.declared.fault.PlaceStep.{PlaceStep}
use Rattle.openapi_node.specs.declared.fault.PlaceStep.TheVariants.{Index, Name}
use Rattle.openapi_findings.specs.declared.escape.Escape.{Escape}
use Rattle.openapi_findings.specs.declared.escape.Escape.TheVariants as escape

-- ---- characters

-- whether a character begins or ends an embedding, an override or an isolate of the writing direction
abbrev pub is_directional : ℕ → Bool
is_directional c = is_in_range 0x202A 0x202E c || is_in_range 0x2066 0x2069 c

-- for a terminal: a tab is four spaces, and U+FFFD replaces control characters and those that change the writing direction
unfoldable pub on_terminal : ℕ → List ℕ
on_terminal c =
    if c == 9 then codes "    "
    else if is_directional c || is_control c then encode_utf8 0xFFFD
    else encode_utf8 c

-- as spaces, one for each character that `on_terminal` writes: four for a tab, and one for any other character
unfoldable pub in_blank : ℕ → List ℕ
in_blank c = if c == 9 then codes "    " else codes " "

-- in a string of JSON (RFC 8259, section 7): the quotation mark, the backslash and the control characters are escaped
unfoldable pub in_json : ℕ → List ℕ
in_json c =
    if c == 34 then codes "\\\""
    else if c == 92 then codes "\\\\"
    else if c == 10 then codes "\\n"
    else if c == 13 then codes "\\r"
    else if c == 9 then codes "\\t"
    else if nat_lt c 32 then codes "\\u00" ++ digit_glyph false (c / 16) ∷ digit_glyph false (c % 16) ∷ []
    else encode_utf8 c

-- in the message of a workflow command: `%`, the carriage return and the line feed are escaped
unfoldable pub in_message : ℕ → List ℕ
in_message c =
    if c == 37 then codes "%25"
    else if c == 13 then codes "%0D"
    else if c == 10 then codes "%0A"
    else encode_utf8 c

-- in a property of a workflow command: `:` and `,` are escaped too
unfoldable pub in_property : ℕ → List ℕ
in_property c =
    if c == 58 then codes "%3A"
    else if c == 44 then codes "%2C"
    else in_message c

abbrev pub escaped : Escape → ℕ → List ℕ
escaped escape.Terminal = on_terminal
escaped escape.Blank = in_blank
escaped escape.Json = in_json
escaped escape.Message = in_message
escaped escape.Property = in_property

-- ---- texts

-- a text with each character written by `e`
abbrev pub written : (ℕ → List ℕ) → List ℕ → List ℕ
written e text = flat_map e (chars text)

-- a string of JSON, with its quotes
unfoldable pub quoted : List ℕ → List ℕ
quoted text = 34 ∷ written in_json text ++ 34 ∷ []

-- ---- JSON Pointers (RFC 6901)

-- a character of a reference token: `~` is written as `~0`, `/` as `~1`, and any other one by `e`
abbrev pub in_token : (ℕ → List ℕ) → ℕ → List ℕ
in_token e c = if c == 126 then codes "~0" else if c == 47 then codes "~1" else e c

-- `/`, and a name or an index as a reference token
abbrev pub step_text : (ℕ → List ℕ) → PlaceStep → List ℕ
step_text e (Name n) = 47 ∷ written (in_token e) (string_bytes n)
step_text e (Index i) = 47 ∷ decimal i

abbrev pub pointer_text : (ℕ → List ℕ) → List PlaceStep → List ℕ
pointer_text e steps = flat_map (step_text e) steps

-- a JSON Pointer in a string of JSON, with its quotes
unfoldable pub quoted_pointer : List PlaceStep → List ℕ
quoted_pointer steps = 34 ∷ pointer_text in_json steps ++ 34 ∷ []
