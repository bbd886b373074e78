-- How findings are printed.
use Rattle.std.specs.Prelude.{ℕ, ◌+◌, Bool, if◌then◌else◌, List, [], ◌∷◌, ◌++◌, Option, Some, None, codes, decimal, length, option_map, replicate, string_bytes}
use Rattle.openapi_json.specs.declared.position.Point.{Point}
use Rattle.openapi_node.specs.declared.fault.PlaceStep.{PlaceStep}
use Rattle.openapi_findings.specs.Escaped.{in_blank, in_message, in_property, on_terminal, pointer_text, quoted, quoted_pointer, written}
use Rattle.openapi_findings.specs.Excerpts.{Part, part_around}
use Rattle.openapi_findings.specs.Findings.{point_of}
use Rattle.openapi_findings.specs.Stated.{code_word, severity_of, severity_word}
use Rattle.openapi_findings.specs.declared.code.Severity.{Severity}
use Rattle.openapi_findings.specs.declared.code.Severity.TheVariants as severity
use Rattle.openapi_findings.specs.declared.finding.Finding.{Finding}

-- the word for the severity of a finding
abbrev pub severity_text : Finding → List ℕ
severity_text f = severity_word (severity_of f.code)

-- ---- as an object of JSON

-- the line and the column of a point, or `null`
unfoldable pub json_point : Option Point → List ℕ
json_point None = codes ",\"line\":null,\"column\":null"
json_point (Some p) = codes ",\"line\":" ++ decimal p.line ++ codes ",\"column\":" ++ decimal p.column

-- a location as a JSON Pointer, or `null`
unfoldable pub json_place : Option (List PlaceStep) → List ℕ
json_place None = codes ",\"pointer\":null"
json_place (Some p) = codes ",\"pointer\":" ++ quoted_pointer p

-- the severity, the code and the message
unfoldable pub json_words : Finding → List ℕ
json_words f =
    codes ",\"severity\":\"" ++ severity_text f
    ++ codes "\",\"code\":\"" ++ code_word f.code
    ++ codes "\",\"message\":" ++ quoted (string_bytes f.message)

-- a help text, or `null`
unfoldable pub json_help : Option (List ℕ) → List ℕ
json_help None = codes ",\"help\":null"
json_help (Some text) = codes ",\"help\":" ++ quoted text

-- a finding of a file as an object of JSON
unfoldable pub json_text : List ℕ → Finding → List ℕ
json_text file f =
    codes "{\"file\":" ++ quoted file
    ++ json_point (point_of f)
    ++ json_place (option_map (λ p. p.items) f.place)
    ++ json_words f
    ++ json_help (option_map string_bytes f.help)
    ++ codes "}"

-- ---- as a workflow command of GitHub

-- the line and the column of a point, if there is one
unfoldable pub github_point : Option Point → List ℕ
github_point None = []
github_point (Some p) = codes ",line=" ++ decimal p.line ++ codes ",col=" ++ decimal p.column

-- the name of the command for findings of a severity
abbrev pub command_word : Severity → List ℕ
command_word severity.Error = codes "error"
command_word severity.Warning = codes "warning"
command_word severity.Note = codes "notice"

-- a finding of a file as a workflow command
unfoldable pub github_text : List ℕ → Finding → List ℕ
github_text file f =
    codes "::" ++ command_word (severity_of f.code)
    ++ codes " file=" ++ written in_property file
    ++ github_point (point_of f)
    ++ codes "::" ++ written in_message (string_bytes f.message)

-- ---- for people

-- spaces
abbrev pub spaces : ℕ → List ℕ
spaces n = replicate n 32

-- the width of the margin beside the lines of the text: one more than that of the line number, and 2 if there is no point
abbrev pub margin_of : Option Point → ℕ
margin_of None = 2
margin_of (Some p) = length (decimal p.line) + 1

-- `SEVERITY[CODE]: MESSAGE`
unfoldable pub title : Finding → List ℕ
title f =
    severity_text f ++ codes "[" ++ code_word f.code ++ codes "]: "
    ++ written on_terminal (string_bytes f.message) ++ codes "\n"

-- `--> FILE`
unfoldable pub file_line : List ℕ → List ℕ
file_line file = codes "  --> " ++ written on_terminal file ++ codes "\n"

-- `:LINE:COLUMN`
unfoldable pub numbers : Point → List ℕ
numbers p = codes ":" ++ decimal p.line ++ codes ":" ++ decimal p.column ++ codes "\n"

-- `--> FILE:LINE:COLUMN`
unfoldable pub point_line : ℕ → List ℕ → Point → List ℕ
point_line m file p = spaces m ++ codes "--> " ++ written on_terminal file ++ numbers p

-- the bar beside the lines of the text
unfoldable pub bar : ℕ → List ℕ
bar m = spaces m ++ codes " |"

-- three dots where a line is cut
abbrev pub dots_if : Bool → List ℕ
dots_if cut = if cut then codes "..." else []

-- a space before a part of a line that is not empty
abbrev pub space_if_any : List ℕ → List ℕ → List ℕ
space_if_any [] [] = []
space_if_any xs ys = codes " "

abbrev pub space_before : Part → List ℕ
space_before p = space_if_any p.before p.after

-- the part of a line
unfoldable pub excerpt : Part → List ℕ
excerpt p =
    space_before p ++ dots_if p.cut_before
    ++ written on_terminal p.before ++ written on_terminal p.after
    ++ dots_if p.cut_after ++ codes "\n"

-- the spaces below the space and the dots before a part of a line
abbrev pub blank_before : Bool → List ℕ
blank_before cut = if cut then codes "    " else codes " "

-- the mark below the first character after the point
unfoldable pub mark : Part → List ℕ
mark p = blank_before p.cut_before ++ written in_blank p.before ++ codes "^\n"

-- a part of a line beside its line number, with the mark below it
unfoldable pub marked : ℕ → ℕ → Part → List ℕ
marked m line p = bar m ++ codes "\n " ++ decimal line ++ codes " |" ++ excerpt p ++ bar m ++ mark p

unfoldable pub lines : ℕ → List ℕ → List ℕ → Point → List ℕ
lines m file bytes p = point_line m file p ++ marked m p.line (part_around bytes p.offset)

-- the file, and the line of the point if there is one
unfoldable pub where_text : ℕ → List ℕ → List ℕ → Option Point → List ℕ
where_text m file bytes None = file_line file
where_text m file bytes (Some p) = lines m file bytes p

-- a location as a JSON Pointer, or `(root)` for that of the root
abbrev pub steps_or_root : List PlaceStep → List ℕ
steps_or_root [] = codes "(root)"
steps_or_root (s ∷ steps) = pointer_text on_terminal (s ∷ steps)

unfoldable pub place_line : ℕ → Option (List PlaceStep) → List ℕ
place_line m None = []
place_line m (Some steps) = spaces m ++ codes " = pointer: " ++ steps_or_root steps ++ codes "\n"

unfoldable pub help_line : ℕ → Option (List ℕ) → List ℕ
help_line m None = []
help_line m (Some text) = spaces m ++ codes " = help: " ++ written on_terminal text ++ codes "\n"

-- a finding of a file with these bytes
unfoldable pub person_text : List ℕ → List ℕ → Finding → List ℕ
person_text file bytes f =
    let m = margin_of (point_of f) in
    title f ++ where_text m file bytes (point_of f)
    ++ place_line m (option_map (λ p. p.items) f.place)
    ++ help_line m (option_map string_bytes f.help)
