-- Functions that make the rows of field tables, by how a member is read and written.
use Prim.Native.String.{String}
use Rattle.std.specs.Prelude.{ℕ, true, List, [], ◌∷◌, codes}
use Rattle.openapi_tables.specs.Kind.{Kind, any_flag, any_tree, one_of, format, Case, required, optional, nullable}
use Rattle.openapi_tables.specs.Kind.{listed, flagged, styled, formatted, Row, row, either, class, extensions}
use Rattle.openapi_tables.specs.Kind.{TableName}

-- a member that must be present, where null is a value that its kind accepts or rejects
abbrev pub required_row : String → Kind → Row
required_row n k = row (codes n) required k

-- a member that may be missing or null, and is then not written
abbrev pub optional_row : String → Kind → Row
optional_row n k = row (codes n) optional k

-- a member that may be missing or null, and is then written as null
abbrev pub nullable_row : String → Kind → Row
nullable_row n k = row (codes n) nullable k

-- a list or map that is empty when missing, and is not written when empty
abbrev pub list_row : String → Kind → Row
list_row n k = row (codes n) listed k

-- a boolean that is false when missing, and is written when true
abbrev pub flag_row : String → Row
flag_row n = row (codes n) flagged any_flag

-- one string of a set, which is the default when missing, and is always written
abbrev pub style_row : String → String → List (List ℕ) → Row
style_row n s ws = row (codes n) (styled (codes s)) (one_of ws)

-- the name of a format: one of the known formats or any other string. It may also be missing or null
abbrev pub format_row : String → List (List ℕ) → Row
format_row n ws = row (codes n) formatted (format ws true)

-- two members of which one must be present, and the first in the object is read
abbrev pub either_row : String → Kind → String → Kind → Row
either_row a j b k = either (codes a) j (codes b) k

-- specification extensions: all members whose name begins with `x-`, with any value
abbrev pub extension_rows : List Row
extension_rows = class extensions any_tree ∷ []

-- the text of a tag, with the table that it selects
abbrev pub case : String → TableName → Case
case w n = record { word = codes w; table = n }
