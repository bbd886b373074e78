-- The measures that end mutually recursive functions: eight times the size of what is left to read or to write, plus a
-- number. For the same value, a caller has a greater number than what it calls.
use Rattle.std.proofs.Common.{ℕ, ◌+◌, ◌*◌, List}
use Rattle.openapi_map.specs.Entries.{Entries}
use Rattle.openapi_node.specs.Tree.{Tree, members_of, members_size, size_of}
use Rattle.openapi_node.specs.View.{shown}
use Rattle.openapi_node.specs.declared.node.View.{View}
use Rattle.openapi_tables.specs.Prelude.{Form}
use Rattle.openapi_fields.proofs.FormSizes.{form_size, rows_size}

-- the measure of a value that was accessed and is left to read
abbrev pub view_left : View → ℕ → ℕ
view_left v n = 8 * size_of (shown v) + n

-- the measure of the members of an object that are left to read
abbrev pub members_left : Entries Tree → ℕ → ℕ
members_left ms n = 8 * members_size (members_of ms) + n

-- the measure of a form that is left to write
abbrev pub form_left : Form → ℕ → ℕ
form_left f n = 8 * form_size f + n

-- the measure of the forms of an object's rows that are left to write
abbrev pub rows_left : List Form → ℕ → ℕ
rows_left fs n = 8 * rows_size fs + n
