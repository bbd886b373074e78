-- The forms of the fields of each sort of schema, given those of the kind names, each of which is read as an optional
-- field.
use Rattle.std.specs.Prelude.{ℕ, false, cond, List, [], ◌∷◌}
use Rattle.openapi_node.specs.Tree.{flag, text}
use Rattle.openapi_tables.specs.Lists.{each, has, same_text}
use Rattle.openapi_tables.specs.Kind.{
  format,
  required,
  optional,
  nullable,
  listed,
  flagged,
  styled,
  formatted,
  Row,
  row,
  either,
  class,
  constant,
}
use Rattle.openapi_tables.specs.Members.{Sort, sort_rows, kind_names, row_name, made_optional}
use Rattle.openapi_tables.specs.Tables.{any_rows}
use Rattle.openapi_tables.specs.Form.{Form, absent, leaf, known, other, unset}
use Rattle.openapi_tables.specs.Read.{empty_of}

-- the rows of all kind names, each optional
unfoldable pub optional_rows : List Row
optional_rows = each made_optional any_rows

-- the form `f`, or the default `d` if `f` is `absent`
abbrev pub or_else : Form → Form → Form
or_else d absent = d
or_else d f = f

-- an optional text as a format: `known` for a text in `ws`, else `other`; `unset` if it is absent
abbrev pub as_format : List (List ℕ) → Form → Form
as_format ws absent = unset
as_format ws (leaf (text s)) = cond (has ws s) (known s) (other s)
as_format ws f = f

-- the form of a field, given the form of the optional field of the same name
abbrev pub slot_as : Row → Form → Form
slot_as (row n required k) f = f
slot_as (row n optional k) f = f
slot_as (row n nullable k) f = f
slot_as (row n listed k) f = or_else (empty_of k) f
slot_as (row n flagged k) f = or_else (leaf (flag false)) f
slot_as (row n (styled s) k) f = or_else (leaf (text s)) f
slot_as (row n formatted (format ws b)) f = as_format ws f
slot_as (row n formatted k) f = f
slot_as (either a j b k) f = f
slot_as (class c k) f = f
slot_as (constant n v) f = absent

-- the form of a name, given names and their forms; `absent` for a name without a form
abbrev pub slot_of : List (List ℕ) → List Form → List ℕ → Form
slot_of [] fs n = absent
slot_of (m ∷ ms) [] n = absent
slot_of (m ∷ ms) (f ∷ fs) n = cond (same_text m n) f (slot_of ms fs n)

-- the forms of the fields of a sort, given those of the kind names
unfoldable pub sort_slots : Sort → List Form → List Form
sort_slots s fs = each (λ w. slot_as w (slot_of kind_names fs (row_name w))) (sort_rows s)
