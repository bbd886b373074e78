-- The forms of Rust values, and the slots that an object is written as.
use Rattle.std.specs.Prelude.{ℕ, ℤ, pos, Bool, ◌||◌, List, ◌∷◌, Option, Some, None, String, string_bytes}
use Rattle.std.specs.Global.{Vec}
use Rattle.std.specs.declared.alloc.Global.{Global}
use Rattle.openapi_map.specs.Entries.{Entries}
use Rattle.openapi_node.specs.Tree.{Tree, null, flag, whole, text}
use Rattle.openapi_tables.specs.Lists.{each, same_text}
use Rattle.openapi_tables.specs.Kind.{TableName, Case, constant}
use Rattle.openapi_tables.specs.Tables.{final_tables}
use Rattle.openapi_tables.specs.Members.{plain, tag, case_rows}
use Rattle.openapi_tables.specs.Form.{Form, absent, leaf, sequence, named, deciding, fields, forms_of, named_of}
use Rattle.openapi_tables.specs.Slots.{Slot, slots, pairs_of}
use Rattle.openapi_fields.specs.declared.either.Either.{Either}
use Rattle.openapi_fields.specs.declared.either.Either.TheVariants.{First, Second}

-- the form of a string
abbrev pub text_form : String Global → Form
text_form s = leaf (text (string_bytes s))

-- the form of a flag
abbrev pub flag_form : Bool → Form
flag_form b = leaf (flag b)

-- the form of a value that may be absent
abbrev pub optional_form : {X : Type 0} → (X → Form) → Option X → Form
optional_form view None = absent
optional_form view (Some x) = view x

-- the form of a value that may be null
abbrev pub nullable_form : {X : Type 0} → (X → Form) → Option X → Form
nullable_form view None = leaf null
nullable_form view (Some x) = view x

-- the form of a list, in its order
abbrev pub list_form : {X : Type 0} → (X → Form) → Vec X → Form
list_form view v = sequence (forms_of (each view v.items))

-- the form of a map by names, in its order
abbrev pub map_form : {X : Type 0} → (X → Form) → Entries X → Form
map_form view m = named (named_of (pairs_of view m))

-- the form of the extensions of an object
abbrev pub extensions_form : Entries Tree → Form
extensions_form = map_form leaf

-- the form of an object of a field table, by the forms of its rows
abbrev pub record_form : {X : Type 0} → (X → List Form) → X → Form
record_form rows x = fields plain (forms_of (rows x))

-- the slots of an object of a field table
abbrev pub record_slots : {X : Type 0} → TableName → (X → List Form) → X → List Slot
record_slots i rows x = slots (final_tables i) (rows x)

-- the form of a whole number
abbrev pub number_form : ℤ → Form
number_form z = leaf (whole z)

-- the form of a size
abbrev pub size_form : ℕ → Form
size_form n = leaf (whole (pos n))

-- whether a name is one of two
abbrev pub is_either : List ℕ → List ℕ → List ℕ → Bool
is_either a b n = same_text a n || same_text b n

-- the form of a field of two names: the name that decides, with the form of its value
abbrev pub either_form : {X Y : Type 0} → List ℕ → (X → Form) → List ℕ → (Y → Form) → Either X Y → Form
either_form a f b g (First x) = deciding a (f x)
either_form a f b g (Second y) = deciding b (g y)

-- the form of an object of the table that its tag selects: the word of the tag, `absent` for its row, and the forms of the
-- other rows
abbrev pub tagged_form : {X : Type 0} → (X → List ℕ) → (X → List Form) → X → Form
tagged_form word rows x = fields (tag (word x)) (forms_of (absent ∷ rows x))

-- the slots of an object of the table that its tag selects
abbrev pub tagged_slots : {X : Type 0} → List ℕ → List Case → (X → List ℕ) → (X → List Form) → X → List Slot
tagged_slots n cs word rows x =
    (constant n (word x), absent) ∷ slots (case_rows final_tables cs (word x)) (rows x)
