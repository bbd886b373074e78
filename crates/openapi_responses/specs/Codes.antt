-- Maps by status codes, as they are read and written: the form of a map, the name that a code is written under, and the
-- errors of writing one entry.
use Rattle.std.specs.Prelude.{◌≡◌, ℕ, false, List, [], ◌∷◌, ◌⊎◌}
use Rattle.std.specs.declared.hash.FoldHasher.{FoldHasher}
use Rattle.std.specs.declared.hash.BuildHasherDefault.{BuildHasherDefault}
use Rattle.indexmap.specs.IndexMap.{IndexMap}
use Rattle.openapi_node.specs.Fault.{IsMemory, place_of}
use Rattle.openapi_node.specs.Place.{named}
use Rattle.openapi_node.specs.declared.fault.Cause.TheVariants.{NameNotWritable}
use Rattle.openapi_node.specs.declared.fault.Fault.{Fault}
use Rattle.openapi_tables.specs.Kind.{Kind, text_of, writable_code}
use Rattle.openapi_tables.specs.Tables.{final_tables}
use Rattle.openapi_tables.specs.Form.{Form, Pair, coded, named as named_form, named_of}
use Rattle.openapi_tables.specs.Unwritable.{unwritable}
use Rattle.openapi_values.specs.StatusCode.{code_in}
use Rattle.openapi_values.specs.declared.status_code.StatusCode.{StatusCode}
use Rattle.openapi_fields.specs.Returned.{NotWritableBelow}

-- a map by status codes
abbrev pub Coded : Type 0 → Type 0
Coded X = IndexMap StatusCode X (BuildHasherDefault FoldHasher)

-- its entries as a form holds them, each under its code
abbrev pub coded_pairs : {X : Type 0} → (X → Form) → List (StatusCode × X) → List (Pair Form)
coded_pairs view [] = []
coded_pairs view (e ∷ es) = record { key = coded (code_in e.0); value = view e.1 } ∷ coded_pairs view es

-- its form: the entries in their order
abbrev pub coded_form : {X : Type 0} → (X → Form) → Coded X → Form
coded_form view m = named_form (named_of (coded_pairs view m.entries))

-- the name that a code is written under
abbrev pub code_text : StatusCode → List ℕ
code_text s = text_of (code_in s)

-- an error of writing one entry: an unwritable code at the location of the entry, an error of writing its value, or an
-- allocation failure
abbrev pub CodeNotWritable : {X : Type 0} → (X → Form) → Kind → Fault → StatusCode → X → Type 0
CodeNotWritable view k f s x =
    IsMemory f
    ⊎ (((writable_code (code_in s) ≡ false) × (f.cause ≡ NameNotWritable) × (place_of f ≡ named (code_text s) ∷ []))
    ⊎ NotWritableBelow (named (code_text s)) f (unwritable final_tables k (view x)))
