-- References, and the items that they replace.
use Rattle.std.specs.Prelude.{ℕ, List, Option, Some, None, string_bytes}
use Rattle.std.specs.declared.boxed.Box.{Box}
use Rattle.openapi_tables.specs.Form.{Form, reference, an_item}
use Rattle.openapi_values.specs.declared.reference.ReferenceOr.{ReferenceOr}
use Rattle.openapi_values.specs.declared.reference.ReferenceOr.TheVariants as v

-- the item, if it is not a reference
abbrev pub item_of : {X : Type 0} → ReferenceOr X → Option X
item_of (v.Reference r) = None
item_of (v.Item x) = Some x

-- the text of a reference, if it is one
abbrev pub reference_of : {X : Type 0} → ReferenceOr X → Option (List ℕ)
reference_of (v.Reference r) = Some (string_bytes r)
reference_of (v.Item x) = None

-- the same reference or item, with the item out of its box
abbrev pub unboxed : {X A : Type 0} → ReferenceOr (Box X A) → ReferenceOr X
unboxed (v.Reference r) = v.Reference r
unboxed (v.Item b) = v.Item b.value

-- the form of a reference or an item, by the form of an item
abbrev pub reference_form : {X : Type 0} → (X → Form) → ReferenceOr X → Form
reference_form form_of (v.Reference r) = reference (string_bytes r)
reference_form form_of (v.Item x) = an_item (form_of x)
