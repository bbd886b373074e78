-- What the writers of schemas return, compared with what the field tables require.
use Rattle.std.specs.Prelude.{ℕ, List, [], ◌∷◌, Option, Some, None, codes}
use Rattle.openapi_map.specs.Entries.{Entries}
use Rattle.openapi_node.specs.Tree.{Tree, text}
use Rattle.openapi_tables.specs.Kind.{Row, row, either, class, constant}
use Rattle.openapi_tables.specs.Members.{sort_rows}
use Rattle.openapi_tables.specs.Form.{absent}
use Rattle.openapi_tables.specs.Slots.{Slot, slots}
use Rattle.openapi_schema.specs.SchemaForms.{Sorted, schema_kind_rows, schema_type_rows}
use Rattle.openapi_schema.specs.declared.schema.SchemaKind.{SchemaKind}
use Rattle.openapi_schema.specs.declared.schema.SchemaType.{SchemaType}

-- the slots of a sort, given the forms of its fields
abbrev pub sorted_slots : Sorted → List Slot
sorted_slots s = slots (sort_rows s.0) s.1

abbrev pub kind_slots : SchemaKind → List Slot
kind_slots k = sorted_slots (schema_kind_rows k)

abbrev pub type_slots : SchemaType → List Slot
type_slots t = sorted_slots (schema_type_rows t)

-- the slot of `type`, if it has a text
abbrev pub tag_slots : Option (List ℕ) → List Slot
tag_slots None = []
tag_slots (Some w) = (constant (codes "type") w, absent) ∷ []

-- the slots without the first one if that is a tag, such as `type`
abbrev pub untagged_from : Row → Slot → List Slot → List Slot
untagged_from (row n m k) s ss = s ∷ ss
untagged_from (either a j b k) s ss = s ∷ ss
untagged_from (class c k) s ss = s ∷ ss
untagged_from (constant n v) s ss = ss

abbrev pub untagged : List Slot → List Slot
untagged [] = []
untagged (s ∷ ss) = untagged_from s.0 s ss

-- the member `type`, if it has a text
abbrev pub tag_members : Option (List ℕ) → Entries Tree
tag_members None = []
tag_members (Some w) = (codes "type", text w) ∷ []
