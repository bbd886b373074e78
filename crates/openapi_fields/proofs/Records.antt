-- Objects of a field table: what their rows give, and what they are written as.
use Rattle.std.proofs.Common.{◌≡◌, ◌≤◌, List, [], Result, Ok, Err, refl, sym, ap, ◌∙◌}
use Rattle.openapi_map.specs.Entries.{Entries}
use Rattle.openapi_node.specs.Tree.{Tree, object, Members, members_of, members_size}
use Rattle.openapi_node.specs.declared.fault.Fault.{Fault}
use Rattle.openapi_tables.specs.Prelude.{by, TableName, final_tables, plain, rows_of, Form, print, unwritable}
use Rattle.openapi_tables.specs.Prelude.{rows_weight, slots_lost, IsWritten}
use Rattle.openapi_tables.proofs.ByRowLaws.{object_gives, table_weight-le}
use Rattle.openapi_tables.proofs.SlotWriting.{fields_print, fields_lost}
use Rattle.openapi_tables.proofs.WellMade.{final_sound}
use Rattle.openapi_fields.specs.Forms.{record_form, record_slots}
use Rattle.openapi_fields.specs.Returned.{ReadAs, RowsReadAs}

-- what the rows read is what is read from the object
pub record_gives : {X : Type 0} (rows : X → List Form) (r : Result X Fault) (i : TableName) (ms : Members)
    → RowsReadAs rows r (by i) ms → ReadAs (record_form rows) r (by i) (object ms)
record_gives rows (Ok x) i ms h = object_gives final_tables i (rows x) ms h
record_gives rows (Err f) i ms h = h

-- the members that the rows take, counted row by row, contain at most as many values as all members
pub record_weight : (i : TableName) (ms : Members) → rows_weight (final_tables i) ms ≤ members_size ms
record_weight i ms = table_weight-le final_tables final_sound i ms

-- the object of the members that its slots are written as is the node that its form is written as, and nothing in the form
-- is unwritable
pub record_writes : {X : Type 0} (rows : X → List Form) (x : X) (i : TableName) (node : Tree) (out : Entries Tree)
    → IsWritten final_tables (record_slots i rows x) out → node ≡ object (members_of out)
    → (node ≡ print final_tables (by i) (record_form rows x)) × (unwritable final_tables (by i) (record_form rows x) ≡ [])
unfolding rows_of
record_writes rows x i node out g e = (
  e ∙ ap (λ es. object (members_of es)) g.members ∙ sym (fields_print final_tables (by i) plain [] (rows x) refl),
  fields_lost final_tables (by i) plain [] (rows x) refl ∙ g.nothing_lost,
)

-- what is unwritable in the slots of an object of a field table is what is unwritable in its form
pub record_loses : {X : Type 0} (rows : X → List Form) (x : X) (i : TableName)
    → slots_lost final_tables (record_slots i rows x) ≡ unwritable final_tables (by i) (record_form rows x)
unfolding rows_of
record_loses rows x i = sym (fields_lost final_tables (by i) plain [] (rows x) refl)
