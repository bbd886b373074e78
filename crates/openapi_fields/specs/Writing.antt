-- What mutually recursive writers return, in terms of the field tables: what was written for the value of a row, and the
-- members that result.
use Rattle.std.specs.Prelude.{◌≡◌, ℕ, true, false, cond, List, [], ◌∷◌, ◌++◌, Option, Some, None, Result, Ok, Err, slice_get}
use Rattle.openapi_map.specs.Entries.{Entries, get}
use Rattle.openapi_node.specs.Place.{named}
use Rattle.openapi_node.specs.Tree.{Tree}
use Rattle.openapi_node.specs.declared.fault.Fault.{Fault}
use Rattle.openapi_node.specs.declared.node.Node.{Node}
use Rattle.openapi_tables.specs.Kind.{Kind, Mode, row, either}
use Rattle.openapi_tables.specs.Lists.{same_text}
use Rattle.openapi_tables.specs.Tables.{final_tables}
use Rattle.openapi_tables.specs.Form.{Form, deciding}
use Rattle.openapi_tables.specs.ByRow.{is_named}
use Rattle.openapi_tables.specs.Print.{print, is_silent}
use Rattle.openapi_tables.specs.Unwritable.{unwritable}
use Rattle.openapi_tables.specs.Slots.{Slot, slot_where, slots_lost, IsWritten}
use Rattle.openapi_fields.specs.Forms.{is_either}
use Rattle.openapi_fields.specs.Returned.{NotWritable, NotWritableBelow, WrittenAs}

-- the members that slots were written as, or an error about one of these slots
abbrev pub RowsWritten : List Slot → Result (Entries Tree) Fault → Type 0
RowsWritten ss (Ok out) = IsWritten final_tables ss out
RowsWritten ss (Err f) = NotWritable f (slots_lost final_tables ss)

-- a member with the node of a form was appended, or there is an error about the form
abbrev pub PutAs : Kind → Form → List ℕ → Result (Unit {0}) Fault → Entries Tree → Entries Tree → Type 0
PutAs k f n (Ok u) old new = (new ≡ old ++ (n, print final_tables k f) ∷ []) × (unwritable final_tables k f ≡ [])
PutAs k f n (Err e) old new = NotWritableBelow (named n) e (unwritable final_tables k f)

-- no name of the first members is among the second ones
abbrev pub AreNew : Entries Tree → Entries Tree → Type 0
AreNew more out = (j : ℕ) (e : List ℕ × Tree) → slice_get more j ≡ Some e → get e.0 out ≡ None

-- what was written for the value of a row of a mode: `None` if the member is left out
abbrev pub MemberWrittenAs : Mode → Kind → Form → Result (Option Node) Fault → Type 0
MemberWrittenAs m k f (Ok None) = is_silent m f ≡ true
MemberWrittenAs m k f (Ok (Some n)) =
    (is_silent m f ≡ false) × (n ≡ print final_tables k f) × (unwritable final_tables k f ≡ [])
MemberWrittenAs m k f (Err e) = NotWritable e (unwritable final_tables k f)

-- `w` is what was written for the value of a name among slots.
pub record HoldsWritten (n : List ℕ) (ss : List Slot) (w : Result (Option Node) Fault) : Type 0 where
  pub mode : Mode
  pub kind : Kind
  pub form : Form
  pub at : slot_where (is_named n) ss ≡ Some (row n mode kind, form)
  pub is : MemberWrittenAs mode kind form w

-- `w` is what was written for the value of the name `n` that decides among slots. It is one of two names, and `a` is the
-- first of them.
pub record HoldsDecided (a n : List ℕ) (ss : List Slot) (w : Result Node Fault) : Type 0 where
  pub first : Kind
  pub other : List ℕ
  pub second : Kind
  pub form : Form
  pub at : slot_where (is_named a) ss ≡ Some (either a first other second, deciding n form)
  pub of_two : is_either a other n ≡ true
  pub is : WrittenAs (cond (same_text a n) first second) form w
