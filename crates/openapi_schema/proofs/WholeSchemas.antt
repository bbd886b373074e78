-- A schema as it is written: the fields that every schema can have, and its kind.
use Rattle.std.proofs.Common.{◌≡◌, ℕ, true, List, [], ◌++◌, Option, refl, sym, ap, ◌∙◌, subst}
use Rattle.std.proofs.lemmas.Bool.{and_parts}
use Rattle.openapi_map.specs.Entries.{Entries}
use Rattle.openapi_node.specs.Place.{Place}
use Rattle.openapi_node.specs.Tree.{Tree, object, members_of}
use Rattle.openapi_node.specs.declared.fault.Fault.{Fault}
use Rattle.openapi_tables.specs.Prelude.{join, every, members_of as of_list, a_schema, a_schema_kind, schema_data}
use Rattle.openapi_tables.specs.Prelude.{final_tables, tables_with, Choice, Sort, sort, rows_of, sort_rows, Form}
use Rattle.openapi_tables.specs.Prelude.{fields, forms_of, print, face_print, rows_print, unwritable, face_lost}
use Rattle.openapi_tables.specs.Prelude.{rows_lost, rows_apart, row_sound, Among, Slot, slots, slots_apart, slots_print}
use Rattle.openapi_tables.specs.Prelude.{slots_lost, untied, IsWritten}
use Rattle.openapi_tables.proofs.FormLaws.{of_forms-of}
use Rattle.openapi_tables.proofs.again.ObjectsBack.{schema_sound}
use Rattle.openapi_tables.proofs.SlotLists.{members_untied, slots_apart-rows, slots_lost-rows, slots_print-rows}
use Rattle.openapi_tables.proofs.WellMade.{final_sound}
use Rattle.openapi_fields.specs.Forms.{record_slots}
use Rattle.openapi_fields.specs.Returned.{NotWritable}
use Rattle.openapi_schema.specs.SchemaForms.{schema_data_rows, schema_form, schema_kind_rows}
use Rattle.openapi_fields.specs.Writing.{AreNew}
use Rattle.openapi_schema.specs.Writing.{kind_slots, tag_members, tag_slots, untagged}
use Rattle.openapi_schema.specs.declared.schema.Schema.{Schema, out-Schema}
use Rattle.openapi_schema_types.specs.declared.schema_data.SchemaData.{SchemaData}
use Rattle.openapi_fields.proofs.JoinedSlots.{loses_first, loses_wider, written_behind}
use Rattle.openapi_schema.proofs.TaggedRows.{rows_new, tag_new, tagged_rows}
use Rattle.openapi_schema.proofs.OpenedForms.{schema_form-out}

-- a schema is written as the slots of its fields
pub schema_print : (c : Choice) (fs : List Form) → print final_tables a_schema (fields c (forms_of fs))
    ≡ object (members_of (untied (slots_print final_tables (slots (rows_of final_tables a_schema c) fs))))
schema_print c fs =
    let ws = rows_of final_tables a_schema c in
    ap (λ l. object (of_list (rows_print ws l))) (of_forms-of (face_print final_tables) fs)
    ∙ ap (λ l. object (of_list l)) (slots_print-rows final_tables ws fs)
    ∙ ap object (members_untied (slots_print final_tables (slots ws fs)))

-- what is unwritable in a schema is what is unwritable in these slots
pub schema_lost : (c : Choice) (fs : List Form) → unwritable final_tables a_schema (fields c (forms_of fs))
    ≡ slots_lost final_tables (slots (rows_of final_tables a_schema c) fs)
schema_lost c fs =
    let ws = rows_of final_tables a_schema c in
    ap (λ l. rows_lost ws l) (of_forms-of (face_lost final_tables) fs) ∙ slots_lost-rows final_tables ws fs

-- the kind of a schema alone is written as the slots of its fields
pub kind_print : (c : Choice) (fs : List Form) → print final_tables a_schema_kind (fields c (forms_of fs))
    ≡ object (members_of (untied (slots_print final_tables (slots (rows_of final_tables a_schema_kind c) fs))))
kind_print c fs =
    let ws = rows_of final_tables a_schema_kind c in
    ap (λ l. object (of_list (rows_print ws l))) (of_forms-of (face_print final_tables) fs)
    ∙ ap (λ l. object (of_list l)) (slots_print-rows final_tables ws fs)
    ∙ ap object (members_untied (slots_print final_tables (slots ws fs)))

-- what is unwritable in it is what is unwritable in these slots
pub kind_lost : (c : Choice) (fs : List Form) → unwritable final_tables a_schema_kind (fields c (forms_of fs))
    ≡ slots_lost final_tables (slots (rows_of final_tables a_schema_kind c) fs)
kind_lost c fs =
    let ws = rows_of final_tables a_schema_kind c in
    ap (λ l. rows_lost ws l) (of_forms-of (face_lost final_tables) fs) ∙ slots_lost-rows final_tables ws fs

-- the slots of a schema are those of the fields that every schema can have, and those of its kind
split : (d : SchemaData) (s : Sort) (fs : List Form)
    → slots (rows_of final_tables a_schema (sort s)) (join (schema_data_rows d) fs)
    ≡ join (record_slots schema_data schema_data_rows d) (slots (sort_rows s) fs)
unfolding rows_of final_tables tables_with
split d s fs = refl

module _ (x : Schema) where
  abbrev pub first : List Slot
  first = record_slots schema_data schema_data_rows (out-Schema x).schema_data

  abbrev pub second : List Slot
  second = kind_slots (out-Schema x).schema_kind

  abbrev both : List Form
  both = join (schema_data_rows (out-Schema x).schema_data) (schema_kind_rows (out-Schema x).schema_kind).1

  abbrev its : Sort
  its = (schema_kind_rows (out-Schema x).schema_kind).0

  here : slots (rows_of final_tables a_schema (sort its)) both ≡ join first second
  here = split (out-Schema x).schema_data its (schema_kind_rows (out-Schema x).schema_kind).1

  pub its_slots_apart : slots_apart (join first second) ≡ true
  unfolding rows_of
  its_slots_apart =
      let ws = join (final_tables schema_data) (sort_rows its) in
      ap slots_apart (sym here)
      ∙ slots_apart-rows ws both (and_parts (rows_apart ws) (every (row_sound final_tables) ws)
      (schema_sound final_tables final_sound its)).0

  pub its_print : print final_tables a_schema (schema_form x)
      ≡ object (members_of (untied (slots_print final_tables (join first second))))
  its_print =
      ap (print final_tables a_schema) (schema_form-out x) ∙ schema_print (sort its) both
      ∙ ap (λ ss. object (members_of (untied (slots_print final_tables ss)))) here

  -- what is unwritable in a schema is what is unwritable in its slots
  pub its_lost : unwritable final_tables a_schema (schema_form x) ≡ slots_lost final_tables (join first second)
  its_lost =
      ap (unwritable final_tables a_schema) (schema_form-out x) ∙ schema_lost (sort its) both
      ∙ ap (slots_lost final_tables) here

  -- an error of writing the slots of the fields that every schema can have is an error of writing the schema
  pub data_loses : (f : Fault) → NotWritable f (slots_lost final_tables first)
      → NotWritable f (unwritable final_tables a_schema (schema_form x))
  data_loses f h =
      subst (λ ps. NotWritable f ps) (sym its_lost)
      (loses_wider f (slots_lost final_tables first) (slots_lost final_tables (join first second))
      (loses_first first second) h)

  -- where the slots of its kind are known without the `type`
  module _ (word : Option (List ℕ)) (is : join (tag_slots word) (untagged second) ≡ second)
      (out rows : Entries Tree) (done : IsWritten final_tables first out)
      (more : IsWritten final_tables (untagged second) rows) where
    abbrev parts : List Slot
    parts = join first (join (tag_slots word) (untagged second))

    parts_apart : slots_apart parts ≡ true
    parts_apart = ap (λ ss. slots_apart (join first ss)) is ∙ its_slots_apart

    -- the name `type` is not present yet, after the fields that every schema can have
    pub its_tag_new : AreNew (tag_members word) out
    its_tag_new = tag_new first (untagged second) word parts_apart out rows done more

    -- nor are the names of the members after it, when `type` is present
    pub its_rows_new : AreNew rows (out ++ tag_members word)
    its_rows_new = rows_new first (untagged second) word parts_apart out rows done more

    -- the object of all of them is what the schema is written as, and nothing in it is unwritable
    pub schema_written : (node : Tree) → node ≡ object (members_of (out ++ (tag_members word ++ rows)))
        → (node ≡ print final_tables a_schema (schema_form x))
        × (unwritable final_tables a_schema (schema_form x) ≡ [])
    schema_written node e =
        let w : IsWritten final_tables (join first second) (out ++ (tag_members word ++ rows)) =
        written_behind first second out (tag_members word ++ rows) done (subst (λ ss. IsWritten final_tables ss
        (tag_members word ++ rows)) is (tagged_rows first (untagged second) word parts_apart out rows done more)) in
        (e ∙ ap (λ es. object (members_of es)) w.members ∙ sym its_print, its_lost ∙ w.nothing_lost)
