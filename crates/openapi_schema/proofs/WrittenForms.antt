-- What is written for schemas, given what is written for their parts.
use Rattle.std.proofs.Common.{◌≡◌, ℕ, true, List, [], ◌∷◌, ◌++◌, Option, refl, sym, ap, ◌∙◌, subst}
use Rattle.std.proofs.lemmas.Bool.{and_parts}
use Rattle.openapi_map.specs.Entries.{Entries}
use Rattle.openapi_node.specs.Place.{Place}
use Rattle.openapi_node.specs.Tree.{Tree, object, members_of}
use Rattle.openapi_node.specs.declared.fault.Fault.{Fault}
use Rattle.openapi_tables.specs.Prelude.{Row, constant, a_schema, a_schema_kind, every, join, final_tables, Sort, sort}
use Rattle.openapi_tables.specs.Prelude.{rows_of, sort_rows, rows_apart, row_sound, print, unwritable, Among, Slot}
use Rattle.openapi_tables.specs.Prelude.{slots_apart, slots_lost, slots_print, untied, IsWritten}
use Rattle.openapi_tables.proofs.ByRowLaws.{among_right}
use Rattle.openapi_tables.proofs.again.ObjectsBack.{sort_sound}
use Rattle.openapi_tables.proofs.SlotLists.{slots_apart-rows}
use Rattle.openapi_tables.proofs.SlotWriting.{none_written}
use Rattle.openapi_tables.proofs.WellMade.{final_sound}
use Rattle.openapi_fields.specs.Returned.{NotWritable}
use Rattle.openapi_schema.specs.SchemaForms.{schema_form, schema_kind_rows}
use Rattle.openapi_schema.specs.Reading.{schema_kind_form}
use Rattle.openapi_fields.specs.Writing.{AreNew}
use Rattle.openapi_schema.specs.Writing.{kind_slots, tag_members, tag_slots, untagged, untagged_from}
use Rattle.openapi_schema.specs.declared.schema.Schema.{Schema}
use Rattle.openapi_schema.specs.declared.schema.SchemaKind.{SchemaKind}
use Rattle.openapi_fields.proofs.JoinedSlots.{loses_second, loses_wider}
use Rattle.openapi_schema.proofs.TaggedRows.{rows_new, tag_new, tagged_rows}
use Rattle.openapi_schema.proofs.WholeSchemas.{first, second, its_lost, kind_lost, kind_print}

-- what is unwritable in slots without a `type` is unwritable in them with it
row_loses : (w : Row) (s : Slot) (ss : List Slot) (q : Place) → s.0 ≡ w
    → Among q (slots_lost final_tables (untagged_from w s ss)) → Among q (slots_lost final_tables (s ∷ ss))
unfolding slots_lost
row_loses (constant n v) s ss q e h = among_right q _ (slots_lost final_tables ss) h
row_loses w s ss q e h = h

-- what is unwritable in slots without the `type` at their head is unwritable in them with it
pub untagged_loses : (ss : List Slot) (q : Place) → Among q (slots_lost final_tables (untagged ss))
    → Among q (slots_lost final_tables ss)
untagged_loses [] q h = h
untagged_loses (s ∷ ss) q h = row_loses s.0 s ss q refl h

-- an error of writing the slots of its kind is an error of writing a schema
pub kind_loses : (x : Schema) (f : Fault) → NotWritable f (slots_lost final_tables (untagged (second x)))
    → NotWritable f (unwritable final_tables a_schema (schema_form x))
kind_loses x f h =
    subst (λ ps. NotWritable f ps) (sym (its_lost x))
    (loses_wider f (slots_lost final_tables (untagged (second x)))
    (slots_lost final_tables (join (first x) (second x)))
    (λ q a. loses_second (first x) (second x) q (untagged_loses (second x) q a)) h)

-- the kind of a schema by itself
module _ (k : SchemaKind) where
  abbrev its_sort : Sort
  its_sort = (schema_kind_rows k).0

  pub alone_print : print final_tables a_schema_kind (schema_kind_form k)
      ≡ object (members_of (untied (slots_print final_tables (kind_slots k))))
  unfolding rows_of
  alone_print = kind_print (sort its_sort) (schema_kind_rows k).1

  pub alone_lost : unwritable final_tables a_schema_kind (schema_kind_form k) ≡ slots_lost final_tables (kind_slots k)
  unfolding rows_of
  alone_lost = kind_lost (sort its_sort) (schema_kind_rows k).1

  -- an error of writing its slots without `type` is an error of writing the whole kind
  pub alone_loses : (f : Fault) → NotWritable f (slots_lost final_tables (untagged (kind_slots k)))
      → NotWritable f (unwritable final_tables a_schema_kind (schema_kind_form k))
  alone_loses f h =
      subst (λ ps. NotWritable f ps) (sym alone_lost)
      (loses_wider f (slots_lost final_tables (untagged (kind_slots k))) (slots_lost final_tables (kind_slots k))
      (untagged_loses (kind_slots k)) h)

  slots_alone : slots_apart (kind_slots k) ≡ true
  slots_alone =
      let ws = sort_rows its_sort in
      slots_apart-rows ws (schema_kind_rows k).1 (and_parts (rows_apart ws) (every (row_sound final_tables) ws)
      (sort_sound final_tables final_sound its_sort)).0

  module _ (word : Option (List ℕ)) (is : join (tag_slots word) (untagged (kind_slots k)) ≡ kind_slots k)
      (out rows : Entries Tree) (new : out ≡ [])
      (more : IsWritten final_tables (untagged (kind_slots k)) rows) where
    parts_apart : slots_apart (join [] (join (tag_slots word) (untagged (kind_slots k)))) ≡ true
    parts_apart = ap slots_apart is ∙ slots_alone

    started : IsWritten final_tables [] out
    started = none_written final_tables out new

    -- the name `type` is not present yet in an empty object
    pub alone_tag_new : AreNew (tag_members word) out
    alone_tag_new = tag_new [] (untagged (kind_slots k)) word parts_apart out rows started more

    -- nor are the names of the members after it, when `type` is present
    pub alone_rows_new : AreNew rows (out ++ tag_members word)
    alone_rows_new = rows_new [] (untagged (kind_slots k)) word parts_apart out rows started more

    -- the object of all of them is what the kind is written as, and nothing in it is unwritable
    pub alone_written : (node : Tree) → node ≡ object (members_of (out ++ (tag_members word ++ rows)))
        → (node ≡ print final_tables a_schema_kind (schema_kind_form k))
        × (unwritable final_tables a_schema_kind (schema_kind_form k) ≡ [])
    alone_written node e =
        let w = subst (λ ss. IsWritten final_tables ss (tag_members word ++ rows)) is
        (tagged_rows [] (untagged (kind_slots k)) word parts_apart out rows started more) in (
          e ∙ ap (λ es. object (members_of (es ++ (tag_members word ++ rows)))) new
              ∙ ap (λ es. object (members_of es)) w.members ∙ sym alone_print,
          alone_lost ∙ w.nothing_lost,
        )
