-- The type of a schema by itself: its slots are those of its tag, and what is written of it.
use Rattle.std.proofs.Common.{◌≡◌, ℕ, true, List, [], ◌∷◌, ◌++◌, Option, Some, codes, refl, sym, ap, ◌∙◌, subst}
use Rattle.openapi_map.specs.Entries.{Entries}
use Rattle.openapi_node.specs.Tree.{Tree, object, members_of}
use Rattle.openapi_node.specs.declared.fault.Fault.{Fault}
use Rattle.openapi_tables.specs.Prelude.{constant, join, final_tables, tables_with, case_rows, is_case, sort_rows, Form}
use Rattle.openapi_tables.specs.Prelude.{absent, print, unwritable, slots, slots_apart, slots_lost, IsWritten}
use Rattle.openapi_tables.specs.Tables.{schema_type}
use Rattle.openapi_tables.proofs.SlotWriting.{none_written}
use Rattle.openapi_fields.specs.Forms.{tagged_slots}
use Rattle.openapi_fields.specs.Returned.{NotWritable}
use Rattle.openapi_fields.proofs.Tagging.{tagged_apart, tagged_loses, tagged_writes}
use Rattle.openapi_schema.specs.SchemaForms.{Sorted, additional_step, schema_kind_step, schema_type_step}
use Rattle.openapi_schema.specs.SchemaForms.{any_schema_step, array_type_step, object_type_step, schema_step}
use Rattle.openapi_schema.specs.SchemaForms.{schema_form, additional_form, schema_kind_rows, schema_type_rows}
use Rattle.openapi_schema.specs.SchemaForms.{object_type_rows, array_type_rows, any_schema_rows}
use Rattle.openapi_schema.specs.TypeForms.{type_cases, sort_word, behind_tag, schema_type_word, schema_type_fields}
use Rattle.openapi_schema.specs.TypeForms.{schema_type_form, schema_type_sound}
use Rattle.openapi_fields.specs.Writing.{AreNew}
use Rattle.openapi_schema.specs.Writing.{sorted_slots, tag_members, tag_slots, type_slots, untagged}
use Rattle.openapi_schema.specs.declared.schema.AdditionalProperties.TheBlock.{the_data, the_data-1, the_data-2}
use Rattle.openapi_schema.specs.declared.schema.AdditionalProperties.TheBlock.{the_data-3, the_data-4, the_data-5}
use Rattle.openapi_schema.specs.declared.schema.AdditionalProperties.TheBlock.{the_data-6}
use Rattle.openapi_schema.specs.declared.schema.AdditionalProperties.TheFolds.{fold_out-SchemaType, map-SchemaType}
use Rattle.openapi_schema.specs.declared.schema.AdditionalProperties.TheOpen.{SchemaType-F}
use Rattle.openapi_schema.specs.declared.schema.SchemaType.{SchemaType, out-SchemaType}
use Rattle.openapi_schema.proofs.TaggedRows.{rows_new, tag_new, tagged_rows}
use Rattle.openapi_fields.proofs.JoinedSlots.{loses_wider}
use Rattle.openapi_schema.proofs.WrittenForms.{untagged_loses}

-- a sort is that of a type, and its slots are those of the tag and of its table
abbrev IsTyped : Sorted → Type 0
IsTyped s =
    (is_case type_cases (sort_word s.0) ≡ true)
    × (sorted_slots s ≡ (constant (codes "type") (sort_word s.0), absent)
    ∷ slots (case_rows final_tables type_cases (sort_word s.0)) (behind_tag s.1))

-- one level of a type with the values inside replaced with their forms
abbrev level : SchemaType-F the_data the_data-1 the_data-2 the_data-3 the_data-4 the_data-5 the_data-6
    → SchemaType-F Form Sorted Sorted (List Form) (List Form) (List Form) Form
level d = map-SchemaType the_data the_data-1 the_data-2 the_data-3 the_data-4 the_data-5 the_data-6 Form Sorted Sorted
    (List Form) (List Form) (List Form) Form additional_form schema_kind_rows schema_type_rows any_schema_rows
    array_type_rows object_type_rows schema_form d

step_typed : (d : SchemaType-F the_data the_data-1 the_data-2 the_data-3 the_data-4 the_data-5 the_data-6)
    → IsTyped (schema_type_step (level d))
unfolding sort_rows final_tables tables_with
step_typed (SchemaType-F.String x) = (refl, refl)
step_typed d = (refl, refl)

is_typed : (t : SchemaType) → IsTyped (schema_type_rows t)
is_typed t =
    subst IsTyped
    (sym (fold_out-SchemaType Form Sorted Sorted (List Form) (List Form) (List Form) Form additional_step
    schema_kind_step schema_type_step any_schema_step array_type_step object_type_step schema_step t))
    (step_typed (out-SchemaType t))

module _ (t : SchemaType) where
  same : type_slots t ≡ tagged_slots (codes "type") type_cases schema_type_word schema_type_fields t
  same = (is_typed t).1

  -- its slots with their `type` are those without it, after it
  pub type_again : join (tag_slots (Some (schema_type_word t))) (untagged (type_slots t)) ≡ type_slots t
  type_again = subst (λ ss. join (tag_slots (Some (schema_type_word t))) (untagged ss) ≡ ss) (sym same) refl

  -- an error of writing its slots without `type` is an error of writing the whole type
  pub type_loses : (f : Fault) → NotWritable f (slots_lost final_tables (untagged (type_slots t)))
      → NotWritable f (unwritable final_tables schema_type (schema_type_form t))
  type_loses f h =
      subst (λ ps. NotWritable f ps)
      (ap (slots_lost final_tables) same
      ∙ tagged_loses (codes "type") type_cases schema_type_word schema_type_fields t (is_typed t).0)
      (loses_wider f (slots_lost final_tables (untagged (type_slots t))) (slots_lost final_tables (type_slots t))
      (untagged_loses (type_slots t)) h)

  module _ (word : Option (List ℕ)) (is : join (tag_slots word) (untagged (type_slots t)) ≡ type_slots t)
      (out rows : Entries Tree) (new : out ≡ [])
      (more : IsWritten final_tables (untagged (type_slots t)) rows) where
    parts_apart : slots_apart (join [] (join (tag_slots word) (untagged (type_slots t)))) ≡ true
    parts_apart =
        ap slots_apart (is ∙ same)
        ∙ tagged_apart (codes "type") type_cases schema_type_word schema_type_fields t (is_typed t).0
        schema_type_sound

    started : IsWritten final_tables [] out
    started = none_written final_tables out new

    -- the name `type` is not present yet in an empty object
    pub type_tag_new : AreNew (tag_members word) out
    type_tag_new = tag_new [] (untagged (type_slots t)) word parts_apart out rows started more

    -- nor are the names of the members after it, when `type` is present
    pub type_rows_new : AreNew rows (out ++ tag_members word)
    type_rows_new = rows_new [] (untagged (type_slots t)) word parts_apart out rows started more

    -- the object of all of them is what the type is written as, and nothing in it is unwritable
    pub type_written : (node : Tree) → node ≡ object (members_of (out ++ (tag_members word ++ rows)))
        → (node ≡ print final_tables schema_type (schema_type_form t))
        × (unwritable final_tables schema_type (schema_type_form t) ≡ [])
    type_written node e =
        tagged_writes (codes "type") type_cases schema_type_word schema_type_fields t (is_typed t).0 node
        (tag_members word ++ rows)
        (subst (λ ss. IsWritten final_tables ss (tag_members word ++ rows)) (is ∙ same)
        (tagged_rows [] (untagged (type_slots t)) word parts_apart out rows started more))
        (e ∙ ap (λ es. object (members_of (es ++ (tag_members word ++ rows)))) new)
