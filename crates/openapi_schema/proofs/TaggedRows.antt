-- The members of a kind after others, the `type` first.
use Rattle.std.proofs.Common.{◌≡◌, ℕ, zero, suc, true, List, ◌++◌, Option, Some, None, refl, ap, ◌∙◌}
use Rattle.openapi_map.specs.Entries.{Entries}
use Rattle.openapi_node.specs.Tree.{Tree}
use Rattle.openapi_tables.specs.Prelude.{join, final_tables, Slot, slots_apart, slots_print, slots_lost, taken}
use Rattle.openapi_tables.specs.Prelude.{all_taken, IsWritten}
use Rattle.openapi_tables.proofs.ListLaws.{join_assoc}
use Rattle.openapi_fields.specs.Writing.{AreNew}
use Rattle.openapi_fields.proofs.JoinedSlots.{new_behind, written_behind}
use Rattle.openapi_schema.specs.Writing.{tag_members, tag_slots}

-- the member of a `type`
pub tag_written : (w : Option (List ℕ)) → IsWritten final_tables (tag_slots w) (tag_members w)
unfolding slots_print slots_lost taken all_taken
tag_written None = record { members = refl; nothing_lost = refl; names = refl }
tag_written (Some w) = record { members = refl; nothing_lost = refl; names = refl }

tag_alone : (w : Option (List ℕ)) (rows out : Entries Tree) → AreNew (tag_members w ++ rows) out
    → AreNew (tag_members w) out
tag_alone None rows out h j e at = cc
tag_alone (Some w) rows out h zero e at = h zero e at
tag_alone (Some w) rows out h (suc j) e at = cc

-- the members of a kind after others, the `type` first
module _ (first rest : List Slot) (w : Option (List ℕ)) (apart : slots_apart (join first (join (tag_slots w) rest))
    ≡ true) (out rows : Entries Tree) (done : IsWritten final_tables first out)
    (more : IsWritten final_tables rest rows) where
  -- the `type` and the members after it are what the slots of both are written as
  pub tagged_rows : IsWritten final_tables (join (tag_slots w) rest) (tag_members w ++ rows)
  tagged_rows = written_behind (tag_slots w) rest (tag_members w) rows (tag_written w) more

  -- the name `type` is not present yet
  pub tag_new : AreNew (tag_members w) out
  tag_new =
      tag_alone w rows out (new_behind first (join (tag_slots w) rest) out (tag_members w ++ rows) apart done
      tagged_rows)

  -- nor are the names of the members after it, when `type` is present
  pub rows_new : AreNew rows (out ++ tag_members w)
  rows_new =
      new_behind (join first (tag_slots w)) rest (out ++ tag_members w) rows
      (ap slots_apart (join_assoc first (tag_slots w) rest) ∙ apart)
      (written_behind first (tag_slots w) out (tag_members w) done (tag_written w)) more
