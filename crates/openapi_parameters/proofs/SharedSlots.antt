-- The slots that all parameters have, at the head of those for each value of `in`.
use Rattle.std.proofs.Common.{◌≡◌, true, List, [], ◌∷◌, ◌++◌, Result, Ok, Err, OnOk, drop, refl, sym, subst, codes}
use Rattle.openapi_map.specs.Entries.{Entries}
use Rattle.openapi_node.specs.Place.{Place}
use Rattle.openapi_node.specs.Tree.{Tree}
use Rattle.openapi_node.specs.declared.fault.Fault.{Fault}
use Rattle.openapi_tables.specs.Prelude.{absent, constant, parameter_data, join, final_tables, tables_with, Among}
use Rattle.openapi_tables.specs.Prelude.{is_named, Slot, slots_apart, slots_lost, through, IsWritten}
use Rattle.openapi_tables.proofs.SlotWriting.{slots_apart-rows}
use Rattle.openapi_fields.specs.Forms.{record_slots}
use Rattle.openapi_fields.specs.Returned.{NotWritable}
use Rattle.openapi_fields.specs.Writing.{AreNew, RowsWritten}
use Rattle.openapi_fields.proofs.JoinedSlots.{loses_first, loses_second, new_behind, written_behind, loses_wider}
use Rattle.openapi_parameters.specs.Parameters.{data_of_parameter, parameter_data_rows, parameter_slots, parameter_word}
use Rattle.openapi_parameters.specs.Parameters.{shared_slots}
use Rattle.openapi_parameters.specs.declared.parameter.Parameter.{Parameter}
use Rattle.openapi_parameters.specs.declared.parameter_data.ParameterData.{ParameterData}
use Rattle.openapi_parameters.specs.declared.parameter.Parameter.TheVariants as parameters

-- the slots for its value of `in` are after those
behind : (x : Parameter) → parameter_slots x ≡ join (shared_slots x) (drop 10 (parameter_slots x))
unfolding final_tables tables_with
behind (parameters.Query d r s e) = refl
behind x = refl

module _ (x : Parameter) where
  abbrev its_place : List Slot
  its_place = (constant (codes "in") (parameter_word x), absent) ∷ []

  abbrev its_data : List Slot
  its_data = record_slots parameter_data parameter_data_rows (data_of_parameter x)

  shared_apart : slots_apart (join its_place its_data) ≡ true
  unfolding final_tables tables_with
  shared_apart =
      slots_apart-rows (constant (codes "in") (parameter_word x) ∷ final_tables parameter_data)
      (absent ∷ parameter_data_rows (data_of_parameter x)) refl

  -- the members of the fields that all parameters have, after the member `in`
  module _ (out more : Entries Tree)
      (done : IsWritten final_tables (through (is_named (codes "in")) (parameter_slots x)) out)
      (rows : IsWritten final_tables (record_slots parameter_data parameter_data_rows (data_of_parameter x)) more)
    where
      -- none of their names is present yet
      pub data_new : AreNew more out
      data_new = new_behind its_place its_data out more shared_apart done rows

      -- if they are appended, `in` and the slots that all parameters have are written
      pub data_put : {A : Type 0} (r : Result A Fault) (new : Entries Tree) → OnOk r (new ≡ out ++ more)
          → OnOk r (IsWritten final_tables (shared_slots x) new)
      data_put (Ok u) new e =
          subst (λ es. IsWritten final_tables (shared_slots x) es) (sym e)
          (written_behind its_place its_data out more done rows)
      data_put (Err f) new e = tt

  -- what was written for a `ParameterData` that equals that of the parameter was written for that of the parameter
  pub of_data : (d : ParameterData) → d ≡ data_of_parameter x → (r : Result (Entries Tree) Fault)
      → RowsWritten (record_slots parameter_data parameter_data_rows d) r
      → RowsWritten (record_slots parameter_data parameter_data_rows (data_of_parameter x)) r
  of_data d is r h = subst (λ e. RowsWritten (record_slots parameter_data parameter_data_rows e) r) is h

  -- an error of writing those slots is an error of writing the parameter
  pub data_loses : (f : Fault)
      → NotWritable f (slots_lost final_tables (record_slots parameter_data parameter_data_rows (data_of_parameter x)))
      → NotWritable f (slots_lost final_tables (parameter_slots x))
  data_loses f h =
      loses_wider f (slots_lost final_tables its_data) (slots_lost final_tables (parameter_slots x)) leads h
    where
      leads : (q : Place) → Among q (slots_lost final_tables its_data)
          → Among q (slots_lost final_tables (parameter_slots x))
      leads q g =
          subst (λ ss. Among q (slots_lost final_tables ss)) (sym (behind x))
          (loses_first (shared_slots x) (drop 10 (parameter_slots x)) q (loses_second its_place its_data q g))
