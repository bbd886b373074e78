use Rattle.std.proofs.Common.{◌≡◌, take, true}
use Rattle.openapi_tables.specs.Prelude.{by, callback_names, in_class, path_item, every, callback_ref}
use Rattle.openapi_values.specs.Reference.{reference_form}
use Rattle.openapi_fields.proofs.RecursiveWriting.{WrittenSoFar}
use Rattle.openapi_fields.specs.Entries.{all_whole, written_entries}
use Rattle.openapi_fields.specs.Forms.{map_form, optional_form}
use Rattle.openapi_documents.specs.Fields.{callback_fields, operation_fields, path_item_fields}
use Rattle.openapi_documents.specs.OperationForms.{callback_form, operation_form, path_item_form}
use Rattle.openapi_documents.specs.declared.callback.Callback.{out-Callback}
use Rattle.openapi_fields.proofs.Measures.{form_left, rows_left}
use Rattle.openapi_documents.proofs.write.+write.Given as goal

-- the size of the form that is left to write; for the same form, a caller has a greater measure than what it calls
abbrev pub decreases-write_path_item : goal.decreases-write_path_item
decreases-write_path_item l = form_left (path_item_form l.path_item.now) 0

abbrev pub decreases-path_item_members : goal.decreases-path_item_members
decreases-path_item_members l = rows_left (path_item_fields l.path_item.now) 4

abbrev pub decreases-put_methods : goal.decreases-put_methods
decreases-put_methods l = rows_left (path_item_fields l.path_item.now) 3

abbrev pub decreases-write_method : goal.decreases-write_method
decreases-write_method l = form_left (optional_form operation_form l.value.now) 2

abbrev pub decreases-write_operation : goal.decreases-write_operation
decreases-write_operation l = form_left (operation_form l.operation.now) 0

abbrev pub decreases-operation_members : goal.decreases-operation_members
decreases-operation_members l = rows_left (operation_fields l.operation.now) 4

abbrev pub decreases-write_callbacks : goal.decreases-write_callbacks
decreases-write_callbacks l = form_left (map_form (reference_form callback_form) l.values.now) 3

abbrev pub decreases-write_callback_ref : goal.decreases-write_callback_ref
decreases-write_callback_ref l = form_left (reference_form callback_form l.value.now) 0

abbrev pub decreases-write_callback : goal.decreases-write_callback
decreases-write_callback l = form_left (callback_form l.callback.now) 0

abbrev pub decreases-callback_members : goal.decreases-callback_members
decreases-callback_members l = rows_left (callback_fields l.callback.now) 4

abbrev pub decreases-request_members : goal.decreases-request_members
decreases-request_members l = rows_left (callback_fields l.callback.now) 3

abbrev pub invariant-write_callbacks-loop-i : goal.invariant-write_callbacks-loop-i
invariant-write_callbacks-loop-i l = WrittenSoFar (reference_form callback_form) callback_ref l.values l.i l.out

abbrev pub invariant-request_members-loop-i : goal.invariant-request_members-loop-i
invariant-request_members-loop-i l =
    let done = take l.i (out-Callback l.callback).paths in
    record {
      written : l.out ≡ written_entries path_item_form (by path_item) done;
      named : every (λ e. in_class callback_names e.0) done ≡ true;
      whole : all_whole path_item_form (by path_item) done ≡ true;
    }
