use Rattle.std.proofs.Common.{◌+◌, ◌*◌, ◌≤◌, take}
use Rattle.openapi_tables.specs.Prelude.{by, callback_names, in_class, path_item, callback_ref}
use Rattle.openapi_values.specs.Reference.{reference_form}
use Rattle.openapi_fields.specs.Entries.{chosen, entries_size}
use Rattle.openapi_fields.proofs.RecursiveReading.{SoFar}
use Rattle.openapi_documents.specs.OperationForms.{callback_form, path_item_form}
use Rattle.openapi_fields.proofs.Taking.{TakenSoFar}
use Rattle.openapi_fields.proofs.Measures.{members_left, view_left}
use Rattle.openapi_documents.proofs.read.+read.Given as goal

-- the size of the node that is left to read; for the same node, a caller has a greater measure than what it calls
abbrev pub decreases-read_path_item : goal.decreases-read_path_item
decreases-read_path_item l = view_left l.view.now 0

abbrev pub decreases-read_methods : goal.decreases-read_methods
decreases-read_methods l = members_left l.members.now 4

abbrev pub decreases-read_method : goal.decreases-read_method
decreases-read_method l = members_left l.members.now 3

abbrev pub decreases-read_operation : goal.decreases-read_operation
decreases-read_operation l = view_left l.view.now 0

abbrev pub decreases-read_callbacks : goal.decreases-read_callbacks
decreases-read_callbacks l = members_left l.members.now 4

abbrev pub decreases-callbacks_of : goal.decreases-callbacks_of
decreases-callbacks_of l = members_left l.members.now 2

abbrev pub decreases-read_callback_ref : goal.decreases-read_callback_ref
decreases-read_callback_ref l = view_left l.view.now 1

abbrev pub decreases-read_callback : goal.decreases-read_callback
decreases-read_callback l = view_left l.view.now 0

abbrev pub decreases-read_requests : goal.decreases-read_requests
decreases-read_requests l = members_left l.members.now 4

abbrev pub invariant-callbacks_of-loop-i : goal.invariant-callbacks_of-loop-i
invariant-callbacks_of-loop-i l = SoFar (reference_form callback_form) callback_ref l.members l.initial.steps l.i l.values l.steps

abbrev pub invariant-read_requests-loop-i : goal.invariant-read_requests-loop-i
invariant-read_requests-loop-i l =
    TakenSoFar (in_class callback_names) path_item_form (by path_item) l.members l.initial.steps l.i l.values l.steps
