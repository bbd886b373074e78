use Rattle.std.proofs.Common.{◌≡◌, ◌+◌, ◌*◌, ◌≤◌, take, true}
use Rattle.openapi_node.specs.Tree.{size_of, items_size, items_of}
use Rattle.openapi_tables.specs.Prelude.{each, every, ref_to, a_schema, final_tables, conforms, form}
use Rattle.openapi_fields.proofs.RecursiveReading.{SoFar}
use Rattle.openapi_schema.specs.Reading.{ref_form, inner_box_form}
use Rattle.openapi_fields.proofs.Measures.{members_left, view_left}
use Rattle.openapi_schema.proofs.read.+read.Given as goal

-- the size of the node that is left to read; for the same node, a caller has a greater measure than what it calls
abbrev pub decreases-schema_ref_from_node : goal.decreases-schema_ref_from_node
decreases-schema_ref_from_node l = 8 * size_of l.node.now + 1

abbrev pub decreases-read_schema_ref : goal.decreases-read_schema_ref
decreases-read_schema_ref l = view_left l.view.now 0

abbrev pub decreases-read_boxed_schema_ref : goal.decreases-read_boxed_schema_ref
decreases-read_boxed_schema_ref l = view_left l.view.now 1

abbrev pub decreases-read_boxed_ref : goal.decreases-read_boxed_ref
decreases-read_boxed_ref l = view_left l.view.now 1

abbrev pub decreases-read_kind : goal.decreases-read_kind
decreases-read_kind l = members_left l.members.now 5

abbrev pub decreases-read_kind_names : goal.decreases-read_kind_names
decreases-read_kind_names l = members_left l.members.now 4

abbrev pub decreases-read_inner_box : goal.decreases-read_inner_box
decreases-read_inner_box l = members_left l.members.now 3

abbrev pub decreases-read_outer_box : goal.decreases-read_outer_box
decreases-read_outer_box l = members_left l.members.now 3

abbrev pub decreases-read_listed : goal.decreases-read_listed
decreases-read_listed l = members_left l.members.now 3

abbrev pub decreases-read_refs_in : goal.decreases-read_refs_in
decreases-read_refs_in l = view_left l.view.now 0

abbrev pub decreases-read_refs : goal.decreases-read_refs
decreases-read_refs l = 8 * items_size (items_of l.nodes.now) + 2

abbrev pub decreases-read_properties : goal.decreases-read_properties
decreases-read_properties l = members_left l.members.now 3

abbrev pub decreases-read_properties_in : goal.decreases-read_properties_in
decreases-read_properties_in l = view_left l.view.now 0

abbrev pub decreases-read_named : goal.decreases-read_named
decreases-read_named l = members_left l.members.now 2

abbrev pub decreases-read_additional : goal.decreases-read_additional
decreases-read_additional l = members_left l.members.now 3

abbrev pub decreases-read_additional_in : goal.decreases-read_additional_in
decreases-read_additional_in l = view_left l.view.now 2

abbrev pub invariant-read_refs-loop-i : goal.invariant-read_refs-loop-i
invariant-read_refs-loop-i l =
    let k = ref_to a_schema in
    record {
      holds : every (conforms final_tables k) (take l.i l.nodes) ≡ true;
      same : each (form final_tables k) (take l.i l.nodes) ≡ each ref_form l.values.items;
      rises : l.initial.steps ≤ l.steps;
      counted : l.steps ≤ l.initial.steps + 3 * items_size (items_of (take l.i l.nodes));
    }

abbrev pub invariant-read_named-loop-i : goal.invariant-read_named-loop-i
invariant-read_named-loop-i l = SoFar inner_box_form (ref_to a_schema) l.members l.initial.steps l.i l.values l.steps
