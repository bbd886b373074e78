use Rattle.std.proofs.Common.{◌≡◌, take, true}
use Rattle.openapi_tables.specs.Prelude.{each, every, ref_to, a_schema}
use Rattle.openapi_fields.proofs.RecursiveWriting.{WrittenSoFar}
use Rattle.openapi_fields.proofs.Elements.{written, is_whole}
use Rattle.openapi_fields.specs.Forms.{list_form, map_form, optional_form}
use Rattle.openapi_schema.specs.Fields.{any_fields, array_fields, object_fields}
use Rattle.openapi_schema.specs.Reading.{ref_form, inner_box_form, outer_box_form}
use Rattle.openapi_schema.specs.SchemaForms.{additional_form, schema_form, schema_kind_rows, schema_type_rows}
use Rattle.openapi_fields.proofs.Measures.{form_left, rows_left}
use Rattle.openapi_schema.proofs.write.+write.Given as goal

-- the size of the form that is left to write; for the same form, a caller has a greater measure than what it calls
abbrev pub decreases-schema_ref_to_node : goal.decreases-schema_ref_to_node
decreases-schema_ref_to_node l = form_left (ref_form l.value.now) 0

abbrev pub decreases-boxed_schema_ref_to_node : goal.decreases-boxed_schema_ref_to_node
decreases-boxed_schema_ref_to_node l = form_left (inner_box_form l.value.now) 0

abbrev pub decreases-write_schema : goal.decreases-write_schema
decreases-write_schema l = form_left (schema_form l.schema.now) 0

abbrev pub decreases-kind_rows : goal.decreases-kind_rows
decreases-kind_rows l = rows_left (schema_kind_rows l.kind.now).1 6

abbrev pub decreases-type_rows : goal.decreases-type_rows
decreases-type_rows l = rows_left (schema_type_rows l.typ.now).1 5

abbrev pub decreases-object_rows : goal.decreases-object_rows
decreases-object_rows l = rows_left (object_fields l.typ.now) 4

abbrev pub decreases-array_rows : goal.decreases-array_rows
decreases-array_rows l = rows_left (array_fields l.typ.now) 4

abbrev pub decreases-any_rows : goal.decreases-any_rows
decreases-any_rows l = rows_left (any_fields l.any.now) 5

abbrev pub decreases-put_first : goal.decreases-put_first
decreases-put_first l = rows_left (any_fields l.any.now) 4

abbrev pub decreases-put_last : goal.decreases-put_last
decreases-put_last l = rows_left (any_fields l.any.now) 4

abbrev pub decreases-write_listed : goal.decreases-write_listed
decreases-write_listed l = form_left (list_form ref_form l.values.now) 3

abbrev pub decreases-write_refs : goal.decreases-write_refs
decreases-write_refs l = form_left (list_form ref_form l.values.now) 2

abbrev pub decreases-write_properties : goal.decreases-write_properties
decreases-write_properties l = form_left (map_form inner_box_form l.values.now) 3

abbrev pub decreases-write_named : goal.decreases-write_named
decreases-write_named l = form_left (map_form inner_box_form l.values.now) 2

abbrev pub decreases-write_items : goal.decreases-write_items
decreases-write_items l = form_left (optional_form inner_box_form l.value.now) 3

abbrev pub decreases-write_not : goal.decreases-write_not
decreases-write_not l = form_left (optional_form outer_box_form l.value.now) 3

abbrev pub decreases-write_additional : goal.decreases-write_additional
decreases-write_additional l = form_left (optional_form additional_form l.value.now) 3

abbrev pub decreases-additional_to_node : goal.decreases-additional_to_node
decreases-additional_to_node l = form_left (additional_form l.value.now) 2

abbrev pub invariant-write_refs-loop-i : goal.invariant-write_refs-loop-i
invariant-write_refs-loop-i l =
    record {
      same : l.nodes.items ≡ each (written ref_form (ref_to a_schema)) (take l.i l.values.items);
      whole : every (is_whole ref_form (ref_to a_schema)) (take l.i l.values.items) ≡ true;
    }

abbrev pub invariant-write_named-loop-i : goal.invariant-write_named-loop-i
invariant-write_named-loop-i l = WrittenSoFar inner_box_form (ref_to a_schema) l.values l.i l.out
