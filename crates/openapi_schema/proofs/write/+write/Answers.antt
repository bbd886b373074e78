use Rattle.std.proofs.Common.{◌≡◌, ◌∙◌, ◌∷◌, length, sym, ap, subst, arith, rules}
use Rattle.std.specs.Prelude.{◌==◌}
use Rattle.std.proofs.lemmas.List.{take_all}
use Rattle.openapi_tables.specs.Prelude.{a_schema, flag_or_schema, list_of, listed, map_of, optional, ref_to, each}
use Rattle.openapi_tables.specs.Prelude.{every, any_sort, array_sort, object_sort, sort_rows, final_tables, tables_with}
use Rattle.openapi_tables.specs.Prelude.{any_rows, array_rows, boolean_rows, object_rows, string_rows, absent, sequence}
use Rattle.openapi_tables.specs.Prelude.{forms_of, unwritable}
use Rattle.openapi_tables.proofs.SlotWriting.{none_written}
use Rattle.openapi_fields.specs.Forms.{list_form, map_form}
use Rattle.openapi_fields.specs.Returned.{NotWritable, WrittenAs}
use Rattle.openapi_fields.proofs.RecursiveWriting.{all_put, next_lost, next_put, unwritten}
use Rattle.openapi_fields.proofs.Elements.{written, is_whole, list_written, item_loses}
use Rattle.openapi_fields.proofs.Losing.{none_listed, none_mapped, not_silent}
use Rattle.openapi_schema.specs.Present.{additional_there, ref_there}
use Rattle.openapi_schema.specs.Reading.{ref_form, inner_box_form, outer_box_form}
use Rattle.openapi_schema.specs.SchemaForms.{additional_form, schema_form, schema_kind_rows, schema_type_rows}
use Rattle.openapi_schema.proofs.CombinedForms.{one_of_rows-kind, all_of_rows-kind, any_of_rows-kind, not_rows-kind}
use Rattle.openapi_fields.proofs.FormSizes.{element_smaller, rows_size, value_smaller}
use Rattle.openapi_schema.proofs.GivenRows.{rows_given, size_given}
use Rattle.openapi_schema.proofs.KindForms.{any_rows-kind}
use Rattle.openapi_schema.proofs.OpenedForms.{any_rows-out, array_rows-out, object_rows-out}
use Rattle.openapi_schema.proofs.OpenedForms.{array_rows-type, boolean_rows-type, integer_rows-type, number_rows-type, object_rows-type}
use Rattle.openapi_schema.proofs.OpenedForms.{string_rows-type}
use Rattle.openapi_schema.proofs.WholeSchemas.{data_loses}
use Rattle.openapi_schema.proofs.WrittenForms.{kind_loses}
use Rattle.openapi_schema.proofs.write.+write.Goals as goal

pub write_named-put_written-requires : goal.write_named-put_written-requires
write_named-put_written-requires t c =
    unwritten inner_box_form (ref_to a_schema) c.args.values.now c.loop-i.i c.loop-i.out c.entry_at.ensures c.loop-i.invariant
    c.len-i-end.ensures.distinct

pub write_named-returns-in-Err : goal.write_named-returns-in-Err
write_named-returns-in-Err t c =
    next_lost inner_box_form (ref_to a_schema) c.args.values.now c.loop-i.i c.loop-i.out c.entry_at.ensures c.loop-i.invariant c.put_written.new.out
    c.boxed_schema_ref_to_node.result c.put_written.result c.boxed_schema_ref_to_node.ensures c.put_written.ensures c.in-Err.fault c.in-Err.is

pub write_named-loop-i-preserved : goal.write_named-loop-i-preserved
write_named-loop-i-preserved t c =
    next_put inner_box_form (ref_to a_schema) c.args.values.now c.loop-i.i c.loop-i.out c.entry_at.ensures c.loop-i.invariant c.put_written.new.out
    c.boxed_schema_ref_to_node.result c.put_written.result c.boxed_schema_ref_to_node.ensures c.put_written.ensures c.in-Ok-put_written.is

pub write_named-returns : goal.write_named-returns
write_named-returns t c =
    all_put inner_box_form (ref_to a_schema) c.args.values.now c.loop-i.i c.loop-i.out c.object.result (omega arith) c.loop-i.invariant
    c.object.ensures

pub any_rows-put_first-requires : goal.any_rows-put_first-requires
any_rows-put_first-requires t c =
    (omega (arith, c.decreases), none_written final_tables c.new-out.result c.new-out.ensures)

pub array_rows-put_row-requires-clause-before : goal.array_rows-put_row-requires-clause-before
unfolding final_tables tables_with array_rows
array_rows-put_row-requires-clause-before t c = none_written final_tables c.new-out.result c.new-out.ensures

pub object_rows-put_row-requires-clause-before : goal.object_rows-put_row-requires-clause-before
unfolding final_tables tables_with object_rows
object_rows-put_row-requires-clause-before t c = none_written final_tables c.new-out.result c.new-out.ensures

pub kind_rows-write_refs-requires : goal.kind_rows-write_refs-requires
kind_rows-write_refs-requires t c =
    (omega (arith, size_given schema_kind_rows c.in-OneOf.is (one_of_rows-kind c.in-OneOf.one_of), c.decreases), tt)

pub kind_rows-returns-in-OneOf : goal.kind_rows-returns-in-OneOf
unfolding sort_rows
kind_rows-returns-in-OneOf t c =
    rows_given schema_kind_rows c.only_row.result c.in-OneOf.is (one_of_rows-kind c.in-OneOf.one_of)
    (c.only_row.ensures (list_of (ref_to a_schema)) (list_form ref_form c.in-OneOf.one_of) c.write_refs.ensures)

pub kind_rows-write_refs-requires-in-AllOf : goal.kind_rows-write_refs-requires-in-AllOf
kind_rows-write_refs-requires-in-AllOf t c =
    (omega (arith, size_given schema_kind_rows c.in-AllOf.is (all_of_rows-kind c.in-AllOf.all_of), c.decreases), tt)

pub kind_rows-returns-in-AllOf : goal.kind_rows-returns-in-AllOf
unfolding sort_rows
kind_rows-returns-in-AllOf t c =
    rows_given schema_kind_rows c.only_row-in-AllOf.result c.in-AllOf.is (all_of_rows-kind c.in-AllOf.all_of)
    (c.only_row-in-AllOf.ensures (list_of (ref_to a_schema)) (list_form ref_form c.in-AllOf.all_of) c.write_refs-in-AllOf.ensures)

pub kind_rows-write_refs-requires-in-AnyOf : goal.kind_rows-write_refs-requires-in-AnyOf
kind_rows-write_refs-requires-in-AnyOf t c =
    (omega (arith, size_given schema_kind_rows c.in-AnyOf.is (any_of_rows-kind c.in-AnyOf.any_of), c.decreases), tt)

pub kind_rows-returns-in-AnyOf : goal.kind_rows-returns-in-AnyOf
unfolding sort_rows
kind_rows-returns-in-AnyOf t c =
    rows_given schema_kind_rows c.only_row-in-AnyOf.result c.in-AnyOf.is (any_of_rows-kind c.in-AnyOf.any_of)
    (c.only_row-in-AnyOf.ensures (list_of (ref_to a_schema)) (list_form ref_form c.in-AnyOf.any_of) c.write_refs-in-AnyOf.ensures)

pub kind_rows-returns-in-Not : goal.kind_rows-returns-in-Not
unfolding sort_rows
kind_rows-returns-in-Not t c =
    let unboxed : c.deref.result.now ≡ c.in-Not.not.value = search rules in
    rows_given schema_kind_rows c.only_row-in-Not.result c.in-Not.is (not_rows-kind c.in-Not.not)
    (c.only_row-in-Not.ensures (ref_to a_schema) (outer_box_form c.in-Not.not)
    (subst (λ y. WrittenAs (ref_to a_schema) (ref_form y) c.schema_ref_to_node.result) unboxed
    c.schema_ref_to_node.ensures))

pub kind_rows-any_rows-requires : goal.kind_rows-any_rows-requires
kind_rows-any_rows-requires t c =
    let size = size_given schema_kind_rows c.in-Any.is (any_rows-kind c.in-Any.any) in
    (omega (arith, size, ap rows_size (any_rows-out c.in-Any.any), c.decreases), tt)

pub kind_rows-returns-in-Any : goal.kind_rows-returns-in-Any
unfolding sort_rows any_rows final_tables tables_with
kind_rows-returns-in-Any t c =
    rows_given schema_kind_rows c.any_rows.result c.in-Any.is
    (any_rows-kind c.in-Any.any ∙ ap (λ fs. (any_sort, fs)) (any_rows-out c.in-Any.any)) c.any_rows.ensures

pub type_rows-returns-in-String : goal.type_rows-returns-in-String
unfolding sort_rows string_rows final_tables tables_with
type_rows-returns-in-String t c =
    rows_given schema_type_rows c.record_rows.result c.in-String.is (string_rows-type c.in-String.typ)
    c.record_rows.ensures

pub type_rows-returns-in-Number : goal.type_rows-returns-in-Number
unfolding sort_rows final_tables tables_with
type_rows-returns-in-Number t c =
    rows_given schema_type_rows c.record_rows-in-Number.result c.in-Number.is (number_rows-type c.in-Number.typ)
    c.record_rows-in-Number.ensures

pub type_rows-returns-in-Integer : goal.type_rows-returns-in-Integer
unfolding sort_rows final_tables tables_with
type_rows-returns-in-Integer t c =
    rows_given schema_type_rows c.record_rows-in-Integer.result c.in-Integer.is (integer_rows-type c.in-Integer.typ)
    c.record_rows-in-Integer.ensures

pub type_rows-returns-in-Boolean : goal.type_rows-returns-in-Boolean
unfolding sort_rows boolean_rows final_tables tables_with
type_rows-returns-in-Boolean t c =
    rows_given schema_type_rows c.record_rows-in-Boolean.result c.in-Boolean.is (boolean_rows-type c.in-Boolean.typ)
    c.record_rows-in-Boolean.ensures

pub type_rows-object_rows-requires : goal.type_rows-object_rows-requires
type_rows-object_rows-requires t c =
    let size = size_given schema_type_rows c.in-Object.is (object_rows-type c.in-Object.typ) in
    (omega (arith, size, ap (λ fs. rows_size (absent ∷ fs)) (object_rows-out c.in-Object.typ), c.decreases), tt)

pub type_rows-returns-in-Object : goal.type_rows-returns-in-Object
unfolding sort_rows object_rows final_tables tables_with
type_rows-returns-in-Object t c =
    rows_given schema_type_rows c.object_rows.result c.in-Object.is
    (object_rows-type c.in-Object.typ ∙ ap (λ fs. (object_sort, absent ∷ fs)) (object_rows-out c.in-Object.typ)) c.object_rows.ensures

pub type_rows-returns-in-Array : goal.type_rows-returns-in-Array
unfolding sort_rows array_rows final_tables tables_with
type_rows-returns-in-Array t c =
    rows_given schema_type_rows c.array_rows.result c.in-Array.is
    (array_rows-type c.in-Array.typ ∙ ap (λ fs. (array_sort, absent ∷ fs)) (array_rows-out c.in-Array.typ)) c.array_rows.ensures

pub write_additional-returns-in-Some : goal.write_additional-returns-in-Some
write_additional-returns-in-Some t c =
    let a = c.in-Some.value in
    rw c.in-Some.is (c.as_some.ensures optional flag_or_schema (additional_form a)
    (not_silent (additional_form a) (additional_there a)) c.additional_to_node.ensures)

pub write_items-returns-in-Some : goal.write_items-returns-in-Some
write_items-returns-in-Some t c =
    let x = c.in-Some.value in
    rw c.in-Some.is (c.as_some.ensures optional (ref_to a_schema) (inner_box_form x)
    (not_silent (inner_box_form x) (ref_there (λ b. schema_form b.value) x)) c.boxed_schema_ref_to_node.ensures)

pub write_not-returns-in-Some : goal.write_not-returns-in-Some
write_not-returns-in-Some t c =
    let b = c.in-Some.value in
    let unboxed : c.deref.result.now ≡ b.value = search rules in
    rw c.in-Some.is (c.as_some.ensures optional (ref_to a_schema) (outer_box_form b)
    (not_silent (outer_box_form b) (ref_there schema_form b.value))
    (subst (λ y. WrittenAs (ref_to a_schema) (ref_form y) c.schema_ref_to_node.result) unboxed
    c.schema_ref_to_node.ensures))

pub write_listed-returns : goal.write_listed-returns
write_listed-returns t c =
    let xs = c.args.values.now.items in
    let same : c.as_slice.result.now ≡ xs = search rules in
    let loud = sym (c.is_empty.ensures ∙ ap (λ ys. length ys == 0) same ∙ none_listed ref_form xs)
    ∙ c.if-is_empty.false in
    c.as_some.ensures listed (list_of (ref_to a_schema)) (list_form ref_form c.args.values.now) loud c.write_refs.ensures

pub write_properties-returns : goal.write_properties-returns
write_properties-returns t c =
    let loud = sym (none_mapped inner_box_form c.is_empty.result c.args.values.now c.is_empty.ensures)
    ∙ c.if-is_empty.false in
    c.as_some.ensures listed (map_of (ref_to a_schema)) (map_form inner_box_form c.args.values.now) loud
    c.write_named.ensures

pub write_refs-schema_ref_to_node-requires : goal.write_refs-schema_ref_to_node-requires
write_refs-schema_ref_to_node-requires t c =
    let smaller = element_smaller ref_form c.deref-value-items.result.now c.loop-i.i c.value-item.result
    c.loop-i-test.true c.value-item.is in
    let size = ap (λ xs. rows_size (each ref_form xs)) c.deref-value-items.ensures.value in
    (omega (arith, smaller, size, c.decreases), tt)

pub write_refs-returns-in-Err : goal.write_refs-returns-in-Err
write_refs-returns-in-Err t c =
    let k = ref_to a_schema in
    let f = c.at_index.result in
    subst (λ xs. NotWritable f (unwritable final_tables (list_of k) (sequence (forms_of (each ref_form xs)))))
    c.deref-value-items.ensures.value
    (item_loses ref_form k c.deref-value-items.result.now c.loop-i.i c.value-item.result f c.loop-i-test.true
    c.value-item.is
    (c.in-Err.fault, c.at_index.ensures, c.in-Err.ensures))

pub write_refs-returns : goal.write_refs-returns
write_refs-returns t c =
    let k = ref_to a_schema in
    let xs = c.args.values.now.items in
    let all = take_all c.loop-i.i xs (omega (
      arith,
      ap length c.deref-value-items.ensures.value,
      c.loop-i-test.false,
    )) in
    list_written ref_form k xs c.loop-i.nodes.items c.list.result
    (c.loop-i.invariant.same ∙ ap (each (written ref_form k)) all)
    (sym (ap (every (is_whole ref_form k)) all) ∙ c.loop-i.invariant.whole) c.list.ensures

pub write_named-boxed_schema_ref_to_node-requires : goal.write_named-boxed_schema_ref_to_node-requires
write_named-boxed_schema_ref_to_node-requires t c =
    let smaller = value_smaller inner_box_form c.args.values.now c.loop-i.i c.entry_at.result.0.now
    c.entry_at.result.1.now c.entry_at.ensures in
    (omega (arith, smaller, c.decreases), tt)

pub write_schema-returns-in-Err : goal.write_schema-returns-in-Err
write_schema-returns-in-Err t c = data_loses c.args.schema.now c.in-Err.fault c.in-Err.ensures

pub write_schema-returns-in-Err-kind_rows : goal.write_schema-returns-in-Err-kind_rows
write_schema-returns-in-Err-kind_rows t c =
    kind_loses c.args.schema.now c.in-Err-kind_rows.fault c.in-Err-kind_rows.ensures
