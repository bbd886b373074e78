use Rattle.std.proofs.Common.{◌∙◌, [], not, Ok, Err, refl, sym, ap, subst, arith}
use Rattle.std.proofs.lemmas.List.{take_all}
use Rattle.openapi_tables.specs.Prelude.{by, callback_names, callback_object, in_class, operation, optional, path_item}
use Rattle.openapi_tables.specs.Prelude.{every, callback_ref, final_tables, tables_with, fields, forms_of, plain}
use Rattle.openapi_tables.proofs.SlotWriting.{none_written}
use Rattle.openapi_values.specs.Reference.{reference_form}
use Rattle.openapi_fields.specs.Entries.{all_whole, written_entries}
use Rattle.openapi_fields.specs.Forms.{optional_form}
use Rattle.openapi_fields.specs.Returned.{WrittenAs}
use Rattle.openapi_fields.proofs.RecursiveWriting.{all_put, next_lost, next_put, unwritten}
use Rattle.openapi_fields.proofs.Classed.{class_loses, class_written}
use Rattle.openapi_fields.proofs.Losing.{none_mapped}
use Rattle.openapi_fields.proofs.Written.{entry_loses, name_loses, next_absent, next_named, next_whole, next_written}
use Rattle.openapi_fields.specs.Writing.{MemberWrittenAs}
use Rattle.openapi_fields.proofs.FormSizes.{rows_size, value_smaller}
use Rattle.openapi_documents.specs.Fields.{callback_fields, callback_slots, operation_fields, path_item_fields}
use Rattle.openapi_documents.specs.OperationForms.{callback_form, operation_form, path_item_form}
use Rattle.openapi_documents.specs.declared.callback.Callback.{out-Callback}
use Rattle.openapi_documents.proofs.Opened.{callback_rows-out, operation_rows-out, path_item_rows-out}
use Rattle.openapi_documents.proofs.write.+write.Goals as goal

pub write_callbacks-put_written-requires : goal.write_callbacks-put_written-requires
write_callbacks-put_written-requires t c =
    unwritten (reference_form callback_form) callback_ref c.args.values.now c.loop-i.i c.loop-i.out c.entry_at.ensures c.loop-i.invariant
    c.len-i-end.ensures.distinct

pub write_callbacks-returns-in-Err : goal.write_callbacks-returns-in-Err
write_callbacks-returns-in-Err t c =
    next_lost (reference_form callback_form) callback_ref c.args.values.now c.loop-i.i c.loop-i.out c.entry_at.ensures c.loop-i.invariant c.put_written.new.out
    c.write_callback_ref.result c.put_written.result c.write_callback_ref.ensures c.put_written.ensures c.in-Err.fault c.in-Err.is

pub write_callbacks-loop-i-preserved : goal.write_callbacks-loop-i-preserved
write_callbacks-loop-i-preserved t c =
    next_put (reference_form callback_form) callback_ref c.args.values.now c.loop-i.i c.loop-i.out c.entry_at.ensures c.loop-i.invariant c.put_written.new.out
    c.write_callback_ref.result c.put_written.result c.write_callback_ref.ensures c.put_written.ensures c.in-Ok.is

pub write_callbacks-returns : goal.write_callbacks-returns
write_callbacks-returns t c =
    let whole = all_put (reference_form callback_form) callback_ref c.args.values.now c.loop-i.i c.loop-i.out c.object.result (omega arith) c.loop-i.invariant
    c.object.ensures in (
      sym (none_mapped (reference_form callback_form) c.is_empty.result c.args.values.now c.is_empty.ensures) ∙ c.if-is_empty.false,
      whole.0,
      whole.1,
    )

pub write_path_item-path_item_members-requires : goal.write_path_item-path_item_members-requires
write_path_item-path_item_members-requires t c =
    (omega (arith, ap rows_size (path_item_rows-out c.args.path_item.now), c.decreases), tt)

pub write_path_item-returns : goal.write_path_item-returns
write_path_item-returns t c =
    let x = c.args.path_item.now in
    subst (λ fs. WrittenAs (by path_item) (fields plain (forms_of fs)) c.whole_object.result) (sym (path_item_rows-out x))
    (c.whole_object.ensures path_item (path_item_fields x) c.path_item_members.ensures)

pub write_operation-operation_members-requires : goal.write_operation-operation_members-requires
write_operation-operation_members-requires t c =
    (omega (arith, ap rows_size (operation_rows-out c.args.operation.now), c.decreases), tt)

pub write_operation-returns : goal.write_operation-returns
write_operation-returns t c =
    let x = c.args.operation.now in
    subst (λ fs. WrittenAs (by operation) (fields plain (forms_of fs)) c.whole_object.result) (sym (operation_rows-out x))
    (c.whole_object.ensures operation (operation_fields x) c.operation_members.ensures)

pub write_callback-callback_members-requires : goal.write_callback-callback_members-requires
write_callback-callback_members-requires t c =
    (omega (arith, ap rows_size (callback_rows-out c.args.callback.now), c.decreases), tt)

pub write_callback-returns : goal.write_callback-returns
write_callback-returns t c =
    let x = c.args.callback.now in
    subst (λ fs. WrittenAs (by callback_object) (fields plain (forms_of fs)) c.whole_object.result)
    (sym (callback_rows-out x)) (c.whole_object.ensures callback_object (callback_fields x) c.callback_members.ensures)

pub path_item_members-write_rows-put_optional-requires-clause-before : goal.path_item_members-write_rows-put_optional-requires-clause-before
unfolding final_tables tables_with
path_item_members-write_rows-put_optional-requires-clause-before t c = none_written final_tables c.new-out.result c.new-out.ensures

pub operation_members-put_before_callbacks-requires : goal.operation_members-put_before_callbacks-requires
operation_members-put_before_callbacks-requires t c = none_written final_tables c.new-out.result c.new-out.ensures

pub write_method-returns-in-Some : goal.write_method-returns-in-Some
write_method-returns-in-Some t c =
    subst (λ o. MemberWrittenAs optional (by operation) (optional_form operation_form o) c.as_some.result)
    (sym c.in-Some.is)
    (c.as_some.ensures optional (by operation) (operation_form c.in-Some.operation) refl c.write_operation.ensures)

pub write_callbacks-write_callback_ref-requires : goal.write_callbacks-write_callback_ref-requires
write_callbacks-write_callback_ref-requires t c =
    let smaller = value_smaller (reference_form callback_form) c.args.values.now c.loop-i.i c.entry_at.result.0.now
    c.entry_at.result.1.now c.entry_at.ensures in
    (omega (arith, smaller, c.decreases), tt)

pub write_callbacks-returns-then-is_empty : goal.write_callbacks-returns-then-is_empty
write_callbacks-returns-then-is_empty t c =
    sym (none_mapped (reference_form callback_form) c.is_empty.result c.args.values.now c.is_empty.ensures)
    ∙ c.if-is_empty.true

pub request_members-write_path_item-requires : goal.request_members-write_path_item-requires
request_members-write_path_item-requires t c =
    let smaller = value_smaller path_item_form (out-Callback c.args.callback.now).paths c.loop-i.i
    c.entry_at.result.0.now c.entry_at.result.1.now c.entry_at.ensures in
    (omega (arith, smaller, c.decreases), tt)

pub request_members-put_written-requires : goal.request_members-put_written-requires
request_members-put_written-requires t c =
    next_absent path_item_form (by path_item) (out-Callback c.args.callback.now).paths c.loop-i.i
    c.entry_at.result.0.now c.entry_at.result.1.now c.entry_at.ensures [] c.loop-i.out refl
    c.len-i-end.ensures.distinct c.loop-i.invariant.written

pub request_members-returns-then-contains-clause-err : goal.request_members-returns-then-contains-clause-err
unfolding final_tables tables_with
request_members-returns-then-contains-clause-err t c =
    let vs = (out-Callback c.args.callback.now).paths in
    let n = c.entry_at.result.0.now in
    let no = ap not (sym c.contains.ensures ∙ c.if-contains.true) in
    class_loses callback_names (by path_item) (in_class callback_names) (λ m. refl) (λ m. refl) path_item_form
    (callback_slots c.args.callback.now) vs refl [] (none_written final_tables [] refl) {A = Unit {0}}
    (Err c.at_name.result)
    (name_loses path_item_form (by path_item) vs c.loop-i.i n c.entry_at.result.1.now c.entry_at.ensures
    (in_class callback_names) c.new.result c.at_name.result no c.at_name.ensures c.new.ensures.place
    c.new.ensures.cause)

pub request_members-returns-in-Err-clause-err : goal.request_members-returns-in-Err-clause-err
unfolding final_tables tables_with
request_members-returns-in-Err-clause-err t c =
    let vs = (out-Callback c.args.callback.now).paths in
    let x = c.entry_at.result.1.now in
    let f = c.in-Err.fault in
    let put = c.put_written.ensures (by path_item) (path_item_form x) c.write_path_item.ensures in
    class_loses callback_names (by path_item) (in_class callback_names) (λ m. refl) (λ m. refl) path_item_form
    (callback_slots c.args.callback.now) vs refl [] (none_written final_tables [] refl) {A = Unit {0}} (Err f)
    (entry_loses path_item_form (by path_item) vs c.loop-i.i c.entry_at.result.0.now x c.entry_at.ensures
    (in_class callback_names) f (rw c.in-Err.is at put))

pub request_members-loop-i-preserved : goal.request_members-loop-i-preserved
request_members-loop-i-preserved t c =
    let vs = (out-Callback c.args.callback.now).paths in
    let n = c.entry_at.result.0.now in
    let x = c.entry_at.result.1.now in
    let yes = ap not (sym c.contains.ensures ∙ c.if-contains.false) in
    let put = rw c.in-Ok.is at (c.put_written.ensures (by path_item) (path_item_form x) c.write_path_item.ensures) in
    record {
      written = next_written path_item_form (by path_item) vs c.loop-i.i n x c.entry_at.ensures [] c.loop-i.out
          c.put_written.new.out c.loop-i.invariant.written put.0;
      named = next_named path_item_form (by path_item) vs c.loop-i.i n x c.entry_at.ensures (in_class callback_names)
          c.loop-i.invariant.named yes;
      whole = next_whole path_item_form (by path_item) vs c.loop-i.i n x c.entry_at.ensures c.loop-i.invariant.whole
          put.1;
    }

pub request_members-returns-clause-ok : goal.request_members-returns-clause-ok
unfolding final_tables tables_with
request_members-returns-clause-ok t c =
    let vs = (out-Callback c.args.callback.now).paths in
    let all = take_all c.loop-i.i vs (omega arith) in
    class_written callback_names (by path_item) (in_class callback_names) (λ m. refl) (λ m. refl) path_item_form
    (callback_slots c.args.callback.now) vs refl [] (none_written final_tables [] refl) {A = Unit {0}} (Ok tt)
    c.loop-i.out (c.loop-i.invariant.written ∙ ap (written_entries path_item_form (by path_item)) all)
    (sym (ap (every (λ e. in_class callback_names e.0)) all) ∙ c.loop-i.invariant.named)
    (sym (ap (all_whole path_item_form (by path_item)) all) ∙ c.loop-i.invariant.whole)
