use Rattle.std.proofs.Common.{◌≡◌, ◌∙◌, Ok, Err, Some, not, None, refl, rules, sym, ap, subst, arith, codes}
use Rattle.std.proofs.Common.{string_bytes}
use Rattle.openapi_node.specs.Tree.{members_of, size_of}
use Rattle.openapi_node.specs.View.{shown}
use Rattle.openapi_node.proofs.TreeLemmas.{next_member}
use Rattle.openapi_tables.specs.Prelude.{AreRows, RowGives, is_named, row_where, rows_asked, any_tree, by}
use Rattle.openapi_tables.specs.Prelude.{callback_names, callback_object, in_class, operation, optional, path_item, row}
use Rattle.openapi_tables.specs.Prelude.{callback_ref, final_tables, tables_with}
use Rattle.openapi_values.specs.Reference.{reference_form}
use Rattle.openapi_fields.specs.Forms.{optional_form}
use Rattle.openapi_fields.specs.Returned.{ReadAs}
use Rattle.openapi_fields.proofs.Below.{memory_fails}
use Rattle.openapi_fields.proofs.Referring.{reads_reference}
use Rattle.openapi_fields.proofs.Classed.{class_read}
use Rattle.openapi_fields.proofs.RowReading.{weight_of_name}
use Rattle.openapi_fields.proofs.RecursiveReading.{all_so_far, map_at, next_refused, next_so_far, no_map, no_map_at}
use Rattle.openapi_fields.proofs.RecursiveReading.{none_so_far, object_read}
use Rattle.openapi_fields.proofs.EntryReading.{name_unread}
use Rattle.openapi_fields.proofs.Joining.{row_first, row_joined}
use Rattle.openapi_fields.proofs.PresentRows.{row_gone, row_read}
use Rattle.openapi_fields.proofs.Taking.{looked_into, name_untaken, none_yet, passed_over, taken_all, taken_next, taken_refused}
use Rattle.openapi_documents.specs.OperationForms.{callback_form, callback_rows, operation_form, operation_rows}
use Rattle.openapi_documents.specs.OperationForms.{path_item_form, path_item_rows}
use Rattle.openapi_documents.specs.Fields.{callback_fields, operation_fields, path_item_fields}
use Rattle.openapi_documents.specs.declared.callback.Callback.{roll-Callback}
use Rattle.openapi_documents.specs.declared.operation.Operation.{roll-Operation}
use Rattle.openapi_documents.proofs.Opened.{callback_read, callback_same, operation_read, operation_same, path_item_same}
use Rattle.openapi_documents.proofs.PartRows.{methods_read, path_item_weight}
use Rattle.openapi_documents.proofs.read.+read.Goals as goal

pub read_path_item-path_item_with-requires : goal.read_path_item-path_item_with-requires
read_path_item-path_item_with-requires t c = rw c.in-Ok-read_methods.is at c.read_methods.ensures.reads

pub read_path_item-returns-in-Ok-read_methods : goal.read_path_item-returns-in-Ok-read_methods
read_path_item-returns-in-Ok-read_methods t c =
    let ms = members_of c.in-Ok.members.now in
    object_read path_item_fields path_item_rows path_item_same path_item c.path_item_with.result ms (shown c.args.view.now) _ _
    c.in-Ok.ensures (record {
      reads = c.path_item_with.ensures.reads;
      count = (
        omega (arith, c.path_item_with.ensures.count.0, c.read_methods.ensures.count.0),
        omega (arith, path_item_weight ms, c.path_item_with.ensures.count.1, c.read_methods.ensures.count.1),
      );
    })

pub read_path_item-returns-in-Err-read_methods : goal.read_path_item-returns-in-Err-read_methods
read_path_item-returns-in-Err-read_methods t c =
    let ms = members_of c.in-Ok.members.now in
    object_read path_item_fields path_item_rows path_item_same path_item (Err c.in-Err-read_methods.fault) ms
    (shown c.args.view.now) _ _ c.in-Ok.ensures (record {
      reads = rw c.in-Err-read_methods.is at c.read_methods.ensures.reads;
      count = (
        omega (arith, c.read_methods.ensures.count.0),
        omega (arith, path_item_weight ms, c.read_methods.ensures.count.1),
      );
    })

pub read_operation-read_callbacks-requires : goal.read_operation-read_callbacks-requires
read_operation-read_callbacks-requires t c = (omega (arith, ap size_of c.in-Ok.ensures, c.decreases), tt)

pub read_callback-read_requests-requires : goal.read_callback-read_requests-requires
read_callback-read_requests-requires t c = (omega (arith, ap size_of c.in-Ok.ensures, c.decreases), tt)

pub read_operation-returns-in-Ok-from_joined : goal.read_operation-returns-in-Ok-from_joined
unfolding final_tables tables_with
read_operation-returns-in-Ok-from_joined t c =
    let k = by operation in
    let ms = members_of c.in-Ok.members.now in
    let one = row_first _ _ k _ ms c.or_implied.ensures.reads in
    let two = row_joined _ _ _ _ _ k _ _ ms c.from_joined-join.ensures one c.or_implied-in-Ok.ensures.reads in
    let three = row_joined _ _ _ _ _ k _ _ ms c.from_joined-join-in-Ok.ensures two c.optional.ensures.reads in
    let four = row_joined _ _ _ _ _ k _ _ ms c.from_joined-join-in-Ok-2.ensures three c.optional-in-Ok.ensures.reads in
    let five = row_joined _ _ _ _ _ k _ _ ms c.from_joined-join-in-Ok-3.ensures four c.optional-in-Ok-2.ensures.reads in
    let six = row_joined _ _ _ _ _ k _ _ ms c.from_joined-join-in-Ok-4.ensures five c.optional-in-Ok-3.ensures.reads in
    let seven = row_joined _ _ _ _ _ k _ _ ms c.from_joined-join-in-Ok-5.ensures six c.or_implied-in-Ok-2.ensures.reads in
    let eight = row_joined _ _ _ _ _ k _ _ ms c.from_joined-join-in-Ok-6.ensures seven c.optional-in-Ok-4.ensures.reads in
    let nine = row_joined _ _ _ _ _ k _ _ ms c.from_joined-join-in-Ok-7.ensures eight c.read_callbacks.ensures.reads in
    let ten = row_joined _ _ _ _ _ k _ _ ms c.from_joined-join-in-Ok-8.ensures nine c.extensions.ensures.reads in
    let eleven = row_joined _ _ _ _ _ k _ _ ms c.from_joined-join-in-Ok-9.ensures ten c.or_implied-in-Ok-3.ensures.reads in
    let twelve = row_joined _ _ _ _ _ k _ _ ms c.from_joined-join-in-Ok-10.ensures eleven c.optional-in-Ok-5.ensures.reads in
    let thirteen = row_joined _ _ _ _ _ k _ _ ms c.from_joined-join-in-Ok-11.ensures twelve c.required.ensures.reads in
    let all = rw c.in-Ok-from_joined.is at thirteen in
    object_read operation_fields operation_rows operation_same operation (Ok (roll-Operation (record {
      tags = c.in-Ok-from_joined.field-0.0.0.0.0.0.0.0.0.0.0.0.1;
      summary = c.in-Ok-from_joined.field-0.0.0.0.0.0.0.0.0.0.0.1;
      description = c.in-Ok-from_joined.field-0.0.0.0.0.0.0.0.0.0.1;
      external_docs = c.in-Ok-from_joined.field-0.0.0.0.0.0.1;
      operation_id = c.in-Ok-from_joined.field-0.0.0.0.0.0.0.0.0.1;
      parameters = c.in-Ok-from_joined.field-0.0.0.1;
      request_body = c.in-Ok-from_joined.field-0.0.1;
      responses = c.in-Ok-from_joined.field-0.1;
      callbacks = c.in-Ok-from_joined.field-0.0.0.0.0.1;
      deprecated = c.in-Ok-from_joined.field-0.0.0.0.0.0.0.0.0.0.0.0.0;
      security = c.in-Ok-from_joined.field-0.0.0.0.0.0.0.0.1;
      servers = c.in-Ok-from_joined.field-0.0.0.0.0.0.0.1;
      extensions = c.in-Ok-from_joined.field-0.0.0.0.1;
    }))) ms
    (shown c.args.view.now) _ _ c.in-Ok.ensures (record {
      reads = operation_read (record {
        tags = c.in-Ok-from_joined.field-0.0.0.0.0.0.0.0.0.0.0.0.1;
        summary = c.in-Ok-from_joined.field-0.0.0.0.0.0.0.0.0.0.0.1;
        description = c.in-Ok-from_joined.field-0.0.0.0.0.0.0.0.0.0.1;
        external_docs = c.in-Ok-from_joined.field-0.0.0.0.0.0.1;
        operation_id = c.in-Ok-from_joined.field-0.0.0.0.0.0.0.0.0.1;
        parameters = c.in-Ok-from_joined.field-0.0.0.1;
        request_body = c.in-Ok-from_joined.field-0.0.1;
        responses = c.in-Ok-from_joined.field-0.1;
        callbacks = c.in-Ok-from_joined.field-0.0.0.0.0.1;
        deprecated = c.in-Ok-from_joined.field-0.0.0.0.0.0.0.0.0.0.0.0.0;
        security = c.in-Ok-from_joined.field-0.0.0.0.0.0.0.0.1;
        servers = c.in-Ok-from_joined.field-0.0.0.0.0.0.0.1;
        extensions = c.in-Ok-from_joined.field-0.0.0.0.1;
      }) ms
          (all.1.1.1.1.1.1.1.1.1.1.1.0, (all.1.1.1.1.1.1.1.1.1.1.0, (all.1.1.1.1.1.1.1.1.1.0, (all.1.1.1.1.1.0, (all.1.1.1.1.1.1.1.1.0, (all.1.1.0, (all.1.0, (all.0, (all.1.1.1.1.0, (all.1.1.1.1.1.1.1.1.1.1.1.1.0, (all.1.1.1.1.1.1.1.0, (all.1.1.1.1.1.1.0, (all.1.1.1.0, tt)))))))))))));
      count = (
        omega (
          arith,
          c.or_implied.ensures.rises,
          c.or_implied-in-Ok.ensures.rises,
          c.optional.ensures.rises,
          c.optional-in-Ok.ensures.rises,
          c.optional-in-Ok-2.ensures.rises,
          c.optional-in-Ok-3.ensures.rises,
          c.or_implied-in-Ok-2.ensures.rises,
          c.optional-in-Ok-4.ensures.rises,
          c.read_callbacks.ensures.count.0,
          c.extensions.ensures.rises,
          c.or_implied-in-Ok-3.ensures.rises,
          c.optional-in-Ok-5.ensures.rises,
          c.required.ensures.rises,
        ),
        omega (
          arith,
          c.or_implied.ensures.count,
          c.or_implied-in-Ok.ensures.count,
          c.optional.ensures.count,
          c.optional-in-Ok.ensures.count,
          c.optional-in-Ok-2.ensures.count,
          c.optional-in-Ok-3.ensures.count,
          c.or_implied-in-Ok-2.ensures.count,
          c.optional-in-Ok-4.ensures.count,
          c.read_callbacks.ensures.count.1,
          c.extensions.ensures.count,
          c.or_implied-in-Ok-3.ensures.count,
          c.optional-in-Ok-5.ensures.count,
          c.required.ensures.count,
        ),
      );
    })

pub read_operation-returns-in-Err-from_joined : goal.read_operation-returns-in-Err-from_joined
unfolding final_tables tables_with
read_operation-returns-in-Err-from_joined t c =
    let k = by operation in
    let ms = members_of c.in-Ok.members.now in
    let one = row_first _ _ k _ ms c.or_implied.ensures.reads in
    let two = row_joined _ _ _ _ _ k _ _ ms c.from_joined-join.ensures one c.or_implied-in-Ok.ensures.reads in
    let three = row_joined _ _ _ _ _ k _ _ ms c.from_joined-join-in-Ok.ensures two c.optional.ensures.reads in
    let four = row_joined _ _ _ _ _ k _ _ ms c.from_joined-join-in-Ok-2.ensures three c.optional-in-Ok.ensures.reads in
    let five = row_joined _ _ _ _ _ k _ _ ms c.from_joined-join-in-Ok-3.ensures four c.optional-in-Ok-2.ensures.reads in
    let six = row_joined _ _ _ _ _ k _ _ ms c.from_joined-join-in-Ok-4.ensures five c.optional-in-Ok-3.ensures.reads in
    let seven = row_joined _ _ _ _ _ k _ _ ms c.from_joined-join-in-Ok-5.ensures six c.or_implied-in-Ok-2.ensures.reads in
    let eight = row_joined _ _ _ _ _ k _ _ ms c.from_joined-join-in-Ok-6.ensures seven c.optional-in-Ok-4.ensures.reads in
    let nine = row_joined _ _ _ _ _ k _ _ ms c.from_joined-join-in-Ok-7.ensures eight c.read_callbacks.ensures.reads in
    let ten = row_joined _ _ _ _ _ k _ _ ms c.from_joined-join-in-Ok-8.ensures nine c.extensions.ensures.reads in
    let eleven = row_joined _ _ _ _ _ k _ _ ms c.from_joined-join-in-Ok-9.ensures ten c.or_implied-in-Ok-3.ensures.reads in
    let twelve = row_joined _ _ _ _ _ k _ _ ms c.from_joined-join-in-Ok-10.ensures eleven c.optional-in-Ok-5.ensures.reads in
    let thirteen = row_joined _ _ _ _ _ k _ _ ms c.from_joined-join-in-Ok-11.ensures twelve c.required.ensures.reads in
    object_read operation_fields operation_rows operation_same operation (Err c.in-Err-from_joined.field-0) ms
    (shown c.args.view.now) _ _ c.in-Ok.ensures (record {
      reads = rw c.in-Err-from_joined.is at thirteen;
      count = (
        omega (
          arith,
          c.or_implied.ensures.rises,
          c.or_implied-in-Ok.ensures.rises,
          c.optional.ensures.rises,
          c.optional-in-Ok.ensures.rises,
          c.optional-in-Ok-2.ensures.rises,
          c.optional-in-Ok-3.ensures.rises,
          c.or_implied-in-Ok-2.ensures.rises,
          c.optional-in-Ok-4.ensures.rises,
          c.read_callbacks.ensures.count.0,
          c.extensions.ensures.rises,
          c.or_implied-in-Ok-3.ensures.rises,
          c.optional-in-Ok-5.ensures.rises,
          c.required.ensures.rises,
        ),
        omega (
          arith,
          c.or_implied.ensures.count,
          c.or_implied-in-Ok.ensures.count,
          c.optional.ensures.count,
          c.optional-in-Ok.ensures.count,
          c.optional-in-Ok-2.ensures.count,
          c.optional-in-Ok-3.ensures.count,
          c.or_implied-in-Ok-2.ensures.count,
          c.optional-in-Ok-4.ensures.count,
          c.read_callbacks.ensures.count.1,
          c.extensions.ensures.count,
          c.or_implied-in-Ok-3.ensures.count,
          c.optional-in-Ok-5.ensures.count,
          c.required.ensures.count,
        ),
      );
    })

pub read_callback-returns-in-Ok-from_joined : goal.read_callback-returns-in-Ok-from_joined
unfolding final_tables tables_with
read_callback-returns-in-Ok-from_joined t c =
    let k = by callback_object in
    let ms = members_of c.in-Ok.members.now in
    let one = row_first _ _ k _ ms c.read_requests.ensures.reads in
    let two = row_joined _ _ _ _ _ k _ _ ms c.from_joined-join.ensures one c.extensions.ensures.reads in
    let all = rw c.in-Ok-from_joined.is at two in
    object_read callback_fields callback_rows callback_same callback_object (Ok (roll-Callback (record {
      paths = c.in-Ok-from_joined.field-0.0;
      extensions = c.in-Ok-from_joined.field-0.1;
    }))) ms
    (shown c.args.view.now) _ _ c.in-Ok.ensures (record {
      reads = callback_read (record {
        paths = c.in-Ok-from_joined.field-0.0;
        extensions = c.in-Ok-from_joined.field-0.1;
      }) ms
          (all.1.0, (all.0, tt));
      count = (
        omega (arith, c.read_requests.ensures.count.0, c.extensions.ensures.rises),
        omega (
          arith,
          c.read_requests.ensures.count.1,
          c.extensions.ensures.count,
        ),
      );
    })

pub read_callback-returns-in-Err-from_joined : goal.read_callback-returns-in-Err-from_joined
unfolding final_tables tables_with
read_callback-returns-in-Err-from_joined t c =
    let k = by callback_object in
    let ms = members_of c.in-Ok.members.now in
    let one = row_first _ _ k _ ms c.read_requests.ensures.reads in
    let two = row_joined _ _ _ _ _ k _ _ ms c.from_joined-join.ensures one c.extensions.ensures.reads in
    object_read callback_fields callback_rows callback_same callback_object (Err c.in-Err-from_joined.field-0) ms
    (shown c.args.view.now) _ _ c.in-Ok.ensures (record {
      reads = rw c.in-Err-from_joined.is at two;
      count = (
        omega (arith, c.read_requests.ensures.count.0, c.extensions.ensures.rises),
        omega (
          arith,
          c.read_requests.ensures.count.1,
          c.extensions.ensures.count,
        ),
      );
    })

pub callbacks_of-loop-i-init : goal.callbacks_of-loop-i-init
callbacks_of-loop-i-init t c = none_so_far (reference_form callback_form) callback_ref c.args.members.now c.args.steps.now c.new-values.result c.new-values.ensures

pub callbacks_of-returns-in-Err : goal.callbacks_of-returns-in-Err
callbacks_of-returns-in-Err t c =
    next_refused (reference_form callback_form) callback_ref c.args.members.now c.args.steps.now c.loop-i.i c.put_read.new.values c.read_callback_ref.result c.put_read.result
    c.entry_at.ensures c.loop-i.invariant c.open-entry.ensures c.read_callback_ref.ensures.reads c.read_callback_ref.ensures.count c.put_read.ensures c.in-Err.fault c.in-Err.is

pub callbacks_of-loop-i-preserved : goal.callbacks_of-loop-i-preserved
callbacks_of-loop-i-preserved t c =
    next_so_far (reference_form callback_form) callback_ref c.args.members.now c.args.steps.now c.loop-i.i c.put_read.new.values c.read_callback_ref.result c.put_read.result
    c.entry_at.ensures c.loop-i.invariant c.open-entry.ensures c.read_callback_ref.ensures.reads c.read_callback_ref.ensures.count c.put_read.ensures c.in-Ok.is

pub callbacks_of-returns : goal.callbacks_of-returns
callbacks_of-returns t c =
    all_so_far (reference_form callback_form) callback_ref c.args.members.now c.args.steps.now c.loop-i.i c.loop-i.values c.loop-i.steps (omega arith)
    c.loop-i.invariant

pub read_path_item-returns-in-Err-clause-reads : goal.read_path_item-returns-in-Err-clause-reads
read_path_item-returns-in-Err-clause-reads t c = c.in-Err.ensures (by path_item) refl

pub read_operation-returns-in-Err-clause-reads : goal.read_operation-returns-in-Err-clause-reads
read_operation-returns-in-Err-clause-reads t c = c.in-Err.ensures (by operation) refl

pub read_callback-returns-in-Err-clause-reads : goal.read_callback-returns-in-Err-clause-reads
read_callback-returns-in-Err-clause-reads t c = c.in-Err.ensures (by callback_object) refl

pub callbacks_of-read_callback_ref-requires : goal.callbacks_of-read_callback_ref-requires
callbacks_of-read_callback_ref-requires t c =
    let next = next_member c.args.members.now c.loop-i.i (c.entry_at.result.0.now, c.entry_at.result.1.now)
    c.entry_at.ensures in
    (omega (arith, next.within, ap size_of c.open-entry.ensures.shown, c.decreases), tt)

pub callbacks_of-put_read-requires : goal.callbacks_of-put_read-requires
callbacks_of-put_read-requires t c =
    name_unread (reference_form callback_form) callback_ref c.args.members.now c.loop-i.i c.entry_at.result.0.now
    c.entry_at.result.1.now c.entry_at.ensures c.loop-i.values c.len-i-end.ensures.distinct c.loop-i.invariant.read

pub read_method-read_operation-requires : goal.read_method-read_operation-requires
read_method-read_operation-requires t c = (omega (arith, c.in-Some.ensures.within, c.requires), tt)

pub read_method-returns-in-None-clause-reads : goal.read_method-returns-in-None-clause-reads
read_method-returns-in-None-clause-reads t c =
    let at : row_where (is_named c.args.method.now) (rows_asked final_tables (by path_item))
    ≡ Some (row c.args.method.now optional (by operation)) = search rules in
    let free : c.args.place.now ≡ None = search rules in
    subst (λ o. RowGives final_tables (row c.args.method.now optional (by operation)) (members_of c.args.members.now)
    (optional_form operation_form o)) (sym free)
    (row_gone operation_form (by path_item) c.args.method.now (by operation) (members_of c.args.members.now)
    at c.in-None.ensures.is)

pub read_method-returns-in-None-clause-count : goal.read_method-returns-in-None-clause-count
read_method-returns-in-None-clause-count t c = (
  omega (arith, c.in-None.ensures.rises),
  omega (
    arith,
    c.in-None.ensures.counted,
    weight_of_name c.args.method.now optional optional (by operation) any_tree (members_of c.args.members.now),
  ),
)

pub read_method-returns-in-Ok-clause-reads : goal.read_method-returns-in-Ok-clause-reads
read_method-returns-in-Ok-clause-reads t c =
    let at : row_where (is_named c.args.method.now) (rows_asked final_tables (by path_item))
    ≡ Some (row c.args.method.now optional (by operation)) = search rules in
    rw c.in-Ok.is at (row_read operation_form (by path_item) c.args.method.now (by operation)
    (members_of c.args.members.now) at (shown c.in-Some.view) c.read_operation.result c.as_member.result
    c.in-Some.ensures.is c.as_member.ensures c.read_operation.ensures.reads)

pub read_method-returns-in-Err-clause-reads : goal.read_method-returns-in-Err-clause-reads
read_method-returns-in-Err-clause-reads t c =
    let at : row_where (is_named c.args.method.now) (rows_asked final_tables (by path_item))
    ≡ Some (row c.args.method.now optional (by operation)) = search rules in
    rw c.in-Err.is at (row_read operation_form (by path_item) c.args.method.now (by operation)
    (members_of c.args.members.now) at (shown c.in-Some.view) c.read_operation.result c.as_member.result
    c.in-Some.ensures.is c.as_member.ensures c.read_operation.ensures.reads)

pub read_method-returns-in-Ok-clause-count : goal.read_method-returns-in-Ok-clause-count
read_method-returns-in-Ok-clause-count t c = (
  omega (arith, c.read_operation.ensures.count.0, c.in-Some.ensures.counted),
  omega (
    arith,
    c.in-Some.ensures.counted,
    c.in-Some.ensures.weighs,
    c.read_operation.ensures.count.1,
    weight_of_name c.args.method.now optional optional (by operation) any_tree (members_of c.args.members.now),
  ),
)

pub read_method-returns-in-Err-clause-count : goal.read_method-returns-in-Err-clause-count
read_method-returns-in-Err-clause-count t c = (
  omega (arith, c.read_operation.ensures.count.0, c.in-Some.ensures.counted),
  omega (
    arith,
    c.in-Some.ensures.counted,
    c.in-Some.ensures.weighs,
    c.read_operation.ensures.count.1,
    weight_of_name c.args.method.now optional optional (by operation) any_tree (members_of c.args.members.now),
  ),
)

pub read_methods-returns-clause-reads : goal.read_methods-returns-clause-reads
read_methods-returns-clause-reads t c =
    methods_read c.read_method-8.result c.read_method-8.new.place (members_of c.args.members.now)
    c.in_ok-read_method.ensures.reads c.in_ok-read_method-2.ensures.reads c.in_ok-read_method-3.ensures.reads
    c.in_ok-read_method-4.ensures.reads c.in_ok-read_method-5.ensures.reads c.in_ok-read_method-6.ensures.reads
    c.in_ok-read_method-7.ensures.reads c.read_method-8.ensures.reads

pub read_requests-read_path_item-requires : goal.read_requests-read_path_item-requires
read_requests-read_path_item-requires t c =
    let next = next_member c.args.members.now c.loop-i.i (c.entry_at.result.0.now, c.entry_at.result.1.now)
    c.entry_at.ensures in
    (omega (arith, next.within, ap size_of c.open-entry.ensures.shown, c.decreases), tt)

pub read_requests-put_read-requires : goal.read_requests-put_read-requires
read_requests-put_read-requires t c =
    let yes = ap not (sym c.contains.ensures ∙ c.if-contains.false) in
    name_untaken (in_class callback_names) path_item_form (by path_item) c.args.members.now c.loop-i.i
    c.entry_at.result.0.now c.entry_at.result.1.now c.entry_at.ensures c.loop-i.values yes
    c.len-i-end.ensures.distinct c.loop-i.invariant.read

pub read_requests-loop-i-init : goal.read_requests-loop-i-init
read_requests-loop-i-init t c =
    none_yet (in_class callback_names) path_item_form (by path_item) c.args.members.now c.args.steps.now c.new-values.result
    c.new-values.ensures

pub read_requests-loop-i-preserved-then-contains : goal.read_requests-loop-i-preserved-then-contains
read_requests-loop-i-preserved-then-contains t c =
    passed_over (in_class callback_names) path_item_form (by path_item) c.args.members.now c.args.steps.now c.loop-i.i
    c.entry_at.ensures c.loop-i.invariant (ap not (sym c.contains.ensures ∙ c.if-contains.true))

pub read_requests-returns-in-Err : goal.read_requests-returns-in-Err
unfolding final_tables tables_with
read_requests-returns-in-Err t c =
    class_read callback_names (by path_item) (in_class callback_names) (λ m. refl) (λ m. refl) path_item_form
    (Err c.in-Err.fault) (by callback_object) c.args.members.now refl
    (taken_refused (in_class callback_names) path_item_form (by path_item) c.args.members.now c.args.steps.now c.loop-i.i
    c.entry_at.ensures c.loop-i.invariant (ap not (sym c.contains.ensures ∙ c.if-contains.false)) c.put_read.new.values
    (looked_into c.open-entry.ensures c.read_path_item.ensures.count) c.in-Err.fault (rw c.in-Err.is at
    (c.put_read.ensures path_item_form (by path_item) c.entry_at.result.1.now
    (subst (λ v. ReadAs path_item_form c.read_path_item.result (by path_item) v) c.open-entry.ensures.shown
    c.read_path_item.ensures.reads))))

pub read_requests-loop-i-preserved : goal.read_requests-loop-i-preserved
read_requests-loop-i-preserved t c =
    taken_next (in_class callback_names) path_item_form (by path_item) c.args.members.now c.args.steps.now c.loop-i.i
    c.entry_at.ensures c.loop-i.invariant (ap not (sym c.contains.ensures ∙ c.if-contains.false)) c.put_read.new.values
    (looked_into c.open-entry.ensures c.read_path_item.ensures.count) (rw c.in-Ok.is at
    (c.put_read.ensures path_item_form (by path_item) c.entry_at.result.1.now
    (subst (λ v. ReadAs path_item_form c.read_path_item.result (by path_item) v) c.open-entry.ensures.shown
    c.read_path_item.ensures.reads)))

pub read_requests-returns : goal.read_requests-returns
unfolding final_tables tables_with
read_requests-returns t c =
    class_read callback_names (by path_item) (in_class callback_names) (λ m. refl) (λ m. refl) path_item_form
    (Ok c.loop-i.values) (by callback_object) c.args.members.now refl
    (taken_all (in_class callback_names) path_item_form (by path_item) c.args.members.now c.args.steps.now c.loop-i.i c.loop-i.values
    c.loop-i.steps (omega arith) c.loop-i.invariant)

pub read_callback_ref-returns-in-Ok-Some-clause-reads : goal.read_callback_ref-returns-in-Ok-Some-clause-reads
read_callback_ref-returns-in-Ok-Some-clause-reads t c =
    reads_reference (by callback_object) callback_form (shown c.args.view.now) (string_bytes c.in-Ok-Some.reference)
    (sym (rw c.in-Ok-Some.field-0-is at c.in-Ok-Some.ensures.reads))

pub read_callback_ref-returns-in-Ok-None-clause-reads : goal.read_callback_ref-returns-in-Ok-None-clause-reads
read_callback_ref-returns-in-Ok-None-clause-reads t c =
    c.as_item.ensures callback_form (by callback_object) (shown c.args.view.now) (sym (rw c.in-Ok-None.field-0-is at c.in-Ok-None.ensures.reads))
    c.read_callback.ensures.reads

pub read_callback_ref-returns-in-Err-clause-reads : goal.read_callback_ref-returns-in-Err-clause-reads
read_callback_ref-returns-in-Err-clause-reads t c = memory_fails c.in-Err.fault callback_ref (shown c.args.view.now) c.in-Err.ensures.err

pub read_callbacks-callbacks_of-requires : goal.read_callbacks-callbacks_of-requires
read_callbacks-callbacks_of-requires t c =
    let there = rw c.in-Ok-Some.field-0-is at c.in-Ok-Some.ensures in
    (omega (arith, there.within, c.decreases), tt)

pub read_callbacks-returns-in-Ok-None : goal.read_callbacks-returns-in-Ok-None
unfolding final_tables tables_with
read_callbacks-returns-in-Ok-None t c =
    no_map (reference_form callback_form) (by operation) (codes "callbacks") callback_ref (members_of c.args.members.now) refl c.new.result _ _ c.new.ensures
    (rw c.in-Ok-None.field-0-is at c.in-Ok-None.ensures)

pub read_callbacks-returns-in-Ok-Some : goal.read_callbacks-returns-in-Ok-Some
unfolding final_tables tables_with
read_callbacks-returns-in-Ok-Some t c =
    map_at (reference_form callback_form) (by operation) (codes "callbacks") callback_ref (members_of c.args.members.now) refl c.callbacks_of.result c.at_name.result
    (rw c.in-Ok-Some.field-0-is at c.in-Ok-Some.ensures) c.at_name.ensures c.callbacks_of.ensures

pub read_callbacks-returns-in-Err : goal.read_callbacks-returns-in-Err
unfolding final_tables tables_with
read_callbacks-returns-in-Err t c =
    no_map_at (reference_form callback_form) (by operation) (codes "callbacks") callback_ref (members_of c.args.members.now) refl c.in-Err.fault _ _ c.in-Err.ensures
