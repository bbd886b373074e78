use Rattle.std.proofs.Common.{◌≡◌, ◌+◌, ◌≤◌, ◌∙◌, ◌++◌, ◌∷◌, [], Some, take, codes, string_bytes, refl, sym, ap, subst}
use Rattle.std.proofs.Common.{arith, rules}
use Rattle.std.proofs.lemmas.List.{take_all}
use Rattle.openapi_node.specs.Place.{indexed}
use Rattle.openapi_node.specs.Tree.{list, items_of, members_of, members_size, size_of}
use Rattle.openapi_node.specs.View.{shown}
use Rattle.openapi_node.specs.declared.fault.Expected.TheVariants as words
use Rattle.openapi_node.proofs.TreeLemmas.{next_item, next_member}
use Rattle.openapi_tables.specs.Prelude.{each, every, ref_to, a_schema, a_schema_kind, flag_or_schema, list_of, map_of}
use Rattle.openapi_tables.specs.Prelude.{by, optional, row, schema_data, is_named, row_where, rows_asked, rows_weight}
use Rattle.openapi_tables.specs.Prelude.{final_tables, any_rows, checked_rows, conforms, form}
use Rattle.openapi_fields.specs.Forms.{list_form, map_form}
use Rattle.openapi_fields.specs.Returned.{ReadAs}
use Rattle.openapi_fields.specs.References.{reference_in}
use Rattle.openapi_fields.proofs.Below.{fails_above, refuses, size-positive, wrong_here, not_list, not_map}
use Rattle.openapi_fields.proofs.Elements.{list_gives, every-more, each-more, item_leads, next_here}
use Rattle.openapi_fields.proofs.Referring.{reads_reference}
use Rattle.openapi_fields.proofs.Joining.{row_first, row_joined}
use Rattle.openapi_schema.specs.PlainNames.{plain_rows}
use Rattle.openapi_schema.specs.RawSlots.{optional_rows}
use Rattle.openapi_schema.specs.Reading.{ref_form, inner_box_form, outer_box_form}
use Rattle.openapi_schema.specs.SchemaForms.{additional_form, schema_form}
use Rattle.openapi_schema.proofs.KindGives.{schema_weight-le}
use Rattle.openapi_schema.proofs.NameRows.{first_holds, last_holds, names_weight, part_joined}
use Rattle.openapi_fields.proofs.RecursiveReading.{all_so_far, map_read, next_refused, next_so_far, none_present}
use Rattle.openapi_fields.proofs.RecursiveReading.{none_so_far, read_present}
use Rattle.openapi_fields.proofs.EntryReading.{name_unread}
use Rattle.openapi_schema.proofs.Refusals.{not_object_fails, not_flag_or_object}
use Rattle.openapi_schema.proofs.SchemaReads.{none_referred, additional-any}
use Rattle.openapi_schema.proofs.read.+read.Goals as goal

pub read_inner_box-returns-in-None : goal.read_inner_box-returns-in-None
read_inner_box-returns-in-None t c =
    let at : row_where (is_named c.args.name.now) (rows_asked final_tables a_schema_kind) ≡ Some (row c.args.name.now optional (ref_to a_schema)) =
    search rules in
    none_present inner_box_form a_schema_kind c.args.name.now (ref_to a_schema) (members_of c.args.members.now) at _ _ c.in-None.ensures

pub read_inner_box-returns-in-Some : goal.read_inner_box-returns-in-Some
read_inner_box-returns-in-Some t c =
    let at : row_where (is_named c.args.name.now) (rows_asked final_tables a_schema_kind) ≡ Some (row c.args.name.now optional (ref_to a_schema)) =
    search rules in
    read_present inner_box_form a_schema_kind c.args.name.now (ref_to a_schema) (members_of c.args.members.now) at c.read_boxed_schema_ref.result c.as_member.result
    c.in-Some.ensures c.as_member.ensures c.read_boxed_schema_ref.ensures.reads c.read_boxed_schema_ref.ensures.count

pub read_outer_box-returns-in-None : goal.read_outer_box-returns-in-None
read_outer_box-returns-in-None t c =
    let at : row_where (is_named c.args.name.now) (rows_asked final_tables a_schema_kind) ≡ Some (row c.args.name.now optional (ref_to a_schema)) =
    search rules in
    none_present outer_box_form a_schema_kind c.args.name.now (ref_to a_schema) (members_of c.args.members.now) at _ _ c.in-None.ensures

pub read_outer_box-returns-in-Some : goal.read_outer_box-returns-in-Some
read_outer_box-returns-in-Some t c =
    let at : row_where (is_named c.args.name.now) (rows_asked final_tables a_schema_kind) ≡ Some (row c.args.name.now optional (ref_to a_schema)) =
    search rules in
    read_present outer_box_form a_schema_kind c.args.name.now (ref_to a_schema) (members_of c.args.members.now) at c.read_boxed_ref.result c.as_member.result
    c.in-Some.ensures c.as_member.ensures c.read_boxed_ref.ensures.reads c.read_boxed_ref.ensures.count

pub read_listed-returns-in-None : goal.read_listed-returns-in-None
read_listed-returns-in-None t c =
    let at : row_where (is_named c.args.name.now) (rows_asked final_tables a_schema_kind) ≡ Some (row c.args.name.now optional (list_of (ref_to a_schema))) =
    search rules in
    none_present (list_form ref_form) a_schema_kind c.args.name.now (list_of (ref_to a_schema)) (members_of c.args.members.now) at _ _ c.in-None.ensures

pub read_listed-returns-in-Some : goal.read_listed-returns-in-Some
read_listed-returns-in-Some t c =
    let at : row_where (is_named c.args.name.now) (rows_asked final_tables a_schema_kind) ≡ Some (row c.args.name.now optional (list_of (ref_to a_schema))) =
    search rules in
    read_present (list_form ref_form) a_schema_kind c.args.name.now (list_of (ref_to a_schema)) (members_of c.args.members.now) at c.read_refs_in.result c.as_member.result
    c.in-Some.ensures c.as_member.ensures c.read_refs_in.ensures.reads (c.read_refs_in.ensures.count.0, omega (arith, c.read_refs_in.ensures.count.1))

pub read_properties-returns-in-None : goal.read_properties-returns-in-None
unfolding checked_rows any_rows
read_properties-returns-in-None t c =
    none_present (map_form inner_box_form) a_schema_kind (codes "properties") (map_of (ref_to a_schema)) (members_of c.args.members.now) refl _ _ c.in-None.ensures

pub read_properties-returns-in-Some : goal.read_properties-returns-in-Some
unfolding checked_rows any_rows
read_properties-returns-in-Some t c =
    read_present (map_form inner_box_form) a_schema_kind (codes "properties") (map_of (ref_to a_schema)) (members_of c.args.members.now) refl c.read_properties_in.result c.as_member.result
    c.in-Some.ensures c.as_member.ensures c.read_properties_in.ensures.reads (c.read_properties_in.ensures.count.0, omega (arith, c.read_properties_in.ensures.count.1))

pub read_additional-returns-in-None : goal.read_additional-returns-in-None
unfolding checked_rows any_rows
read_additional-returns-in-None t c =
    none_present additional_form a_schema_kind (codes "additionalProperties") flag_or_schema (members_of c.args.members.now) refl _ _ c.in-None.ensures

pub read_additional-returns-in-Some : goal.read_additional-returns-in-Some
unfolding checked_rows any_rows
read_additional-returns-in-Some t c =
    read_present additional_form a_schema_kind (codes "additionalProperties") flag_or_schema (members_of c.args.members.now) refl c.read_additional_in.result c.as_member.result
    c.in-Some.ensures c.as_member.ensures c.read_additional_in.ensures.reads c.read_additional_in.ensures.count

pub read_properties_in-returns-in-Object : goal.read_properties_in-returns-in-Object
read_properties_in-returns-in-Object t c =
    rw c.in-Object.is (map_read (map_form inner_box_form) (map_of (ref_to a_schema)) c.read_named.result
    (members_of c.in-Object.members.now) _ _ _ refl c.read_named.ensures)

pub read_named-read_boxed_schema_ref-requires : goal.read_named-read_boxed_schema_ref-requires
read_named-read_boxed_schema_ref-requires t c =
    let next = next_member c.args.members.now c.loop-i.i (c.entry_at.result.0.now, c.entry_at.result.1.now)
    c.entry_at.ensures in
    (omega (arith, next.within, ap size_of c.open-entry.ensures.shown, c.decreases), tt)

pub read_named-put_read-requires : goal.read_named-put_read-requires
read_named-put_read-requires t c =
    name_unread inner_box_form (ref_to a_schema) c.args.members.now c.loop-i.i c.entry_at.result.0.now c.entry_at.result.1.now
    c.entry_at.ensures c.loop-i.values c.len-i-end.ensures.distinct c.loop-i.invariant.read

pub read_named-returns-in-Err : goal.read_named-returns-in-Err
read_named-returns-in-Err t c =
    next_refused inner_box_form (ref_to a_schema) c.args.members.now c.args.steps.now c.loop-i.i c.put_read.new.values c.read_boxed_schema_ref.result c.put_read.result
    c.entry_at.ensures c.loop-i.invariant c.open-entry.ensures c.read_boxed_schema_ref.ensures.reads c.read_boxed_schema_ref.ensures.count c.put_read.ensures c.in-Err.fault c.in-Err.is

pub read_named-loop-i-preserved : goal.read_named-loop-i-preserved
read_named-loop-i-preserved t c =
    next_so_far inner_box_form (ref_to a_schema) c.args.members.now c.args.steps.now c.loop-i.i c.put_read.new.values c.read_boxed_schema_ref.result c.put_read.result
    c.entry_at.ensures c.loop-i.invariant c.open-entry.ensures c.read_boxed_schema_ref.ensures.reads c.read_boxed_schema_ref.ensures.count c.put_read.ensures c.in-Ok-put_read.is

pub read_named-returns : goal.read_named-returns
read_named-returns t c =
    all_so_far inner_box_form (ref_to a_schema) c.args.members.now c.args.steps.now c.loop-i.i c.loop-i.values c.loop-i.steps (omega arith)
    c.loop-i.invariant

pub schema_ref_from_node-returns-clause-reads : goal.schema_ref_from_node-returns-clause-reads
schema_ref_from_node-returns-clause-reads t c =
    subst (λ u. ReadAs ref_form c.read_schema_ref.result (ref_to a_schema) u) c.open-view.ensures.shown
    c.read_schema_ref.ensures.reads

pub schema_ref_from_node-returns-clause-refuses : goal.schema_ref_from_node-returns-clause-refuses
schema_ref_from_node-returns-clause-refuses t c =
    refuses (ref_to a_schema) c.args.node.now refl ref_form c.read_schema_ref.result
    (subst (λ u. ReadAs ref_form c.read_schema_ref.result (ref_to a_schema) u) c.open-view.ensures.shown
    c.read_schema_ref.ensures.reads)

pub schema_ref_from_node-returns-clause-count : goal.schema_ref_from_node-returns-clause-count
schema_ref_from_node-returns-clause-count t c =
    omega (arith, c.open-view.ensures.counted, ap size_of c.open-view.ensures.shown, c.read_schema_ref.ensures.count.1)

pub read_schema_ref-returns-in_default : goal.read_schema_ref-returns-in_default
read_schema_ref-returns-in_default t c =
    record {
      reads = not_object_fails c.new.result c.args.view.now c.in_default.not-Object c.new.ensures.place
          c.new.ensures.cause;
      count = (omega arith, omega (arith, size-positive (shown c.args.view.now)));
    }

pub read_schema_ref-returns-in-Some-clause-reads : goal.read_schema_ref-returns-in-Some-clause-reads
read_schema_ref-returns-in-Some-clause-reads t c =
    reads_reference a_schema schema_form (shown c.args.view.now) (string_bytes c.in-Some.reference)
    (sym (rw c.in-Some.is at c.in_ok-reference.ensures.reads))

pub read_schema_ref-returns-in-Some-clause-count : goal.read_schema_ref-returns-in-Some-clause-count
read_schema_ref-returns-in-Some-clause-count t c =
    rw c.in-Object.is ((omega (arith, c.in_ok-reference.ensures.count.0), omega (arith, c.in_ok-reference.ensures.count.1)))

pub read_schema_ref-returns-clause-reads : goal.read_schema_ref-returns-clause-reads
read_schema_ref-returns-clause-reads t c =
    let none = none_referred string_bytes c.in_ok-reference.field-0 (reference_in (shown c.args.view.now))
    c.in_default-2.not-Some c.in_ok-reference.ensures.reads in
    rw c.in-Object.is (c.item_with.ensures.reads c.read_kind.ensures.reads (rw c.in-Object.is at none))

pub read_schema_ref-returns-clause-count : goal.read_schema_ref-returns-clause-count
read_schema_ref-returns-clause-count t c =
    let ms = members_of c.in-Object.members.now in
    let w : rows_weight (rows_asked final_tables (by schema_data)) ms + rows_weight optional_rows ms ≤ members_size ms =
    schema_weight-le ms in
    rw c.in-Object.is ((
      omega (arith, c.in_ok-reference.ensures.count.0, c.read_kind.ensures.count.0, c.item_with.ensures.count.0),
      omega (
        arith,
        w,
        c.in_ok-reference.ensures.count.1,
        c.read_kind.ensures.count.1,
        c.item_with.ensures.count.1,
      ),
    ))

pub read_boxed_schema_ref-returns-clause-reads : goal.read_boxed_schema_ref-returns-clause-reads
read_boxed_schema_ref-returns-clause-reads t c =
    c.in_inner_box.ensures schema_form (ref_to a_schema) (shown c.args.view.now) c.read_schema_ref.ensures.reads

pub read_boxed_ref-returns-clause-reads : goal.read_boxed_ref-returns-clause-reads
read_boxed_ref-returns-clause-reads t c =
    c.in_outer_box.ensures schema_form (ref_to a_schema) (shown c.args.view.now) c.read_schema_ref.ensures.reads

pub read_kind-returns-clause-reads : goal.read_kind-returns-clause-reads
read_kind-returns-clause-reads t c =
    c.kind_with.ensures.reads (members_of c.args.members.now) c.read_kind_names.ensures.reads

pub read_kind-returns-clause-count : goal.read_kind-returns-clause-count
read_kind-returns-clause-count t c = (
  omega (arith, c.read_kind_names.ensures.rises, c.kind_with.ensures.count.0),
  omega (arith, c.read_kind_names.ensures.left, c.kind_with.ensures.count.1),
)

pub read_kind_names-returns-in-Ok-from_joined-clause-reads : goal.read_kind_names-returns-in-Ok-from_joined-clause-reads
unfolding optional_rows any_rows plain_rows
read_kind_names-returns-in-Ok-from_joined-clause-reads t c =
    let k = a_schema_kind in
    let ms = members_of c.args.members.now in
    let one = row_first _ _ k _ ms c.read_outer_box.ensures.reads in
    let two = row_joined _ _ _ _ _ k _ _ ms c.from_joined-join.ensures one c.read_inner_box.ensures.reads in
    let three = row_joined _ _ _ _ _ k _ _ ms c.from_joined-join-2.ensures two c.read_listed.ensures.reads in
    let four = row_joined _ _ _ _ _ k _ _ ms c.from_joined-join-3.ensures three c.read_listed-2.ensures.reads in
    let five = row_joined _ _ _ _ _ k _ _ ms c.from_joined-join-4.ensures four c.read_listed-3.ensures.reads in
    let six = row_joined _ _ _ _ _ k _ _ ms c.from_joined-join-5.ensures five c.read_additional.ensures.reads in
    let seven = row_joined _ _ _ _ _ k _ _ ms c.from_joined-join-6.ensures six c.read_properties.ensures.reads in
    let eight = row_joined _ _ _ _ _ k _ _ ms c.from_joined-join-7.ensures seven c.lent_entries.ensures.reads in
    let nine = part_joined _ _ _ _ _ k _ _ ms c.from_joined-join-8.ensures eight c.read_plain_names.ensures.reads in
    let all = rw c.in-Ok-from_joined.is at nine in
    (all.0, (all.1.0, (all.1.1.0, (all.1.1.1.0, (all.1.1.1.1.0, (all.1.1.1.1.1.0, (all.1.1.1.1.1.1.0, (all.1.1.1.1.1.1.1.1.1.1.1.1.1.1.1.1.1.0, (all.1.1.1.1.1.1.1.0, (all.1.1.1.1.1.1.1.1.1.1.1.1.1.1.1.1.1.1.0, (all.1.1.1.1.1.1.1.1.0, (all.1.1.1.1.1.1.1.1.1.0, (all.1.1.1.1.1.1.1.1.1.1.1.1.1.1.1.1.1.1.1.1.1.1.0, (all.1.1.1.1.1.1.1.1.1.1.0, (all.1.1.1.1.1.1.1.1.1.1.1.0, (all.1.1.1.1.1.1.1.1.1.1.1.1.0, (all.1.1.1.1.1.1.1.1.1.1.1.1.1.1.1.1.0, (all.1.1.1.1.1.1.1.1.1.1.1.1.1.0, (all.1.1.1.1.1.1.1.1.1.1.1.1.1.1.0, (all.1.1.1.1.1.1.1.1.1.1.1.1.1.1.1.0, (all.1.1.1.1.1.1.1.1.1.1.1.1.1.1.1.1.1.1.1.1.1.0, (all.1.1.1.1.1.1.1.1.1.1.1.1.1.1.1.1.1.1.1.1.0, (all.1.1.1.1.1.1.1.1.1.1.1.1.1.1.1.1.1.1.1.0, (all.1.1.1.1.1.1.1.1.1.1.1.1.1.1.1.1.1.1.1.1.1.1.1.0, tt))))))))))))))))))))))))

pub read_kind_names-returns-in-Err-from_joined-clause-reads : goal.read_kind_names-returns-in-Err-from_joined-clause-reads
read_kind_names-returns-in-Err-from_joined-clause-reads t c =
    let k = a_schema_kind in
    let ms = members_of c.args.members.now in
    let one = row_first _ _ k _ ms c.read_outer_box.ensures.reads in
    let two = row_joined _ _ _ _ _ k _ _ ms c.from_joined-join.ensures one c.read_inner_box.ensures.reads in
    let three = row_joined _ _ _ _ _ k _ _ ms c.from_joined-join-2.ensures two c.read_listed.ensures.reads in
    let four = row_joined _ _ _ _ _ k _ _ ms c.from_joined-join-3.ensures three c.read_listed-2.ensures.reads in
    let five = row_joined _ _ _ _ _ k _ _ ms c.from_joined-join-4.ensures four c.read_listed-3.ensures.reads in
    let six = row_joined _ _ _ _ _ k _ _ ms c.from_joined-join-5.ensures five c.read_additional.ensures.reads in
    let seven = row_joined _ _ _ _ _ k _ _ ms c.from_joined-join-6.ensures six c.read_properties.ensures.reads in
    let eight = row_joined _ _ _ _ _ k _ _ ms c.from_joined-join-7.ensures seven c.lent_entries.ensures.reads in
    let nine = part_joined _ _ _ _ _ k _ _ ms c.from_joined-join-8.ensures eight c.read_plain_names.ensures.reads in
    rw c.in-Err-from_joined.is at nine

pub read_kind_names-returns-in-Ok-from_joined-clause-left : goal.read_kind_names-returns-in-Ok-from_joined-clause-left
read_kind_names-returns-in-Ok-from_joined-clause-left t c =
    let left = rw c.in-Ok-from_joined.is at (first_holds _ _ _ _ c.from_joined-join-8.ensures
    (last_holds _ _ _ _ c.from_joined-join-7.ensures c.lent_entries.ensures.left)) in
    omega (
      arith,
      names_weight (members_of c.args.members.now),
      left,
      c.read_outer_box.ensures.count.1,
      c.read_inner_box.ensures.count.1,
      c.read_listed.ensures.count.1,
      c.read_listed-2.ensures.count.1,
      c.read_listed-3.ensures.count.1,
      c.read_additional.ensures.count.1,
      c.read_properties.ensures.count.1,
      c.read_plain_names.ensures.count.1,
    )

pub read_kind_names-returns-in-Err-from_joined-clause-left : goal.read_kind_names-returns-in-Err-from_joined-clause-left
read_kind_names-returns-in-Err-from_joined-clause-left t c =
    omega (
      arith,
      names_weight (members_of c.args.members.now),
      c.lent_entries.ensures.count.1,
      c.read_outer_box.ensures.count.1,
      c.read_inner_box.ensures.count.1,
      c.read_listed.ensures.count.1,
      c.read_listed-2.ensures.count.1,
      c.read_listed-3.ensures.count.1,
      c.read_additional.ensures.count.1,
      c.read_properties.ensures.count.1,
      c.read_plain_names.ensures.count.1,
    )

pub read_inner_box-read_boxed_schema_ref-requires : goal.read_inner_box-read_boxed_schema_ref-requires
read_inner_box-read_boxed_schema_ref-requires t c =
    (omega (arith, c.in-Some.ensures.within, c.requires), tt)

pub read_outer_box-read_boxed_ref-requires : goal.read_outer_box-read_boxed_ref-requires
read_outer_box-read_boxed_ref-requires t c =
    (omega (arith, c.in-Some.ensures.within, c.requires), tt)

pub read_listed-read_refs_in-requires : goal.read_listed-read_refs_in-requires
read_listed-read_refs_in-requires t c =
    (omega (arith, c.in-Some.ensures.within, c.requires), tt)

pub read_properties-read_properties_in-requires : goal.read_properties-read_properties_in-requires
read_properties-read_properties_in-requires t c =
    (omega (arith, c.in-Some.ensures.within, c.decreases), tt)

pub read_additional-read_additional_in-requires : goal.read_additional-read_additional_in-requires
read_additional-read_additional_in-requires t c =
    (omega (arith, c.in-Some.ensures.within, c.decreases), tt)

pub read_refs_in-returns-in-List-clause-reads : goal.read_refs_in-returns-in-List-clause-reads
read_refs_in-returns-in-List-clause-reads t c =
    rw c.in-List.is c.read_refs.ensures.reads

pub read_refs_in-returns-in-List-clause-count : goal.read_refs_in-returns-in-List-clause-count
read_refs_in-returns-in-List-clause-count t c =
    rw c.in-List.is ((omega (arith, c.read_refs.ensures.count.0), omega (arith, c.read_refs.ensures.count.1)))

pub read_refs_in-returns-in_default : goal.read_refs_in-returns-in_default
read_refs_in-returns-in_default t c =
    record {
      reads = wrong_here c.new.result words.List (list_of (ref_to a_schema)) (shown c.args.view.now) c.new.ensures.place
          c.new.ensures.cause (not_list (ref_to a_schema) c.args.view.now c.in_default.not-List);
      count = (omega arith, omega (arith, size-positive (shown c.args.view.now)));
    }

pub read_properties_in-returns-in_default : goal.read_properties_in-returns-in_default
read_properties_in-returns-in_default t c =
    record {
      reads = wrong_here c.new.result words.Object (map_of (ref_to a_schema)) (shown c.args.view.now) c.new.ensures.place
          c.new.ensures.cause (not_map (ref_to a_schema) c.args.view.now c.in_default.not-Object);
      count = (omega arith, omega (arith, size-positive (shown c.args.view.now)));
    }

pub read_additional_in-returns-in-Flag-clause-reads : goal.read_additional_in-returns-in-Flag-clause-reads
read_additional_in-returns-in-Flag-clause-reads t c =
    rw c.in-Flag.is (refl, sym (additional-any c.in-Flag.allowed))

pub read_additional_in-returns-in-Flag-clause-count : goal.read_additional_in-returns-in-Flag-clause-count
read_additional_in-returns-in-Flag-clause-count t c =
    (omega arith, omega (arith, size-positive (shown c.args.view.now)))

pub read_additional_in-returns-in-Object-clause-reads : goal.read_additional_in-returns-in-Object-clause-reads
read_additional_in-returns-in-Object-clause-reads t c =
    rw c.in-Object.is (c.in_additional.ensures (members_of c.in-Object.field-0.now)
    (rw c.in-Object.is at c.read_boxed_ref.ensures.reads))

pub read_additional_in-returns-in_default : goal.read_additional_in-returns-in_default
read_additional_in-returns-in_default t c =
    record {
      reads = wrong_here c.new.result words.FlagOrObject flag_or_schema (shown c.args.view.now) c.new.ensures.place
          c.new.ensures.cause (not_flag_or_object c.args.view.now c.in_default.not-Flag c.in_default.not-Object);
      count = (omega arith, omega (arith, size-positive (shown c.args.view.now)));
    }

pub read_refs-schema_ref_from_node-requires : goal.read_refs-schema_ref_from_node-requires
read_refs-schema_ref_from_node-requires t c =
    let next = next_item c.args.nodes.now c.loop-i.i c.index-nodes-i.result c.loop-i-test.true c.index-nodes-i.is in
    (omega (arith, next.within, c.decreases), tt)

pub read_refs-returns-in_err-push-in-Ok-schema_ref_from_node-clause-count : goal.read_refs-returns-in_err-push-in-Ok-schema_ref_from_node-clause-count
read_refs-returns-in_err-push-in-Ok-schema_ref_from_node-clause-count t c =
    let next = next_item c.args.nodes.now c.loop-i.i c.index-nodes-i.result c.loop-i-test.true c.index-nodes-i.is in
    (omega (arith, c.loop-i.invariant.rises), omega (arith, next.within, c.schema_ref_from_node.ensures.count, c.loop-i.invariant.counted))

pub read_refs-returns-in-Err-clause-count : goal.read_refs-returns-in-Err-clause-count
read_refs-returns-in-Err-clause-count t c =
    let next = next_item c.args.nodes.now c.loop-i.i c.index-nodes-i.result c.loop-i-test.true c.index-nodes-i.is in
    (omega (arith, c.loop-i.invariant.rises), omega (arith, next.within, c.schema_ref_from_node.ensures.count, c.loop-i.invariant.counted))

pub read_refs-returns-in-Err-clause-reads : goal.read_refs-returns-in-Err-clause-reads
read_refs-returns-in-Err-clause-reads t c =
    let k = ref_to a_schema in
    let ts = c.args.nodes.now in
    let i = c.loop-i.i in
    let u = c.index-nodes-i.result in
    fails_above (indexed i) c.at_index.result (list_of k) k (list (items_of ts)) u
    (item_leads k ts i u c.loop-i-test.true c.index-nodes-i.is)
    (c.in-Err.fault, c.at_index.ensures, c.in-Err.ensures.reads)

pub read_refs-loop-i-preserved : goal.read_refs-loop-i-preserved
read_refs-loop-i-preserved t c =
    let k = ref_to a_schema in
    let ts = c.args.nodes.now in
    let i = c.loop-i.i in
    let u = c.index-nodes-i.result in
    let x = c.in-Ok-schema_ref_from_node.value in
    let next = next_item ts i u c.loop-i-test.true c.index-nodes-i.is in
    let here = next_here ts i u c.loop-i-test.true c.index-nodes-i.is in
    let read = c.in-Ok-schema_ref_from_node.ensures.reads in
    record {
      holds = ap (every (conforms final_tables k)) here
          ∙ every-more (conforms final_tables k) (take i ts) u c.loop-i.invariant.holds read.0;
      same = ap (each (form final_tables k)) here ∙ each-more (form final_tables k) (take i ts) u
          ∙ (λ j. c.loop-i.invariant.same j ++ read.1 j ∷ [])
          ∙ sym (ap (each ref_form) c.in_ok-push-in-Ok-schema_ref_from_node.ensures.ok ∙ each-more ref_form c.loop-i.values.items
          x);
      rises = omega (arith, c.schema_ref_from_node.ensures.rises, c.loop-i.invariant.rises);
      counted = omega (arith, next.adds, c.schema_ref_from_node.ensures.count, c.loop-i.invariant.counted);
    }

pub read_refs-returns-clause-reads : goal.read_refs-returns-clause-reads
read_refs-returns-clause-reads t c =
    let ts = c.args.nodes.now in
    let k = ref_to a_schema in
    let whole = take_all c.loop-i.i ts (omega arith) in
    list_gives k ts (each ref_form c.loop-i.values.items)
    (sym (ap (every (conforms final_tables k)) whole) ∙ c.loop-i.invariant.holds)
    (sym (ap (each (form final_tables k)) whole) ∙ c.loop-i.invariant.same)
