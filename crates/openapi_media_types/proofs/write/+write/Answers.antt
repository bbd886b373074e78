use Rattle.std.proofs.Common.{◌∙◌, cond, codes, refl, sym, ap, subst, arith}
use Rattle.openapi_tables.specs.Prelude.{by, encoding, header, media_type, ref_to, same_text, content, final_tables}
use Rattle.openapi_tables.specs.Prelude.{schema_ref, tables_with, fields, forms_of, plain}
use Rattle.openapi_tables.proofs.SlotWriting.{none_written}
use Rattle.openapi_values.specs.Reference.{reference_form}
use Rattle.openapi_fields.specs.Returned.{WrittenAs}
use Rattle.openapi_fields.proofs.RecursiveWriting.{all_put, next_lost, next_put, unwritten}
use Rattle.openapi_fields.proofs.Losing.{none_mapped}
use Rattle.openapi_fields.proofs.FormSizes.{form_size, rows_size, value_smaller}
use Rattle.openapi_media_types.specs.ContentForms.{deciding_name, deciding_value, encoding_form, format_form}
use Rattle.openapi_media_types.specs.ContentForms.{header_form, media_type_form}
use Rattle.openapi_media_types.specs.Fields.{encoding_fields, header_fields, header_slots, media_type_fields}
use Rattle.openapi_media_types.specs.declared.header.Header.{out-Header}
use Rattle.openapi_media_types.proofs.Opened.{encoding_rows-out, format-content, format-schema, format_held}
use Rattle.openapi_media_types.proofs.Opened.{header_rows-out, media_type_rows-out}
use Rattle.openapi_media_types.proofs.write.+write.Goals as goal

pub write_content-put_written-requires : goal.write_content-put_written-requires
write_content-put_written-requires t c =
    unwritten media_type_form (by media_type) c.args.values.now c.loop-i.i c.loop-i.out c.entry_at.ensures c.loop-i.invariant
    c.len-i-end.ensures.distinct

pub write_content-returns-in-Err : goal.write_content-returns-in-Err
write_content-returns-in-Err t c =
    next_lost media_type_form (by media_type) c.args.values.now c.loop-i.i c.loop-i.out c.entry_at.ensures c.loop-i.invariant c.put_written.new.out
    c.write_media_type.result c.put_written.result c.write_media_type.ensures c.put_written.ensures c.in-Err.fault c.in-Err.is

pub write_content-loop-i-preserved : goal.write_content-loop-i-preserved
write_content-loop-i-preserved t c =
    next_put media_type_form (by media_type) c.args.values.now c.loop-i.i c.loop-i.out c.entry_at.ensures c.loop-i.invariant c.put_written.new.out
    c.write_media_type.result c.put_written.result c.write_media_type.ensures c.put_written.ensures c.in-Ok.is

pub write_content-returns : goal.write_content-returns
write_content-returns t c =
    all_put media_type_form (by media_type) c.args.values.now c.loop-i.i c.loop-i.out c.object.result (omega arith) c.loop-i.invariant
    c.object.ensures

pub write_encodings-put_written-requires : goal.write_encodings-put_written-requires
write_encodings-put_written-requires t c =
    unwritten encoding_form (by encoding) c.args.values.now c.loop-i.i c.loop-i.out c.entry_at.ensures c.loop-i.invariant
    c.len-i-end.ensures.distinct

pub write_encodings-returns-in-Err : goal.write_encodings-returns-in-Err
write_encodings-returns-in-Err t c =
    next_lost encoding_form (by encoding) c.args.values.now c.loop-i.i c.loop-i.out c.entry_at.ensures c.loop-i.invariant c.put_written.new.out
    c.write_encoding.result c.put_written.result c.write_encoding.ensures c.put_written.ensures c.in-Err.fault c.in-Err.is

pub write_encodings-loop-i-preserved : goal.write_encodings-loop-i-preserved
write_encodings-loop-i-preserved t c =
    next_put encoding_form (by encoding) c.args.values.now c.loop-i.i c.loop-i.out c.entry_at.ensures c.loop-i.invariant c.put_written.new.out
    c.write_encoding.result c.put_written.result c.write_encoding.ensures c.put_written.ensures c.in-Ok.is

pub write_encodings-returns : goal.write_encodings-returns
write_encodings-returns t c =
    let whole = all_put encoding_form (by encoding) c.args.values.now c.loop-i.i c.loop-i.out c.object.result (omega arith) c.loop-i.invariant
    c.object.ensures in (
      sym (none_mapped encoding_form c.is_empty.result c.args.values.now c.is_empty.ensures) ∙ c.if-is_empty.false,
      whole.0,
      whole.1,
    )

pub write_headers-put_written-requires : goal.write_headers-put_written-requires
write_headers-put_written-requires t c =
    unwritten (reference_form header_form) (ref_to (by header)) c.args.values.now c.loop-i.i c.loop-i.out c.entry_at.ensures c.loop-i.invariant
    c.len-i-end.ensures.distinct

pub write_headers-returns-in-Err : goal.write_headers-returns-in-Err
write_headers-returns-in-Err t c =
    next_lost (reference_form header_form) (ref_to (by header)) c.args.values.now c.loop-i.i c.loop-i.out c.entry_at.ensures c.loop-i.invariant c.put_written.new.out
    c.write_header_ref.result c.put_written.result c.write_header_ref.ensures c.put_written.ensures c.in-Err.fault c.in-Err.is

pub write_headers-loop-i-preserved : goal.write_headers-loop-i-preserved
write_headers-loop-i-preserved t c =
    next_put (reference_form header_form) (ref_to (by header)) c.args.values.now c.loop-i.i c.loop-i.out c.entry_at.ensures c.loop-i.invariant c.put_written.new.out
    c.write_header_ref.result c.put_written.result c.write_header_ref.ensures c.put_written.ensures c.in-Ok.is

pub write_headers-returns : goal.write_headers-returns
write_headers-returns t c =
    let whole = all_put (reference_form header_form) (ref_to (by header)) c.args.values.now c.loop-i.i c.loop-i.out c.object.result (omega arith) c.loop-i.invariant
    c.object.ensures in (
      sym (none_mapped (reference_form header_form) c.is_empty.result c.args.values.now c.is_empty.ensures) ∙ c.if-is_empty.false,
      whole.0,
      whole.1,
    )

pub write_header-header_members-requires : goal.write_header-header_members-requires
write_header-header_members-requires t c =
    (omega (arith, ap rows_size (header_rows-out c.args.header.now), c.decreases), tt)

pub write_header-returns : goal.write_header-returns
write_header-returns t c =
    let x = c.args.header.now in
    subst (λ fs. WrittenAs (by header) (fields plain (forms_of fs)) c.whole_object.result) (sym (header_rows-out x))
    (c.whole_object.ensures header (header_fields x) c.header_members.ensures)

pub write_media_type-media_type_members-requires : goal.write_media_type-media_type_members-requires
write_media_type-media_type_members-requires t c =
    (omega (arith, ap rows_size (media_type_rows-out c.args.media_type.now), c.decreases), tt)

pub write_media_type-returns : goal.write_media_type-returns
write_media_type-returns t c =
    let x = c.args.media_type.now in
    subst (λ fs. WrittenAs (by media_type) (fields plain (forms_of fs)) c.whole_object.result) (sym (media_type_rows-out x))
    (c.whole_object.ensures media_type (media_type_fields x) c.media_type_members.ensures)

pub write_encoding-encoding_members-requires : goal.write_encoding-encoding_members-requires
write_encoding-encoding_members-requires t c =
    (omega (arith, ap rows_size (encoding_rows-out c.args.encoding.now), c.decreases), tt)

pub write_encoding-returns : goal.write_encoding-returns
write_encoding-returns t c =
    let x = c.args.encoding.now in
    subst (λ fs. WrittenAs (by encoding) (fields plain (forms_of fs)) c.whole_object.result) (sym (encoding_rows-out x))
    (c.whole_object.ensures encoding (encoding_fields x) c.encoding_members.ensures)

pub header_members-write_rows-put_optional-requires-clause-before : goal.header_members-write_rows-put_optional-requires-clause-before
unfolding final_tables tables_with
header_members-write_rows-put_optional-requires-clause-before t c = none_written final_tables c.new-out.result c.new-out.ensures

pub media_type_members-write_rows-put_optional-requires-clause-before : goal.media_type_members-write_rows-put_optional-requires-clause-before
unfolding final_tables tables_with
media_type_members-write_rows-put_optional-requires-clause-before t c = none_written final_tables c.new-out.result c.new-out.ensures

pub encoding_members-put_nullable-requires-clause-before : goal.encoding_members-put_nullable-requires-clause-before
unfolding final_tables tables_with
encoding_members-put_nullable-requires-clause-before t c = none_written final_tables c.new-out.result c.new-out.ensures

pub header_members-put_decided-requires-clause-slot : goal.header_members-put_decided-requires-clause-slot
unfolding final_tables tables_with
header_members-put_decided-requires-clause-slot t c =
    let x = c.args.header.now in
    format_held (header_slots x) (out-Header x).format c.format_name.result.now c.write_format.result refl
    c.format_name.ensures c.write_format.ensures

pub write_format-returns-in-Schema : goal.write_format-returns-in-Schema
write_format-returns-in-Schema t c =
    subst (λ f. WrittenAs (cond (same_text (codes "schema") (deciding_name f)) schema_ref content) (deciding_value f)
    c.to_node.result) (sym (ap format_form c.in-Schema.is ∙ format-schema c.in-Schema.schema)) c.to_node.ensures.written

pub write_format-write_content-requires : goal.write_format-write_content-requires
write_format-write_content-requires t c =
    (omega (arith, ap form_size (ap format_form c.in-Content.is ∙ format-content c.in-Content.content), c.decreases), tt)

pub write_format-returns-in-Content : goal.write_format-returns-in-Content
write_format-returns-in-Content t c =
    subst (λ f. WrittenAs (cond (same_text (codes "schema") (deciding_name f)) schema_ref content) (deciding_value f)
    c.write_content.result) (sym (ap format_form c.in-Content.is ∙ format-content c.in-Content.content))
    c.write_content.ensures

pub write_content-write_media_type-requires : goal.write_content-write_media_type-requires
write_content-write_media_type-requires t c =
    let smaller = value_smaller media_type_form c.args.values.now c.loop-i.i c.entry_at.result.0.now
    c.entry_at.result.1.now c.entry_at.ensures in
    (omega (arith, smaller, c.decreases), tt)

pub write_encodings-write_encoding-requires : goal.write_encodings-write_encoding-requires
write_encodings-write_encoding-requires t c =
    let smaller = value_smaller encoding_form c.args.values.now c.loop-i.i c.entry_at.result.0.now
    c.entry_at.result.1.now c.entry_at.ensures in
    (omega (arith, smaller, c.decreases), tt)

pub write_encodings-returns-then-is_empty : goal.write_encodings-returns-then-is_empty
write_encodings-returns-then-is_empty t c =
    sym (none_mapped encoding_form c.is_empty.result c.args.values.now c.is_empty.ensures) ∙ c.if-is_empty.true

pub write_headers-write_header_ref-requires : goal.write_headers-write_header_ref-requires
write_headers-write_header_ref-requires t c =
    let smaller = value_smaller (reference_form header_form) c.args.values.now c.loop-i.i c.entry_at.result.0.now
    c.entry_at.result.1.now c.entry_at.ensures in
    (omega (arith, smaller, c.decreases), tt)

pub write_headers-returns-then-is_empty : goal.write_headers-returns-then-is_empty
write_headers-returns-then-is_empty t c =
    sym (none_mapped (reference_form header_form) c.is_empty.result c.args.values.now c.is_empty.ensures) ∙ c.if-is_empty.true
