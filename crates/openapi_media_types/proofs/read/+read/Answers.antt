use Rattle.std.proofs.Common.{◌∙◌, [], ◌∷◌, codes, refl, sym, ap, subst, arith, string_bytes}
use Rattle.std.proofs.lemmas.Result.{err_from_is_err_and}
use Rattle.openapi_node.specs.Tree.{members_of, size_of}
use Rattle.openapi_node.specs.View.{shown}
use Rattle.openapi_node.proofs.TreeLemmas.{next_member}
use Rattle.openapi_tables.specs.Kind.{by, encoding, header, media_type, ref_to, required}
use Rattle.openapi_tables.specs.Tables.{content, final_tables, schema_ref, tables_with}
use Rattle.openapi_tables.proofs.ByRowLaws.{rows_weight-le}
use Rattle.openapi_values.specs.Reference.{reference_form}
use Rattle.openapi_fields.specs.Forms.{map_form}
use Rattle.openapi_fields.specs.Returned.{ReadAs}
use Rattle.openapi_fields.proofs.Below.{memory_fails}
use Rattle.openapi_fields.proofs.Referring.{reads_reference}
use Rattle.openapi_fields.proofs.Deciding.{decided_weight, first_read, second_read}
use Rattle.openapi_schema.specs.SchemaForms.{schema_form}
use Rattle.openapi_fields.proofs.RecursiveReading.{all_so_far, map_at, map_read, next_refused, next_so_far, no_map}
use Rattle.openapi_fields.proofs.RecursiveReading.{no_map_at, none_so_far, object_read}
use Rattle.openapi_fields.proofs.EntryReading.{name_unread}
use Rattle.openapi_media_types.specs.ContentForms.{encoding_form, encoding_rows, header_form, header_rows}
use Rattle.openapi_media_types.specs.ContentForms.{media_type_form, media_type_rows}
use Rattle.openapi_media_types.specs.Fields.{encoding_fields, format_row, header_fields, media_type_fields}
use Rattle.openapi_media_types.proofs.Opened.{encoding_same, encoding_read, format-content, format-schema, header_same}
use Rattle.openapi_media_types.proofs.Opened.{header_read, media_type_same, media_type_read}
use Rattle.openapi_media_types.proofs.read.+read.Goals as goal

pub read_header-returns-in-Ok : goal.read_header-returns-in-Ok
read_header-returns-in-Ok t c =
    object_read header_fields header_rows header_same header c.header_of.result (members_of c.in-Ok.members.now) (shown c.args.view.now) _ _
    c.in-Ok.ensures (record { reads = c.header_of.ensures.reads; count = (c.header_of.ensures.rises, c.header_of.ensures.count) })

pub read_media_type-returns-in-Ok : goal.read_media_type-returns-in-Ok
read_media_type-returns-in-Ok t c =
    object_read media_type_fields media_type_rows media_type_same media_type c.media_type_of.result (members_of c.in-Ok.members.now) (shown c.args.view.now) _ _
    c.in-Ok.ensures c.media_type_of.ensures

pub read_encoding-returns-in-Ok : goal.read_encoding-returns-in-Ok
read_encoding-returns-in-Ok t c =
    object_read encoding_fields encoding_rows encoding_same encoding c.encoding_of.result (members_of c.in-Ok.members.now) (shown c.args.view.now) _ _
    c.in-Ok.ensures c.encoding_of.ensures

pub read_content-returns-in-Ok : goal.read_content-returns-in-Ok
read_content-returns-in-Ok t c =
    map_read (map_form media_type_form) content c.media_types_of.result (members_of c.in-Ok.members.now)
    (shown c.args.view.now) _ _ c.in-Ok.ensures c.media_types_of.ensures

pub media_types_of-loop-i-init : goal.media_types_of-loop-i-init
media_types_of-loop-i-init t c = none_so_far media_type_form (by media_type) c.args.members.now c.args.steps.now c.new-values.result c.new-values.ensures

pub media_types_of-returns-in-Err : goal.media_types_of-returns-in-Err
media_types_of-returns-in-Err t c =
    next_refused media_type_form (by media_type) c.args.members.now c.args.steps.now c.loop-i.i c.put_read.new.values c.read_media_type.result c.put_read.result
    c.entry_at.ensures c.loop-i.invariant c.open-entry.ensures c.read_media_type.ensures.reads (c.read_media_type.ensures.count.0, omega (arith, c.read_media_type.ensures.count.1)) c.put_read.ensures c.in-Err.fault c.in-Err.is

pub media_types_of-loop-i-preserved : goal.media_types_of-loop-i-preserved
media_types_of-loop-i-preserved t c =
    next_so_far media_type_form (by media_type) c.args.members.now c.args.steps.now c.loop-i.i c.put_read.new.values c.read_media_type.result c.put_read.result
    c.entry_at.ensures c.loop-i.invariant c.open-entry.ensures c.read_media_type.ensures.reads (c.read_media_type.ensures.count.0, omega (arith, c.read_media_type.ensures.count.1)) c.put_read.ensures c.in-Ok.is

pub media_types_of-returns : goal.media_types_of-returns
media_types_of-returns t c =
    all_so_far media_type_form (by media_type) c.args.members.now c.args.steps.now c.loop-i.i c.loop-i.values c.loop-i.steps (omega arith)
    c.loop-i.invariant

pub encodings_of-loop-i-init : goal.encodings_of-loop-i-init
encodings_of-loop-i-init t c = none_so_far encoding_form (by encoding) c.args.members.now c.args.steps.now c.new-values.result c.new-values.ensures

pub encodings_of-returns-in-Err : goal.encodings_of-returns-in-Err
encodings_of-returns-in-Err t c =
    next_refused encoding_form (by encoding) c.args.members.now c.args.steps.now c.loop-i.i c.put_read.new.values c.read_encoding.result c.put_read.result
    c.entry_at.ensures c.loop-i.invariant c.open-entry.ensures c.read_encoding.ensures.reads (c.read_encoding.ensures.count.0, omega (arith, c.read_encoding.ensures.count.1)) c.put_read.ensures c.in-Err.fault c.in-Err.is

pub encodings_of-loop-i-preserved : goal.encodings_of-loop-i-preserved
encodings_of-loop-i-preserved t c =
    next_so_far encoding_form (by encoding) c.args.members.now c.args.steps.now c.loop-i.i c.put_read.new.values c.read_encoding.result c.put_read.result
    c.entry_at.ensures c.loop-i.invariant c.open-entry.ensures c.read_encoding.ensures.reads (c.read_encoding.ensures.count.0, omega (arith, c.read_encoding.ensures.count.1)) c.put_read.ensures c.in-Ok.is

pub encodings_of-returns : goal.encodings_of-returns
encodings_of-returns t c =
    all_so_far encoding_form (by encoding) c.args.members.now c.args.steps.now c.loop-i.i c.loop-i.values c.loop-i.steps (omega arith)
    c.loop-i.invariant

pub headers_of-loop-i-init : goal.headers_of-loop-i-init
headers_of-loop-i-init t c = none_so_far (reference_form header_form) (ref_to (by header)) c.args.members.now c.args.steps.now c.new-values.result c.new-values.ensures

pub headers_of-returns-in-Err : goal.headers_of-returns-in-Err
headers_of-returns-in-Err t c =
    next_refused (reference_form header_form) (ref_to (by header)) c.args.members.now c.args.steps.now c.loop-i.i c.put_read.new.values c.read_header_ref.result c.put_read.result
    c.entry_at.ensures c.loop-i.invariant c.open-entry.ensures c.read_header_ref.ensures.reads c.read_header_ref.ensures.count c.put_read.ensures c.in-Err.fault c.in-Err.is

pub headers_of-loop-i-preserved : goal.headers_of-loop-i-preserved
headers_of-loop-i-preserved t c =
    next_so_far (reference_form header_form) (ref_to (by header)) c.args.members.now c.args.steps.now c.loop-i.i c.put_read.new.values c.read_header_ref.result c.put_read.result
    c.entry_at.ensures c.loop-i.invariant c.open-entry.ensures c.read_header_ref.ensures.reads c.read_header_ref.ensures.count c.put_read.ensures c.in-Ok.is

pub headers_of-returns : goal.headers_of-returns
headers_of-returns t c =
    all_so_far (reference_form header_form) (ref_to (by header)) c.args.members.now c.args.steps.now c.loop-i.i c.loop-i.values c.loop-i.steps (omega arith)
    c.loop-i.invariant

pub read_header-header_of-requires : goal.read_header-header_of-requires
read_header-header_of-requires t c = (omega (arith, ap size_of c.in-Ok.ensures, c.decreases), tt)

pub read_header-returns-in-Err-clause-reads : goal.read_header-returns-in-Err-clause-reads
read_header-returns-in-Err-clause-reads t c = c.in-Err.ensures (by header) refl

pub read_media_type-media_type_of-requires : goal.read_media_type-media_type_of-requires
read_media_type-media_type_of-requires t c = (omega (arith, ap size_of c.in-Ok.ensures, c.decreases), tt)

pub read_media_type-returns-in-Err-clause-reads : goal.read_media_type-returns-in-Err-clause-reads
read_media_type-returns-in-Err-clause-reads t c = c.in-Err.ensures (by media_type) refl

pub read_encoding-encoding_of-requires : goal.read_encoding-encoding_of-requires
read_encoding-encoding_of-requires t c = (omega (arith, ap size_of c.in-Ok.ensures, c.decreases), tt)

pub read_encoding-returns-in-Err-clause-reads : goal.read_encoding-returns-in-Err-clause-reads
read_encoding-returns-in-Err-clause-reads t c = c.in-Err.ensures (by encoding) refl

pub read_content-media_types_of-requires : goal.read_content-media_types_of-requires
read_content-media_types_of-requires t c = (omega (arith, ap size_of c.in-Ok.ensures, c.decreases), tt)

pub read_content-returns-in-Err-clause-reads : goal.read_content-returns-in-Err-clause-reads
read_content-returns-in-Err-clause-reads t c = c.in-Err.ensures content refl

pub media_types_of-read_media_type-requires : goal.media_types_of-read_media_type-requires
media_types_of-read_media_type-requires t c =
    let next = next_member c.args.members.now c.loop-i.i (c.entry_at.result.0.now, c.entry_at.result.1.now)
    c.entry_at.ensures in
    (omega (arith, next.within, ap size_of c.open-entry.ensures.shown, c.decreases), tt)

pub media_types_of-put_read-requires : goal.media_types_of-put_read-requires
media_types_of-put_read-requires t c =
    name_unread media_type_form (by media_type) c.args.members.now c.loop-i.i c.entry_at.result.0.now c.entry_at.result.1.now
    c.entry_at.ensures c.loop-i.values c.len-i-end.ensures.distinct c.loop-i.invariant.read

pub encodings_of-read_encoding-requires : goal.encodings_of-read_encoding-requires
encodings_of-read_encoding-requires t c =
    let next = next_member c.args.members.now c.loop-i.i (c.entry_at.result.0.now, c.entry_at.result.1.now)
    c.entry_at.ensures in
    (omega (arith, next.within, ap size_of c.open-entry.ensures.shown, c.decreases), tt)

pub encodings_of-put_read-requires : goal.encodings_of-put_read-requires
encodings_of-put_read-requires t c =
    name_unread encoding_form (by encoding) c.args.members.now c.loop-i.i c.entry_at.result.0.now c.entry_at.result.1.now
    c.entry_at.ensures c.loop-i.values c.len-i-end.ensures.distinct c.loop-i.invariant.read

pub headers_of-read_header_ref-requires : goal.headers_of-read_header_ref-requires
headers_of-read_header_ref-requires t c =
    let next = next_member c.args.members.now c.loop-i.i (c.entry_at.result.0.now, c.entry_at.result.1.now)
    c.entry_at.ensures in
    (omega (arith, next.within, ap size_of c.open-entry.ensures.shown, c.decreases), tt)

pub headers_of-put_read-requires : goal.headers_of-put_read-requires
headers_of-put_read-requires t c =
    name_unread (reference_form header_form) (ref_to (by header)) c.args.members.now c.loop-i.i c.entry_at.result.0.now c.entry_at.result.1.now
    c.entry_at.ensures c.loop-i.values c.len-i-end.ensures.distinct c.loop-i.invariant.read

pub read_format-read_content-requires : goal.read_format-read_content-requires
read_format-read_content-requires t c =
    let u = c.in-Ok-Second.node.now in
    let ms = c.args.members.now in
    let w = decided_weight (codes "schema") schema_ref (codes "content") content (codes "content") u ms
    (rw c.in-Ok-Second.field-0-is at c.in-Ok-Second.ensures).0 in
    (omega (arith, ap size_of c.open-entries.ensures.shown, w, rows_weight-le (format_row ∷ []) (members_of ms) refl, c.decreases), tt)

pub read_format-returns-in-Ok-clause-reads : goal.read_format-returns-in-Ok-clause-reads
read_format-returns-in-Ok-clause-reads t c = λ i at.
    let g = rw c.in-Ok.is at (first_read (by i) (codes "schema") schema_ref (codes "content") content c.args.members.now at
    c.in-Ok-First.node.now (rw c.in-Ok-First.field-0-is at c.in-Ok-First.ensures) (reference_form schema_form)
    c.from_node.result c.at_name.result c.at_name.ensures c.from_node.ensures.reads) in
    (g.0, g.1 ∙ sym (format-schema c.in-Ok.schema))

pub read_format-returns-in-Err-at_name-clause-reads : goal.read_format-returns-in-Err-at_name-clause-reads
read_format-returns-in-Err-at_name-clause-reads t c = λ i at.
    rw c.in-Err-at_name.is at (first_read (by i) (codes "schema") schema_ref (codes "content") content c.args.members.now at
    c.in-Ok-First.node.now (rw c.in-Ok-First.field-0-is at c.in-Ok-First.ensures) (reference_form schema_form)
    c.from_node.result c.at_name.result c.at_name.ensures c.from_node.ensures.reads)

pub read_format-returns-in-Ok-at_name-clause-reads : goal.read_format-returns-in-Ok-at_name-clause-reads
read_format-returns-in-Ok-at_name-clause-reads t c = λ i at.
    let found = rw c.in-Ok-Second.field-0-is at c.in-Ok-Second.ensures in
    let read = subst (λ t. ReadAs (map_form media_type_form) c.read_content.result content t)
    c.open-entries.ensures.shown c.read_content.ensures.reads in
    let g = rw c.in-Ok-at_name.is at (second_read (by i) (codes "schema") schema_ref (codes "content") content
    c.args.members.now at c.in-Ok-Second.node.now found.0 found.1 (map_form media_type_form) c.read_content.result
    c.at_name-in-Ok-Second.result c.at_name-in-Ok-Second.ensures read) in
    (g.0, g.1 ∙ sym (format-content c.in-Ok-at_name.content))

pub read_format-returns-in-Err-at_name-2-clause-reads : goal.read_format-returns-in-Err-at_name-2-clause-reads
read_format-returns-in-Err-at_name-2-clause-reads t c = λ i at.
    let found = rw c.in-Ok-Second.field-0-is at c.in-Ok-Second.ensures in
    let read = subst (λ t. ReadAs (map_form media_type_form) c.read_content.result content t)
    c.open-entries.ensures.shown c.read_content.ensures.reads in
    rw c.in-Err-at_name-2.is at (second_read (by i) (codes "schema") schema_ref (codes "content") content
    c.args.members.now at c.in-Ok-Second.node.now found.0 found.1 (map_form media_type_form) c.read_content.result
    c.at_name-in-Ok-Second.result c.at_name-in-Ok-Second.ensures read)

pub read_format-returns-in-Err-clause-reads : goal.read_format-returns-in-Err-clause-reads
read_format-returns-in-Err-clause-reads t c = λ i at. c.in-Err.ensures i schema_ref content at

pub read_format-returns-in-Ok-clause-count : goal.read_format-returns-in-Ok-clause-count
read_format-returns-in-Ok-clause-count t c = (
  omega (arith, c.from_node.ensures.rises),
  omega (
    arith,
    c.from_node.ensures.count,
    decided_weight (codes "schema") schema_ref (codes "content") content (codes "schema") c.in-Ok-First.node.now
        c.args.members.now (rw c.in-Ok-First.field-0-is at c.in-Ok-First.ensures),
  ),
)

pub read_format-returns-in-Err-at_name-clause-count : goal.read_format-returns-in-Err-at_name-clause-count
read_format-returns-in-Err-at_name-clause-count t c = (
  omega (arith, c.from_node.ensures.rises),
  omega (
    arith,
    c.from_node.ensures.count,
    decided_weight (codes "schema") schema_ref (codes "content") content (codes "schema") c.in-Ok-First.node.now
        c.args.members.now (rw c.in-Ok-First.field-0-is at c.in-Ok-First.ensures),
  ),
)

pub read_format-returns-in-Ok-at_name-clause-count : goal.read_format-returns-in-Ok-at_name-clause-count
read_format-returns-in-Ok-at_name-clause-count t c = (
  omega (arith, c.read_content.ensures.count.0, c.open-entries.ensures.counted),
  omega (
    arith,
    ap size_of c.open-entries.ensures.shown,
    c.open-entries.ensures.counted,
    c.read_content.ensures.count.1,
    decided_weight (codes "schema") schema_ref (codes "content") content (codes "content") c.in-Ok-Second.node.now
        c.args.members.now (rw c.in-Ok-Second.field-0-is at c.in-Ok-Second.ensures).0,
  ),
)

pub read_format-returns-in-Err-at_name-2-clause-count : goal.read_format-returns-in-Err-at_name-2-clause-count
read_format-returns-in-Err-at_name-2-clause-count t c = (
  omega (arith, c.read_content.ensures.count.0, c.open-entries.ensures.counted),
  omega (
    arith,
    ap size_of c.open-entries.ensures.shown,
    c.open-entries.ensures.counted,
    c.read_content.ensures.count.1,
    decided_weight (codes "schema") schema_ref (codes "content") content (codes "content") c.in-Ok-Second.node.now
        c.args.members.now (rw c.in-Ok-Second.field-0-is at c.in-Ok-Second.ensures).0,
  ),
)

pub header_of-returns-in_err-format-clause-reads : goal.header_of-returns-in_err-format-clause-reads
unfolding final_tables tables_with
header_of-returns-in_err-format-clause-reads t c =
    let p = err_from_is_err_and c.from_residual-in_err-format.result c.from_residual-in_err-format.ensures.1 in
    rw (p.1, p.2) (c.in_err-format.ensures.reads header refl)

pub header_of-returns-clause-reads : goal.header_of-returns-clause-reads
unfolding final_tables tables_with
header_of-returns-clause-reads t c =
    header_read (record {
      description = c.in_ok-description.description;
      style = c.in_ok-style.style;
      required = c.in_ok-required.required;
      deprecated = c.in_ok-deprecated.deprecated;
      format = c.in_ok-format.format;
      example = c.in_ok-example.example;
      examples = c.in_ok-examples.examples;
      extensions = c.in_ok-extensions.extensions;
    }) (members_of c.args.members.now) (
      c.in_ok-description.ensures.reads,
      (
        c.in_ok-style.ensures.reads,
        (
          c.in_ok-required.ensures.reads,
          (
            c.in_ok-deprecated.ensures.reads,
            (
              c.in_ok-format.ensures.reads header refl,
              (c.in_ok-example.ensures.reads, (c.in_ok-examples.ensures.reads, (c.in_ok-extensions.ensures.reads, tt))),
            ),
          ),
        ),
      ),
    )

pub media_type_of-returns-clause-reads : goal.media_type_of-returns-clause-reads
unfolding final_tables tables_with
media_type_of-returns-clause-reads t c =
    media_type_read (record {
      schema = c.in_ok-schema.schema;
      example = c.in_ok-example.example;
      examples = c.in_ok-examples.examples;
      encoding = c.in_ok-encoding.encoding;
      extensions = c.in_ok-extensions.extensions;
    }) (members_of c.args.members.now) (
      c.in_ok-schema.ensures.reads,
      (
        c.in_ok-example.ensures.reads,
        (
          c.in_ok-examples.ensures.reads,
          (c.in_ok-encoding.ensures.reads, (c.in_ok-extensions.ensures.reads, tt)),
        ),
      ),
    )

pub encoding_of-returns-clause-reads : goal.encoding_of-returns-clause-reads
unfolding final_tables tables_with
encoding_of-returns-clause-reads t c =
    encoding_read (record {
      content_type = c.in_ok-content_type.content_type;
      headers = c.in_ok-headers.headers;
      style = c.in_ok-style.style;
      explode = c.in_ok-explode.explode;
      allow_reserved = c.in_ok-allow_reserved.allow_reserved;
      extensions = c.in_ok-extensions.extensions;
    }) (members_of c.args.members.now) (
      c.in_ok-content_type.ensures.reads,
      (
        c.in_ok-headers.ensures.reads,
        (
          c.in_ok-style.ensures.reads,
          (
            c.in_ok-explode.ensures.reads,
            (c.in_ok-allow_reserved.ensures.reads, (c.in_ok-extensions.ensures.reads, tt)),
          ),
        ),
      ),
    )

pub read_header_ref-returns-in-Ok-Some-clause-reads : goal.read_header_ref-returns-in-Ok-Some-clause-reads
read_header_ref-returns-in-Ok-Some-clause-reads t c =
    reads_reference (by header) header_form (shown c.args.view.now) (string_bytes c.in-Ok-Some.reference)
    (sym (rw c.in-Ok-Some.field-0-is at c.in-Ok-Some.ensures.reads))

pub read_header_ref-returns-in-Ok-None-clause-reads : goal.read_header_ref-returns-in-Ok-None-clause-reads
read_header_ref-returns-in-Ok-None-clause-reads t c =
    c.as_item.ensures header_form (by header) (shown c.args.view.now) (sym (rw c.in-Ok-None.field-0-is at c.in-Ok-None.ensures.reads))
    c.read_header.ensures.reads

pub read_header_ref-returns-in-Err-clause-reads : goal.read_header_ref-returns-in-Err-clause-reads
read_header_ref-returns-in-Err-clause-reads t c = memory_fails c.in-Err.fault (ref_to (by header)) (shown c.args.view.now) c.in-Err.ensures.err

pub read_encodings-encodings_of-requires : goal.read_encodings-encodings_of-requires
read_encodings-encodings_of-requires t c =
    let there = rw c.in-Ok-Some.field-0-is at c.in-Ok-Some.ensures in
    (omega (arith, there.within, c.decreases), tt)

pub read_encodings-returns-in-Ok-None : goal.read_encodings-returns-in-Ok-None
unfolding final_tables tables_with
read_encodings-returns-in-Ok-None t c =
    no_map encoding_form (by media_type) (codes "encoding") (by encoding) (members_of c.args.members.now) refl c.new.result _ _ c.new.ensures
    (rw c.in-Ok-None.field-0-is at c.in-Ok-None.ensures)

pub read_encodings-returns-in-Ok-Some : goal.read_encodings-returns-in-Ok-Some
unfolding final_tables tables_with
read_encodings-returns-in-Ok-Some t c =
    map_at encoding_form (by media_type) (codes "encoding") (by encoding) (members_of c.args.members.now) refl c.encodings_of.result c.at_name.result
    (rw c.in-Ok-Some.field-0-is at c.in-Ok-Some.ensures) c.at_name.ensures c.encodings_of.ensures

pub read_encodings-returns-in-Err : goal.read_encodings-returns-in-Err
unfolding final_tables tables_with
read_encodings-returns-in-Err t c =
    no_map_at encoding_form (by media_type) (codes "encoding") (by encoding) (members_of c.args.members.now) refl c.in-Err.fault _ _ c.in-Err.ensures

pub read_headers-headers_of-requires : goal.read_headers-headers_of-requires
read_headers-headers_of-requires t c =
    let there = rw c.in-Ok-Some.field-0-is at c.in-Ok-Some.ensures in
    (omega (arith, there.within, c.decreases), tt)

pub read_headers-returns-in-Ok-None : goal.read_headers-returns-in-Ok-None
unfolding final_tables tables_with
read_headers-returns-in-Ok-None t c =
    no_map (reference_form header_form) (by encoding) (codes "headers") (ref_to (by header)) (members_of c.args.members.now) refl c.new.result _ _ c.new.ensures
    (rw c.in-Ok-None.field-0-is at c.in-Ok-None.ensures)

pub read_headers-returns-in-Ok-Some : goal.read_headers-returns-in-Ok-Some
unfolding final_tables tables_with
read_headers-returns-in-Ok-Some t c =
    map_at (reference_form header_form) (by encoding) (codes "headers") (ref_to (by header)) (members_of c.args.members.now) refl c.headers_of.result c.at_name.result
    (rw c.in-Ok-Some.field-0-is at c.in-Ok-Some.ensures) c.at_name.ensures c.headers_of.ensures

pub read_headers-returns-in-Err : goal.read_headers-returns-in-Err
unfolding final_tables tables_with
read_headers-returns-in-Err t c =
    no_map_at (reference_form header_form) (by encoding) (codes "headers") (ref_to (by header)) (members_of c.args.members.now) refl c.in-Err.fault _ _ c.in-Err.ensures
