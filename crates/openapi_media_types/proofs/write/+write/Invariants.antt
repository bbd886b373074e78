use Rattle.openapi_tables.specs.Kind.{by, encoding, header, media_type, ref_to}
use Rattle.openapi_values.specs.Reference.{reference_form}
use Rattle.openapi_fields.proofs.RecursiveWriting.{WrittenSoFar}
use Rattle.openapi_fields.specs.Forms.{map_form}
use Rattle.openapi_media_types.specs.ContentForms.{encoding_form, format_form, header_form, media_type_form}
use Rattle.openapi_media_types.specs.Fields.{encoding_fields, header_fields, media_type_fields}
use Rattle.openapi_fields.proofs.Measures.{form_left, rows_left}
use Rattle.openapi_media_types.proofs.write.+write.Given as goal

-- the size of the form that is left to write; for the same form, a caller has a greater measure than what it calls
abbrev pub decreases-write_header_ref : goal.decreases-write_header_ref
decreases-write_header_ref l = form_left (reference_form header_form l.value.now) 0

abbrev pub decreases-write_header : goal.decreases-write_header
decreases-write_header l = form_left (header_form l.header.now) 0

abbrev pub decreases-header_members : goal.decreases-header_members
decreases-header_members l = rows_left (header_fields l.header.now) 4

abbrev pub decreases-write_format : goal.decreases-write_format
decreases-write_format l = form_left (format_form l.format.now) 3

abbrev pub decreases-write_content : goal.decreases-write_content
decreases-write_content l = form_left (map_form media_type_form l.values.now) 2

abbrev pub decreases-write_media_type : goal.decreases-write_media_type
decreases-write_media_type l = form_left (media_type_form l.media_type.now) 0

abbrev pub decreases-media_type_members : goal.decreases-media_type_members
decreases-media_type_members l = rows_left (media_type_fields l.media_type.now) 4

abbrev pub decreases-write_encodings : goal.decreases-write_encodings
decreases-write_encodings l = form_left (map_form encoding_form l.values.now) 3

abbrev pub decreases-write_encoding : goal.decreases-write_encoding
decreases-write_encoding l = form_left (encoding_form l.encoding.now) 0

abbrev pub decreases-encoding_members : goal.decreases-encoding_members
decreases-encoding_members l = rows_left (encoding_fields l.encoding.now) 4

abbrev pub decreases-write_headers : goal.decreases-write_headers
decreases-write_headers l = form_left (map_form (reference_form header_form) l.values.now) 3

abbrev pub invariant-write_content-loop-i : goal.invariant-write_content-loop-i
invariant-write_content-loop-i l = WrittenSoFar media_type_form (by media_type) l.values l.i l.out

abbrev pub invariant-write_encodings-loop-i : goal.invariant-write_encodings-loop-i
invariant-write_encodings-loop-i l = WrittenSoFar encoding_form (by encoding) l.values l.i l.out

abbrev pub invariant-write_headers-loop-i : goal.invariant-write_headers-loop-i
invariant-write_headers-loop-i l = WrittenSoFar (reference_form header_form) (ref_to (by header)) l.values l.i l.out
