use Rattle.openapi_tables.specs.Kind.{by, encoding, header, media_type, ref_to}
use Rattle.openapi_values.specs.Reference.{reference_form}
use Rattle.openapi_fields.proofs.RecursiveReading.{SoFar}
use Rattle.openapi_media_types.specs.ContentForms.{encoding_form, header_form, media_type_form}
use Rattle.openapi_fields.proofs.Measures.{members_left, view_left}
use Rattle.openapi_media_types.proofs.read.+read.Given as goal

-- the size of the node that is left to read; for the same node, a caller has a greater measure than what it calls
abbrev pub decreases-read_header_ref : goal.decreases-read_header_ref
decreases-read_header_ref l = view_left l.view.now 1

abbrev pub decreases-read_header : goal.decreases-read_header
decreases-read_header l = view_left l.view.now 0

abbrev pub decreases-header_of : goal.decreases-header_of
decreases-header_of l = members_left l.members.now 5

abbrev pub decreases-read_format : goal.decreases-read_format
decreases-read_format l = members_left l.members.now 4

abbrev pub decreases-read_content : goal.decreases-read_content
decreases-read_content l = view_left l.view.now 2

abbrev pub decreases-media_types_of : goal.decreases-media_types_of
decreases-media_types_of l = members_left l.members.now 2

abbrev pub decreases-read_media_type : goal.decreases-read_media_type
decreases-read_media_type l = view_left l.view.now 0

abbrev pub decreases-media_type_of : goal.decreases-media_type_of
decreases-media_type_of l = members_left l.members.now 5

abbrev pub decreases-read_encodings : goal.decreases-read_encodings
decreases-read_encodings l = members_left l.members.now 4

abbrev pub decreases-encodings_of : goal.decreases-encodings_of
decreases-encodings_of l = members_left l.members.now 2

abbrev pub decreases-read_encoding : goal.decreases-read_encoding
decreases-read_encoding l = view_left l.view.now 0

abbrev pub decreases-encoding_of : goal.decreases-encoding_of
decreases-encoding_of l = members_left l.members.now 5

abbrev pub decreases-read_headers : goal.decreases-read_headers
decreases-read_headers l = members_left l.members.now 4

abbrev pub decreases-headers_of : goal.decreases-headers_of
decreases-headers_of l = members_left l.members.now 2

abbrev pub invariant-media_types_of-loop-i : goal.invariant-media_types_of-loop-i
invariant-media_types_of-loop-i l = SoFar media_type_form (by media_type) l.members l.initial.steps l.i l.values l.steps

abbrev pub invariant-encodings_of-loop-i : goal.invariant-encodings_of-loop-i
invariant-encodings_of-loop-i l = SoFar encoding_form (by encoding) l.members l.initial.steps l.i l.values l.steps

abbrev pub invariant-headers_of-loop-i : goal.invariant-headers_of-loop-i
invariant-headers_of-loop-i l = SoFar (reference_form header_form) (ref_to (by header)) l.members l.initial.steps l.i l.values l.steps
