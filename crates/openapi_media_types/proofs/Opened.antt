-- The forms of headers and contents, by the forms of their fields.
use Rattle.std.proofs.Common.{◌≡◌, ℕ, true, cond, Some, List, Result, Ok, Err, [], ◌∷◌, refl, sym, ap, ◌∙◌, subst}
use Rattle.std.proofs.Common.{codes, rules, string_bytes}
use Rattle.openapi_map.specs.Entries.{Entries}
use Rattle.openapi_node.specs.Tree.{Tree, Members, object}
use Rattle.openapi_node.specs.declared.fault.Fault.{Fault}
use Rattle.openapi_node.specs.declared.node.Node.{Node}
use Rattle.openapi_tables.specs.Prelude.{Form, Pair, an_item, deciding, leaf, name, named, named_of, reference, by}
use Rattle.openapi_tables.specs.Prelude.{encoding, header, media_type, schema_or_content, same_text, content}
use Rattle.openapi_tables.specs.Prelude.{final_tables, schema_ref, tables_with, AreRows, is_named, Slot, pairs_of}
use Rattle.openapi_tables.specs.Prelude.{slot_where}
use Rattle.openapi_fields.specs.Forms.{text_form, flag_form, optional_form, map_form, extensions_form, is_either}
use Rattle.openapi_fields.specs.Forms.{record_form}
use Rattle.openapi_fields.specs.Returned.{ReadAs, RowReadAs, RowsReadAs, WrittenAs}
use Rattle.openapi_fields.specs.Writing.{HoldsDecided}
use Rattle.openapi_fields.proofs.EntryReading.{table_read}
use Rattle.openapi_values.specs.Reference.{reference_form}
use Rattle.openapi_values.specs.Words.{header_style_word, query_style_word, word_form}
use Rattle.openapi_values.specs.declared.reference.ReferenceOr.{ReferenceOr}
use Rattle.openapi_values.specs.declared.reference.ReferenceOr.TheVariants as r
use Rattle.openapi_schema.specs.SchemaForms.{schema_form}
use Rattle.openapi_schema.specs.declared.schema.Schema.{Schema}
use Rattle.openapi_media_types.specs.ContentForms.{deciding_name, deciding_value, encoding_form, encoding_rows}
use Rattle.openapi_media_types.specs.ContentForms.{encoding_step, example_ref_form, format_form, format_step}
use Rattle.openapi_media_types.specs.ContentForms.{header_form, header_rows, header_step, media_type_form}
use Rattle.openapi_media_types.specs.ContentForms.{media_type_rows, media_type_step, of_rows}
use Rattle.openapi_media_types.specs.Fields.{encoding_fields, format_fields, format_row, header_fields}
use Rattle.openapi_media_types.specs.Fields.{media_type_fields}
use Rattle.openapi_media_types.specs.declared.encoding.Encoding.{Encoding, out-Encoding, roll-Encoding}
use Rattle.openapi_media_types.specs.declared.header.Header.{Header, out-Header, roll-Header}
use Rattle.openapi_media_types.specs.declared.media_type.MediaType.{MediaType, out-MediaType, roll-MediaType}
use Rattle.openapi_media_types.specs.declared.format.ParameterSchemaOrContent.{the_lemmas}
use Rattle.openapi_media_types.specs.declared.format.ParameterSchemaOrContent.TheVariants as format
use Rattle.openapi_media_types.specs.declared.format.ParameterSchemaOrContent.TheViews.{out-ParameterSchemaOrContent}
use Rattle.openapi_media_types.specs.declared.format.ParameterSchemaOrContent.TheViews.{roll-ParameterSchemaOrContent}
use Rattle.openapi_media_types.specs.declared.format.ParameterSchemaOrContent.{ParameterSchemaOrContent}
use Rattle.openapi_media_types.specs.declared.format.ParameterSchemaOrContent.TheBlock.{the_data, the_data-1}
use Rattle.openapi_media_types.specs.declared.format.ParameterSchemaOrContent.TheBlock.{the_data-2, the_data-3}
use Rattle.openapi_media_types.specs.declared.format.ParameterSchemaOrContent.TheFolds.{fold-roll-ParameterSchemaOrContent}
use Rattle.openapi_media_types.specs.declared.format.ParameterSchemaOrContent.TheFolds.{fold-roll-Encoding}
use Rattle.openapi_media_types.specs.declared.format.ParameterSchemaOrContent.TheFolds.{fold-roll-Header}
use Rattle.openapi_media_types.specs.declared.format.ParameterSchemaOrContent.TheFolds.{fold-roll-MediaType}
use Rattle.openapi_media_types.specs.declared.format.ParameterSchemaOrContent.TheFolds.{fold_out-Encoding}
use Rattle.openapi_media_types.specs.declared.format.ParameterSchemaOrContent.TheFolds.{fold_out-ParameterSchemaOrContent}
use Rattle.openapi_media_types.specs.declared.format.ParameterSchemaOrContent.TheFolds.{fold_out-Header}
use Rattle.openapi_media_types.specs.declared.format.ParameterSchemaOrContent.TheFolds.{fold_out-MediaType}
use Rattle.openapi_media_types.specs.declared.format.ParameterSchemaOrContent.TheFolds.{map-ParameterSchemaOrContent}
use Rattle.openapi_media_types.specs.declared.format.ParameterSchemaOrContent.TheFolds.{map-Encoding, map-Header}
use Rattle.openapi_media_types.specs.declared.format.ParameterSchemaOrContent.TheFolds.{map-MediaType}
use Rattle.openapi_media_types.specs.declared.format.ParameterSchemaOrContent.TheOpen.{ParameterSchemaOrContent-F}
use Rattle.openapi_media_types.specs.declared.format.ParameterSchemaOrContent.TheOpen.{Encoding-F, Header-F}
use Rattle.openapi_media_types.specs.declared.format.ParameterSchemaOrContent.TheOpen.{MediaType-F}
use denote.Hole.Carrier.{roll}

-- one level of each type, and the same with the values inside replaced with their forms
abbrev Format : Type 0
Format = ParameterSchemaOrContent-F the_data the_data-1 the_data-2 the_data-3

abbrev pub AnEncoding : Type 0
AnEncoding = Encoding-F the_data the_data-1 the_data-2 the_data-3

abbrev pub AHeader : Type 0
AHeader = Header-F the_data the_data-1 the_data-2 the_data-3

abbrev pub AMediaType : Type 0
AMediaType = MediaType-F the_data the_data-1 the_data-2 the_data-3

abbrev format_level : Format → ParameterSchemaOrContent-F Form (List Form) (List Form) (List Form)
format_level d = map-ParameterSchemaOrContent the_data the_data-1 the_data-2 the_data-3 Form (List Form) (List Form)
    (List Form) format_form encoding_rows header_rows media_type_rows d

abbrev encoding_level : AnEncoding → Encoding-F Form (List Form) (List Form) (List Form)
encoding_level d = map-Encoding the_data the_data-1 the_data-2 the_data-3 Form (List Form) (List Form) (List Form)
    format_form encoding_rows header_rows media_type_rows d

abbrev header_level : AHeader → Header-F Form (List Form) (List Form) (List Form)
header_level d = map-Header the_data the_data-1 the_data-2 the_data-3 Form (List Form) (List Form) (List Form)
    format_form encoding_rows header_rows media_type_rows d

abbrev media_type_level : AMediaType → MediaType-F Form (List Form) (List Form) (List Form)
media_type_level d = map-MediaType the_data the_data-1 the_data-2 the_data-3 Form (List Form) (List Form) (List Form)
    format_form encoding_rows header_rows media_type_rows d

-- a schema: `schema` decides, with its form
pub format-schema : (x : ReferenceOr Schema) → format_form (format.Schema x)
    ≡ deciding (codes "schema") (reference_form schema_form x)
format-schema x = search (rules, the_lemmas)

abbrev content_pairs : ParameterSchemaOrContent-F Form (List Form) (List Form) (List Form) → List (Pair Form)
content_pairs (ParameterSchemaOrContent-F.Schema x) = []
content_pairs (ParameterSchemaOrContent-F.Content m) = pairs_of of_rows m

content_level : (es : Entries MediaType) → content_pairs (format_level (ParameterSchemaOrContent-F.Content es))
    ≡ pairs_of media_type_form es
content_level [] = refl
content_level ((n, x) ∷ es) = ap (λ l. record { key = name n; value = media_type_form x } ∷ l) (content_level es)

-- contents instead of a schema: `content` decides, with the map of their forms
pub format-content : (m : Entries MediaType) → format_form (format.Content m)
    ≡ deciding (codes "content") (map_form media_type_form m)
unfolding roll-ParameterSchemaOrContent roll
format-content m =
    fold-roll-ParameterSchemaOrContent Form (List Form) (List Form) (List Form) format_step encoding_step header_step
    media_type_step (ParameterSchemaOrContent-F.Content m)
    ∙ ap (λ l. deciding (codes "content") (named (named_of l))) (content_level m)

-- a header by its fields
abbrev header_parts : AHeader → List Form
header_parts d =
    optional_form text_form d.description
    ∷ word_form header_style_word d.style
    ∷ flag_form d.required
    ∷ optional_form flag_form d.deprecated
    ∷ format_form d.format
    ∷ optional_form leaf d.example
    ∷ map_form example_ref_form d.examples
    ∷ extensions_form d.extensions
    ∷ []

header_step-level : (d : AHeader) → header_step (header_level d) ≡ header_parts d
header_step-level d = refl

-- the forms that the fold gives for a header are those of its fields
pub header_rows-out : (x : Header) → header_rows x ≡ header_fields x
header_rows-out x =
    fold_out-Header Form (List Form) (List Form) (List Form) format_step encoding_step header_step media_type_step x
    ∙ header_step-level (out-Header x)

-- what is read as the fields of one level is read as those of the header that is made of it
pub header_read : (d : AHeader) (ms : Members) → AreRows final_tables (final_tables header) (header_parts d) ms
    → AreRows final_tables (final_tables header) (header_fields (roll-Header d)) ms
header_read d ms h =
    subst (λ fs. AreRows final_tables (final_tables header) fs ms)
    (sym (fold-roll-Header Form (List Form) (List Form) (List Form) format_step encoding_step header_step
    media_type_step d ∙ header_step-level d) ∙ header_rows-out (roll-Header d)) h

-- a media type by its fields
abbrev media_type_parts : AMediaType → List Form
media_type_parts d =
    optional_form (reference_form schema_form) d.schema
    ∷ optional_form leaf d.example
    ∷ map_form example_ref_form d.examples
    ∷ map_form encoding_form d.encoding
    ∷ extensions_form d.extensions
    ∷ []

encodings_level : (d : AMediaType) (es : Entries Encoding)
    → pairs_of of_rows (media_type_level (record d { encoding = es })).encoding ≡ pairs_of encoding_form es
encodings_level d [] = refl
encodings_level d ((n, x) ∷ es) =
    ap (λ l. record { key = name n; value = encoding_form x } ∷ l) (encodings_level d es)

media_type_step-level : (d : AMediaType) → media_type_step (media_type_level d) ≡ media_type_parts d
media_type_step-level d =
    (λ i. optional_form (reference_form schema_form) d.schema ∷ optional_form leaf d.example
    ∷ map_form example_ref_form d.examples ∷ named (named_of (encodings_level d d.encoding i))
    ∷ extensions_form d.extensions ∷ [])

-- the forms that the fold gives for a media type are those of its fields
pub media_type_rows-out : (x : MediaType) → media_type_rows x ≡ media_type_fields x
media_type_rows-out x =
    fold_out-MediaType Form (List Form) (List Form) (List Form) format_step encoding_step header_step media_type_step x
    ∙ media_type_step-level (out-MediaType x)

-- what is read as the fields of one level is read as those of the media type that is made of it
pub media_type_read : (d : AMediaType) (ms : Members)
    → AreRows final_tables (final_tables media_type) (media_type_parts d) ms
    → AreRows final_tables (final_tables media_type) (media_type_fields (roll-MediaType d)) ms
media_type_read d ms h =
    subst (λ fs. AreRows final_tables (final_tables media_type) fs ms)
    (sym (fold-roll-MediaType Form (List Form) (List Form) (List Form) format_step encoding_step header_step
    media_type_step d ∙ media_type_step-level d) ∙ media_type_rows-out (roll-MediaType d)) h

-- an encoding by its fields
abbrev encoding_parts : AnEncoding → List Form
encoding_parts d =
    optional_form text_form d.content_type
    ∷ map_form (reference_form header_form) d.headers
    ∷ optional_form (word_form query_style_word) d.style
    ∷ flag_form d.explode
    ∷ flag_form d.allow_reserved
    ∷ extensions_form d.extensions
    ∷ []

headers_level : (d : AnEncoding) (es : Entries (ReferenceOr Header))
    → pairs_of (reference_form of_rows) (encoding_level (record d { headers = es })).headers
    ≡ pairs_of (reference_form header_form) es
headers_level d [] = refl
headers_level d ((n, r.Reference s) ∷ es) =
    ap (λ l. record { key = name n; value = reference (string_bytes s) } ∷ l) (headers_level d es)
headers_level d ((n, r.Item x) ∷ es) =
    ap (λ l. record { key = name n; value = an_item (header_form x) } ∷ l) (headers_level d es)

encoding_step-level : (d : AnEncoding) → encoding_step (encoding_level d) ≡ encoding_parts d
encoding_step-level d =
    (λ i. optional_form text_form d.content_type ∷ named (named_of (headers_level d d.headers i))
    ∷ optional_form (word_form query_style_word) d.style ∷ flag_form d.explode ∷ flag_form d.allow_reserved
    ∷ extensions_form d.extensions ∷ [])

-- the forms that the fold gives for an encoding are those of its fields
pub encoding_rows-out : (x : Encoding) → encoding_rows x ≡ encoding_fields x
encoding_rows-out x =
    fold_out-Encoding Form (List Form) (List Form) (List Form) format_step encoding_step header_step media_type_step x
    ∙ encoding_step-level (out-Encoding x)

-- what is read as the fields of one level is read as those of the encoding that is made of it
pub encoding_read : (d : AnEncoding) (ms : Members)
    → AreRows final_tables (final_tables encoding) (encoding_parts d) ms
    → AreRows final_tables (final_tables encoding) (encoding_fields (roll-Encoding d)) ms
encoding_read d ms h =
    subst (λ fs. AreRows final_tables (final_tables encoding) fs ms)
    (sym (fold-roll-Encoding Form (List Form) (List Form) (List Form) format_step encoding_step header_step
    media_type_step d ∙ encoding_step-level d) ∙ encoding_rows-out (roll-Encoding d)) h

-- for headers, the forms of the fields and those of the fold are one function
pub header_same : header_fields ≡ header_rows
header_same i x = sym (header_rows-out x) i

-- for media types, the forms of the fields and those of the fold are one function
pub media_type_same : media_type_fields ≡ media_type_rows
media_type_same i x = sym (media_type_rows-out x) i

-- for encodings, the forms of the fields and those of the fold are one function
pub encoding_same : encoding_fields ≡ encoding_rows
encoding_same i x = sym (encoding_rows-out x) i

-- one of the two names decides, with the value under it
step_decides : (d : Format) → format_step (format_level d)
    ≡ deciding (deciding_name (format_step (format_level d))) (deciding_value (format_step (format_level d)))
step_decides (ParameterSchemaOrContent-F.Schema x) = refl
step_decides (ParameterSchemaOrContent-F.Content m) = refl

step_named : (d : Format) → is_either (codes "schema") (codes "content") (deciding_name (format_step (format_level d)))
    ≡ true
step_named (ParameterSchemaOrContent-F.Schema x) = refl
step_named (ParameterSchemaOrContent-F.Content m) = refl

opened : (x : ParameterSchemaOrContent) → format_form x ≡ format_step (format_level (out-ParameterSchemaOrContent x))
opened x =
    fold_out-ParameterSchemaOrContent Form (List Form) (List Form) (List Form) format_step encoding_step header_step
    media_type_step x

-- what was written for its value is what slots hold that contain its form
pub format_held : (ss : List Slot) (x : ParameterSchemaOrContent) (n : List ℕ) (w : Result Node Fault)
    → slot_where (is_named (codes "schema")) ss ≡ Some (format_row, format_form x)
    → n ≡ deciding_name (format_form x)
    → WrittenAs (cond (same_text (codes "schema") (deciding_name (format_form x))) schema_ref content)
    (deciding_value (format_form x)) w
    → HoldsDecided (codes "schema") n ss w
format_held ss x n w at is h =
    let decides : format_form x ≡ deciding (deciding_name (format_form x)) (deciding_value (format_form x)) =
    subst (λ f. f ≡ deciding (deciding_name f) (deciding_value f)) (sym (opened x))
    (step_decides (out-ParameterSchemaOrContent x)) in
    let of_two : is_either (codes "schema") (codes "content") (deciding_name (format_form x)) ≡ true =
    subst (λ f. is_either (codes "schema") (codes "content") (deciding_name f) ≡ true) (sym (opened x))
    (step_named (out-ParameterSchemaOrContent x)) in
    subst (λ m. HoldsDecided (codes "schema") m ss w) (sym is) (record {
      first = schema_ref;
      other = codes "content";
      second = content;
      form = deciding_value (format_form x);
      at = at ∙ ap (λ f. Some (format_row, f)) decides;
      of_two = of_two;
      is = h;
    })

-- its row is the only one of its own table
pub only_format : (r : Result ParameterSchemaOrContent Fault) (ms : Members)
    → RowReadAs format_form r (by schema_or_content) format_row ms
    → RowsReadAs format_fields r (by schema_or_content) ms
unfolding final_tables tables_with
only_format (Ok x) ms h = (h, tt)
only_format (Err f) ms h = h
