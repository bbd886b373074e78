-- Which rows, kinds and tables are well made: the conditions that laws assume.
use Rattle.std.specs.Prelude.{ℕ, ◌+◌, nat_le, Bool, true, false, not, ◌&&◌, ◌||◌, List, [], ◌∷◌, codes}
use Rattle.openapi_tables.specs.Lists.{every, same_text, has, join, each}
use Rattle.openapi_tables.specs.Kind.{Kind, any_text, any_flag, number, any_tree, one_of, format, null_or, list_of}
use Rattle.openapi_tables.specs.Kind.{map_of, by, tagged, ref_to, flag_or_schema, a_schema, a_schema_kind, status_code}
use Rattle.openapi_tables.specs.Kind.{Mode, required, optional, nullable, listed}
use Rattle.openapi_tables.specs.Kind.{flagged, styled, formatted, Class, extensions, path_names, callback_names}
use Rattle.openapi_tables.specs.Kind.{status_names, Row, row, either, class, constant, in_class, takes, TableName}
use Rattle.openapi_tables.specs.Kind.{Tables, open_api, info, contact, license, example, server, server_variable, tag}
use Rattle.openapi_tables.specs.Kind.{external_documentation, discriminator, components, paths, path_item, operation}
use Rattle.openapi_tables.specs.Kind.{parameter_data, query_parameter, header_parameter, path_parameter}
use Rattle.openapi_tables.specs.Kind.{cookie_parameter, header, media_type, encoding, request_body, responses, response}
use Rattle.openapi_tables.specs.Kind.{link, api_key_scheme, http_scheme, oauth2_scheme, open_id_connect_scheme}
use Rattle.openapi_tables.specs.Kind.{oauth2_flows, implicit_flow, password_flow, client_credentials_flow}
use Rattle.openapi_tables.specs.Kind.{authorization_code_flow, schema_data, string_type, number_type, integer_type}
use Rattle.openapi_tables.specs.Kind.{object_type, array_type, boolean_type, any_schema, one_of_schema, all_of_schema}
use Rattle.openapi_tables.specs.Kind.{any_of_schema, not_schema, schema_or_content, link_operation, callback_object}
use Rattle.openapi_tables.specs.Kind.{xml_object}
use Rattle.openapi_tables.specs.Tables.{any_rows, parameter, security_scheme, schema_type, content, callback_map}
use Rattle.openapi_tables.specs.Tables.{security_requirement}
use Rattle.openapi_tables.specs.Members.{Sort, string_sort, number_sort, integer_sort, boolean_sort, object_sort}
use Rattle.openapi_tables.specs.Members.{array_sort, one_of_sort, all_of_sort, any_of_sort, not_sort, any_sort}
use Rattle.openapi_tables.specs.Members.{sort_rows, made_optional, allowed, kind_names}

-- whether a name may be in both classes
abbrev pub classes_meet : Class → Class → Bool
classes_meet extensions extensions = true
classes_meet extensions _ = false
classes_meet callback_names extensions = false
classes_meet callback_names _ = true
classes_meet path_names path_names = true
classes_meet path_names callback_names = true
classes_meet status_names status_names = true
classes_meet status_names callback_names = true
classes_meet _ _ = false

-- whether no name is taken by both rows
abbrev pub apart : Row → Row → Bool
apart (row n m k) v = not (takes v n)
apart (either a j b k) v = not (takes v a) && not (takes v b)
apart (constant n u) v = not (takes v n)
apart (class c k) (row n m i) = not (in_class c n)
apart (class c k) (either a j b i) = not (in_class c a) && not (in_class c b)
apart (class c k) (constant n u) = not (in_class c n)
apart (class c k) (class d i) = not (classes_meet c d)

-- whether no name is taken by two of the rows
abbrev pub rows_apart : List Row → Bool
rows_apart [] = true
rows_apart (w ∷ ws) = every (apart w) ws && rows_apart ws

-- whether null does not conform to a kind
abbrev pub refuses_null : Kind → Bool
refuses_null any_tree = false
refuses_null (format ws b) = not b
refuses_null (null_or k) = false
refuses_null (ref_to k) = refuses_null k
refuses_null _ = true

-- whether a mode fits the kind of its row
abbrev pub mode_fits : Mode → Kind → Bool
mode_fits listed (list_of k) = true
mode_fits listed (map_of k) = true
mode_fits flagged any_flag = true
mode_fits (styled s) (one_of ws) = has ws s
mode_fits formatted (format ws b) = b
mode_fits required k = refuses_null k
mode_fits optional k = true
mode_fits nullable k = true
mode_fits _ _ = false

-- whether no row takes the name `$ref`
abbrev pub spares_ref : List Row → Bool
spares_ref ws = every (λ w. not (takes w (codes "$ref"))) ws

-- whether a row writes no string at `$ref` if it read none: it does not take the name, or it takes objects of a table
-- at callback names
abbrev pub keeps_ref : Row → Bool
keeps_ref (class callback_names (by i)) = true
keeps_ref w = not (takes w (codes "$ref"))

-- whether an object of the kind that has no string at `$ref` is also written as an object that has none
abbrev pub under_ref : Tables → Kind → Bool
under_ref T (by i) = every keeps_ref (T i)
under_ref T (tagged n cs) = not (same_text n (codes "$ref")) && every (λ c. spares_ref (T c.table)) cs
under_ref T (map_of (by i)) = true
under_ref T a_schema = true
under_ref T _ = false

-- the kinds that may be used in `null_or`
abbrev pub may_be_null : Kind → Bool
may_be_null any_text = true
may_be_null any_flag = true
may_be_null (number w) = true
may_be_null _ = false

-- whether a kind is well made, apart from the tables that it names
abbrev pub sound : Tables → Kind → Bool
sound T (null_or k) = may_be_null k && sound T k
sound T (list_of k) = sound T k
sound T (map_of k) = sound T k
sound T (tagged n cs) = every (λ c. rows_apart (constant n c.word ∷ T c.table)) cs
sound T (ref_to k) = under_ref T k && sound T k
sound T _ = true

-- whether the mode and the kinds of a row are well made
abbrev pub row_sound : Tables → Row → Bool
row_sound T (row n m k) = mode_fits m k && sound T k
row_sound T (either a j b k) = sound T j && sound T k && not (same_text a b)
row_sound T (class c k) = sound T k
row_sound T (constant n v) = true

-- whether a row reads members: every row does but that of a tag
abbrev pub has_members : Row → Bool
has_members (constant n v) = false
has_members _ = true

-- whether a row requires no member
abbrev pub never_misses : Row → Bool
never_misses (row n required k) = false
never_misses (row n m k) = true
never_misses (class c k) = true
never_misses _ = false

-- whether no name is taken by two of the rows, and each row is well made
abbrev pub rows_sound : Tables → List Row → Bool
rows_sound T ws = rows_apart ws && every (row_sound T) ws

-- all sorts
abbrev pub sorts : List Sort
sorts = string_sort ∷ number_sort ∷ integer_sort ∷ boolean_sort ∷ object_sort ∷ array_sort ∷ one_of_sort
    ∷ all_of_sort ∷ any_of_sort ∷ not_sort ∷ any_sort ∷ []

-- whether no row takes a name
abbrev pub untaken : List Row → List ℕ → Bool
untaken ws n = every (λ w. not (takes w n)) ws

-- whether the kind names that a sort does not allow are taken by none of its rows, nor by the rows before them
abbrev pub names_fit : List Row → Sort → Bool
names_fit pre s = every (λ n. has (allowed s) n || untaken (join pre (sort_rows s)) n) kind_names

-- the names of all tables
unfoldable pub table_names : List TableName
table_names =
    open_api ∷ info ∷ contact ∷ license ∷ example ∷ server ∷ server_variable ∷ tag ∷ external_documentation
    ∷ discriminator ∷ components ∷ paths ∷ path_item ∷ operation ∷ parameter_data ∷ query_parameter
    ∷ header_parameter ∷ path_parameter ∷ cookie_parameter ∷ header ∷ media_type ∷ encoding ∷ request_body
    ∷ responses ∷ response ∷ link ∷ api_key_scheme ∷ http_scheme ∷ oauth2_scheme ∷ open_id_connect_scheme
    ∷ oauth2_flows ∷ implicit_flow ∷ password_flow ∷ client_credentials_flow ∷ authorization_code_flow ∷ schema_data
    ∷ string_type ∷ number_type ∷ integer_type ∷ object_type ∷ array_type ∷ boolean_type ∷ any_schema
    ∷ one_of_schema ∷ all_of_schema ∷ any_of_schema ∷ not_schema ∷ schema_or_content ∷ link_operation
    ∷ callback_object ∷ xml_object ∷ []

-- all rows that a schema may have, where those of kind names are optional
abbrev pub schema_rows : Tables → List Row
schema_rows T = join (T schema_data) (each made_optional any_rows)

-- whether all tables, and the rows of all sorts of schemas, are well made
abbrev pub tables_sound : Tables → Bool
tables_sound T =
    every (λ n. rows_sound T (T n)) table_names
    && every (λ s. rows_sound T (join (T schema_data) (sort_rows s))) sorts
    && every (λ s. spares_ref (join (T schema_data) (sort_rows s))) sorts
    && every (λ n. every has_members (T n)) table_names
    && every (row_sound T) (schema_rows T)
    && every never_misses (schema_rows T)
    && every (names_fit (T schema_data)) sorts

-- the kinds of the types that are not objects of a table, and those of references
abbrev pub type_kinds : List Kind
type_kinds =
    parameter ∷ security_scheme ∷ schema_type ∷ content ∷ callback_map ∷ security_requirement
    ∷ flag_or_schema ∷ a_schema ∷ a_schema_kind ∷ status_code
    ∷ ref_to a_schema ∷ ref_to (by response) ∷ ref_to parameter ∷ ref_to (by example) ∷ ref_to (by request_body)
    ∷ ref_to (by header) ∷ ref_to security_scheme ∷ ref_to (by link) ∷ ref_to (by callback_object) ∷ ref_to callback_map
    ∷ ref_to (by path_item) ∷ []

-- the number of members that a row may write if it read none
abbrev pub extra : Row → ℕ
extra (row n nullable k) = 1
extra (row n (styled s) k) = 1
extra w = 0

-- the number of members that rows may write if they read none
abbrev pub extras : List Row → ℕ
extras [] = 0
extras (w ∷ ws) = extra w + extras ws

-- whether no table, and no sort of schema, has two rows that are written if nothing was read
abbrev pub tables_small : Tables → Bool
tables_small T = every (λ n. nat_le (extras (T n)) 1) table_names
    && every (λ s. nat_le (extras (join (T schema_data) (sort_rows s))) 1) sorts
