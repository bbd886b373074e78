-- The field table of each object by its name, in three lists of tables: the final one and two earlier ones. The rows
-- are defined by subject in DocumentTables, PathTables, ParameterTables, ResponseTables, SecurityTables and
-- SchemaTables.
use Rattle.std.specs.Prelude.{List, [], ◌∷◌}
use Rattle.openapi_tables.specs.Kind.{Kind, by, ref_to, unlimited, signed, Row, Tables, open_api, info, contact}
use Rattle.openapi_tables.specs.Kind.{license, example, server, server_variable, tag, external_documentation}
use Rattle.openapi_tables.specs.Kind.{discriminator, components, paths, path_item, operation, parameter_data}
use Rattle.openapi_tables.specs.Kind.{query_parameter, header_parameter, path_parameter, cookie_parameter, header}
use Rattle.openapi_tables.specs.Kind.{media_type, encoding, request_body, responses, response, link, api_key_scheme}
use Rattle.openapi_tables.specs.Kind.{http_scheme, oauth2_scheme, open_id_connect_scheme, oauth2_flows, implicit_flow}
use Rattle.openapi_tables.specs.Kind.{password_flow, client_credentials_flow, authorization_code_flow, schema_data}
use Rattle.openapi_tables.specs.Kind.{string_type, number_type, integer_type, object_type, array_type, boolean_type}
use Rattle.openapi_tables.specs.Kind.{any_schema, one_of_schema, all_of_schema, any_of_schema, not_schema}
use Rattle.openapi_tables.specs.Kind.{schema_or_content, link_operation, callback_object, xml_object}
use Rattle.openapi_tables.specs.Rows.{optional_row}
use Rattle.openapi_tables.specs.DocumentTables.{open_api_rows, info_rows, contact_rows, license_rows, server_rows}
use Rattle.openapi_tables.specs.DocumentTables.{server_variable_rows, tag_rows, external_documentation_rows}
use Rattle.openapi_tables.specs.DocumentTables.{components_rows}
use Rattle.openapi_tables.specs.PathTables.{paths_rows, path_item_rows, operation_rows, callback_rows}
use Rattle.openapi_tables.specs.ParameterTables.{parameter_rows, query_parameter_rows, header_parameter_rows}
use Rattle.openapi_tables.specs.ParameterTables.{path_parameter_rows, cookie_parameter_rows, schema_or_content_rows}
use Rattle.openapi_tables.specs.ParameterTables.{header_rows, media_type_rows, encoding_rows, example_rows}
use Rattle.openapi_tables.specs.ParameterTables.{request_body_rows}
use Rattle.openapi_tables.specs.ResponseTables.{responses_rows, response_rows, link_rows, link_operation_rows}
use Rattle.openapi_tables.specs.SecurityTables.{api_key_rows, http_rows, oauth2_rows, open_id_connect_rows}
use Rattle.openapi_tables.specs.SecurityTables.{oauth2_flows_rows, implicit_flow_rows, token_flow_rows}
use Rattle.openapi_tables.specs.SecurityTables.{authorization_code_flow_rows}
use Rattle.openapi_tables.specs.SchemaTables.{data_rows, one_of_rows, all_of_rows, any_of_rows, not_rows}
use Rattle.openapi_tables.specs.SchemaTables.{discriminator_rows, xml_rows}
-- definitions that other modules import from this one
pub use Rattle.openapi_tables.specs.Rows.{required_row, list_row, flag_row, format_row}
pub use Rattle.openapi_tables.specs.ParameterTables.{parameter, content, path_styles, query_styles, cookie_styles}
pub use Rattle.openapi_tables.specs.ParameterTables.{header_styles}
pub use Rattle.openapi_tables.specs.SecurityTables.{security_scheme, security_requirement}
pub use Rattle.openapi_tables.specs.SchemaTables.{schema_ref, schema_type, number_rows, number_formats, integer_formats}
pub use Rattle.openapi_tables.specs.SchemaTables.{string_formats}
pub use Rattle.openapi_tables.specs.PathTables.{callback_map}
unfoldable pub use Rattle.openapi_tables.specs.SchemaTables.{string_rows, object_rows, array_rows, boolean_rows}
unfoldable pub use Rattle.openapi_tables.specs.SchemaTables.{any_rows}

-- The table of each object. The lists of tables differ in the kinds of callbacks, `c` in an operation and `d` in the
-- components, and in the fields `b` of a schema after `default`.
unfoldable pub tables_with : Kind → Kind → List Row → Tables
tables_with c d b open_api = open_api_rows
tables_with c d b info = info_rows
tables_with c d b contact = contact_rows
tables_with c d b license = license_rows
tables_with c d b example = example_rows
tables_with c d b server = server_rows
tables_with c d b server_variable = server_variable_rows
tables_with c d b tag = tag_rows
tables_with c d b external_documentation = external_documentation_rows
tables_with c d b discriminator = discriminator_rows
tables_with c d b components = components_rows d
tables_with c d b paths = paths_rows
tables_with c d b path_item = path_item_rows
tables_with c d b operation = operation_rows c
tables_with c d b parameter_data = parameter_rows
tables_with c d b query_parameter = query_parameter_rows
tables_with c d b header_parameter = header_parameter_rows
tables_with c d b path_parameter = path_parameter_rows
tables_with c d b cookie_parameter = cookie_parameter_rows
tables_with c d b header = header_rows
tables_with c d b media_type = media_type_rows
tables_with c d b encoding = encoding_rows
tables_with c d b request_body = request_body_rows
tables_with c d b responses = responses_rows
tables_with c d b response = response_rows
tables_with c d b link = link_rows
tables_with c d b api_key_scheme = api_key_rows
tables_with c d b http_scheme = http_rows
tables_with c d b oauth2_scheme = oauth2_rows
tables_with c d b open_id_connect_scheme = open_id_connect_rows
tables_with c d b oauth2_flows = oauth2_flows_rows
tables_with c d b implicit_flow = implicit_flow_rows
tables_with c d b password_flow = token_flow_rows
tables_with c d b client_credentials_flow = token_flow_rows
tables_with c d b authorization_code_flow = authorization_code_flow_rows
tables_with c d b schema_data = data_rows b
tables_with c d b string_type = string_rows
tables_with c d b number_type = number_rows unlimited number_formats
tables_with c d b integer_type = number_rows signed integer_formats
tables_with c d b object_type = object_rows
tables_with c d b array_type = array_rows
tables_with c d b boolean_type = boolean_rows
tables_with c d b any_schema = any_rows
tables_with c d b one_of_schema = one_of_rows
tables_with c d b all_of_schema = all_of_rows
tables_with c d b any_of_schema = any_of_rows
tables_with c d b not_schema = not_rows
tables_with c d b schema_or_content = schema_or_content_rows
tables_with c d b link_operation = link_operation_rows
tables_with c d b callback_object = callback_rows
tables_with c d b xml_object = xml_rows

-- a callback, or a reference to one
abbrev pub callback_ref : Kind
callback_ref = ref_to (by callback_object)

-- the tables where a callback is a map of path items, and a schema has no `xml`
unfoldable pub tables_before_callbacks : Tables
tables_before_callbacks = tables_with callback_map (ref_to callback_map) []

-- the tables with a Callback Object, where a schema has no `xml`
unfoldable pub tables_before_xml : Tables
tables_before_xml = tables_with callback_ref callback_ref []

-- the tables with a Callback Object and with `xml`: those of OpenAPI 3.0.3 as this crate reads them
unfoldable pub final_tables : Tables
final_tables = tables_with callback_ref callback_ref (optional_row "xml" (by xml_object) ∷ [])
