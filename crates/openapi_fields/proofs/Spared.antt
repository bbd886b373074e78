-- The objects that a reference may replace: one that has no string at `$ref` is written as an object that has none.
use Rattle.std.proofs.Common.{◌≡◌, true, refl}
use Rattle.openapi_tables.specs.Kind.{by, example, header, link, path_item, request_body, response}
use Rattle.openapi_tables.specs.Sound.{under_ref}
use Rattle.openapi_tables.specs.Tables.{final_tables, tables_with, parameter, security_scheme}

-- an example that is no reference is not written as one
pub example_spares : under_ref final_tables (by example) ≡ true
unfolding final_tables tables_with
example_spares = refl

-- a header that is no reference is not written as one
pub header_spares : under_ref final_tables (by header) ≡ true
unfolding final_tables tables_with
header_spares = refl

-- a link that is no reference is not written as one
pub link_spares : under_ref final_tables (by link) ≡ true
unfolding final_tables tables_with
link_spares = refl

-- a parameter that is no reference is not written as one
pub parameter_spares : under_ref final_tables parameter ≡ true
unfolding final_tables tables_with
parameter_spares = refl

-- a path item that is no reference is not written as one
pub path_item_spares : under_ref final_tables (by path_item) ≡ true
unfolding final_tables tables_with
path_item_spares = refl

-- a request body that is no reference is not written as one
pub request_body_spares : under_ref final_tables (by request_body) ≡ true
unfolding final_tables tables_with
request_body_spares = refl

-- a response that is no reference is not written as one
pub response_spares : under_ref final_tables (by response) ≡ true
unfolding final_tables tables_with
response_spares = refl

-- a security scheme that is no reference is not written as one
pub security_scheme_spares : under_ref final_tables security_scheme ≡ true
unfolding final_tables tables_with
security_scheme_spares = refl
