-- How operations and references are printed.
use Rattle.std.specs.Prelude.{ℕ, List, [], ◌++◌, Option, Some, None, codes, decimal, option_map, string_bytes}
use Rattle.openapi_faults.specs.declared.reference.Reference.{Reference}
use Rattle.openapi_findings.specs.Escaped.{on_terminal, quoted, quoted_pointer, written}
use Rattle.openapi_json.specs.declared.position.Position.{Position}
use Rattle.openapi_node.specs.declared.fault.PlaceStep.{PlaceStep}
use Rattle.openapi_listing.specs.declared.operations.ListedOperation.{ListedOperation}
use Rattle.openapi.specs.declared.listing.ListFormat.{ListFormat}
use Rattle.openapi.specs.declared.listing.ListFormat.TheVariants.{Json, Text}
use Rattle.openapi.specs.declared.listing.Start.{Start}

-- `:LINE:COLUMN`, or nothing
unfoldable pub numbers_text : Option Position → List ℕ
numbers_text None = []
numbers_text (Some p) = codes ":" ++ decimal p.value.line ++ codes ":" ++ decimal p.value.column

-- `FILE:LINE:COLUMN`
unfoldable pub start_text : Start → List ℕ
start_text s = written on_terminal s.file.now ++ numbers_text s.position

-- the line and the column in an object of JSON, or `null`
unfoldable pub json_numbers : Option Position → List ℕ
json_numbers None = codes ",\"line\":null,\"column\":null"
json_numbers (Some p) = codes ",\"line\":" ++ decimal p.value.line ++ codes ",\"column\":" ++ decimal p.value.column

-- a location as a JSON Pointer
unfoldable pub json_pointer : List PlaceStep → List ℕ
json_pointer place = codes ",\"pointer\":" ++ quoted_pointer place

-- the first members of an object of JSON
unfoldable pub json_start : Start → List ℕ
json_start s = codes "{\"file\":" ++ quoted s.file.now ++ json_numbers s.position ++ json_pointer s.place.now

-- an `operationId`, or `null`
unfoldable pub json_id : Option (List ℕ) → List ℕ
json_id None = codes ",\"operationId\":null"
json_id (Some id) = codes ",\"operationId\":" ++ quoted id

-- an operation as an object of JSON
unfoldable pub operation_json : Start → ListedOperation → List ℕ
operation_json s o =
    json_start s
    ++ codes ",\"method\":" ++ quoted (string_bytes o.method)
    ++ codes ",\"path\":" ++ quoted (string_bytes o.path)
    ++ json_id (option_map string_bytes o.operation_id)
    ++ codes "}"

-- the text of a reference
unfoldable pub json_uri : List ℕ → List ℕ
json_uri text = codes ",\"reference\":" ++ quoted text

-- a reference as an object of JSON
unfoldable pub reference_json : Start → Reference → List ℕ
reference_json s r = json_start s ++ json_uri (string_bytes r.text) ++ codes "}"

-- the line of an operation
unfoldable pub operation_line : ListFormat → Start → ListedOperation → List ℕ
operation_line Text s o = string_bytes o.method ++ codes " " ++ written on_terminal (string_bytes o.path) ++ codes "\n"
operation_line Json s o = operation_json s o ++ codes "\n"

-- the line of a reference
unfoldable pub reference_line : ListFormat → Start → Reference → List ℕ
reference_line Text s r = start_text s ++ codes ": " ++ written on_terminal (string_bytes r.text) ++ codes "\n"
reference_line Json s r = reference_json s r ++ codes "\n"
