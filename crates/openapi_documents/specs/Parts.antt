-- What is read of path items part by part: the rows of both parts, and the forms of the operations.
use Rattle.std.specs.Prelude.{List, [], ◌∷◌}
use Rattle.openapi_tables.specs.Form.{Form}
use Rattle.openapi_tables.specs.Kind.{Row, any_text, by, list_of, operation, ref_to, server}
use Rattle.openapi_tables.specs.Rows.{extension_rows, list_row, optional_row}
use Rattle.openapi_tables.specs.Tables.{parameter}
use Rattle.openapi_fields.specs.Forms.{optional_form}
use Rattle.openapi_documents.specs.OperationForms.{operation_form}
use Rattle.openapi_documents.specs.declared.methods.Methods.{Methods}
use Rattle.openapi_documents.specs.declared.operation.Operation.{Operation}

-- what a path item has beside its operations
abbrev pub beside_rows : List Row
beside_rows =
    optional_row "summary" any_text
    ∷ optional_row "description" any_text
    ∷ list_row "servers" (list_of (by server))
    ∷ list_row "parameters" (list_of (ref_to parameter))
    ∷ extension_rows

-- its operations
abbrev pub method_rows : List Row
method_rows =
    optional_row "get" (by operation)
    ∷ optional_row "put" (by operation)
    ∷ optional_row "post" (by operation)
    ∷ optional_row "delete" (by operation)
    ∷ optional_row "options" (by operation)
    ∷ optional_row "head" (by operation)
    ∷ optional_row "patch" (by operation)
    ∷ optional_row "trace" (by operation)
    ∷ []

abbrev pub method_forms : Methods Operation → List Form
method_forms m =
    optional_form operation_form m.get
    ∷ optional_form operation_form m.put
    ∷ optional_form operation_form m.post
    ∷ optional_form operation_form m.delete
    ∷ optional_form operation_form m.options
    ∷ optional_form operation_form m.head
    ∷ optional_form operation_form m.patch
    ∷ optional_form operation_form m.trace
    ∷ []
