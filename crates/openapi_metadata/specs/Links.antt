-- The forms of the fields of links, and of the operation that a link refers to, in the order of their field tables.
use Rattle.std.specs.Prelude.{List, [], ◌∷◌, codes}
use Rattle.openapi_tables.specs.Kind.{any_text, Row, either}
use Rattle.openapi_tables.specs.Form.{Form, leaf, deciding}
use Rattle.openapi_fields.specs.Forms.{text_form, optional_form, map_form, extensions_form, record_form}
use Rattle.openapi_metadata.specs.Objects.{server_rows}
use Rattle.openapi_metadata.specs.declared.link.Link.{Link}
use Rattle.openapi_metadata.specs.declared.link_operation.LinkOperation.{LinkOperation}
use Rattle.openapi_metadata.specs.declared.link_operation.LinkOperation.TheVariants.{OperationRef, OperationId}

-- the row of the operation: `operationRef` or `operationId`
abbrev pub operation_row : Row
operation_row = either (codes "operationRef") any_text (codes "operationId") any_text

-- the form of the operation that a link refers to
abbrev pub operation_form : LinkOperation → Form
operation_form (OperationRef s) = deciding (codes "operationRef") (text_form s)
operation_form (OperationId s) = deciding (codes "operationId") (text_form s)

-- the forms of an object that has this field only
abbrev pub link_operation_rows : LinkOperation → List Form
link_operation_rows x = operation_form x ∷ []

-- Link Object
abbrev pub link_rows : Link → List Form
link_rows x =
    optional_form text_form x.description
    ∷ operation_form x.operation
    ∷ optional_form leaf x.request_body
    ∷ map_form leaf x.parameters
    ∷ optional_form (record_form server_rows) x.server
    ∷ extensions_form x.extensions
    ∷ []
