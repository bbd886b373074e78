-- The rows of path items, by those of their parts.
use Rattle.std.proofs.Common.{◌≡◌, ◌+◌, [], ◌∷◌, Option, Result, Ok, Err, arith}
use Rattle.openapi_node.specs.Tree.{Members}
use Rattle.openapi_node.specs.declared.fault.Fault.{Fault}
use Rattle.openapi_tables.specs.Prelude.{RowGives, rows_asked, rows_weight, Form, by, operation, path_item}
use Rattle.openapi_tables.specs.Prelude.{final_tables, tables_with}
use Rattle.openapi_tables.specs.Rows.{optional_row}
use Rattle.openapi_fields.specs.Forms.{optional_form}
use Rattle.openapi_fields.specs.Returned.{RowReadAs}
use Rattle.openapi_fields.specs.Reading.{PartReadAs}
use Rattle.openapi_documents.specs.OperationForms.{operation_form}
use Rattle.openapi_documents.specs.declared.operation.Operation.{Operation}
use Rattle.openapi_documents.specs.Parts.{beside_rows, method_rows}

-- the weights of both parts add up to that of the rows of a path item
pub path_item_weight : (ms : Members)
    → rows_weight beside_rows ms + rows_weight method_rows ms
    ≡ rows_weight (rows_asked final_tables (by path_item)) ms
unfolding final_tables tables_with
path_item_weight ms = omega arith

-- the operations of a path item, by what was read under each method, of which the last may be refused
pub methods_read : (r : Result (Unit {0}) Fault) (last : Option Operation) (ms : Members) {a b c d e f g : Form}
    → RowGives final_tables (optional_row "get" (by operation)) ms a
    → RowGives final_tables (optional_row "put" (by operation)) ms b
    → RowGives final_tables (optional_row "post" (by operation)) ms c
    → RowGives final_tables (optional_row "delete" (by operation)) ms d
    → RowGives final_tables (optional_row "options" (by operation)) ms e
    → RowGives final_tables (optional_row "head" (by operation)) ms f
    → RowGives final_tables (optional_row "patch" (by operation)) ms g
    → RowReadAs (λ done. optional_form operation_form last) r (by path_item) (optional_row "trace" (by operation)) ms
    → PartReadAs (λ done. a ∷ b ∷ c ∷ d ∷ e ∷ f ∷ g ∷ optional_form operation_form last ∷ []) r (by path_item)
    method_rows ms
methods_read (Ok done) last ms h1 h2 h3 h4 h5 h6 h7 h8 = (h1, (h2, (h3, (h4, (h5, (h6, (h7, (h8, tt))))))))
methods_read (Err fault) last ms h1 h2 h3 h4 h5 h6 h7 h8 = h8
