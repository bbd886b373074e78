use Rattle.std.proofs.Common.{◌≡◌, ◌++◌, string_bytes}
use Rattle.openapi_tables.specs.Operations.{ops}
use Rattle.openapi_documents.specs.AllOperations.{placed_forms}
use Rattle.openapi_documents.specs.Documents.{document_form}
use Rattle.openapi_clean.specs.Output.{lines_of}
use Rattle.openapi_clean.proofs.answer.OpenAPILines.lines.Given as goal

-- the lines so far, and those that are left
abbrev pub invariant-loop-path : goal.invariant-loop-path
invariant-loop-path l =
    string_bytes l.text ++ lines_of (placed_forms l.path-iterator) ≡ lines_of (ops (document_form l.self))
