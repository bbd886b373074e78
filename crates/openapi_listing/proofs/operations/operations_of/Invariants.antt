use Rattle.std.proofs.Common.{◌≡◌, ◌++◌, map}
use Rattle.openapi_tables.specs.Lists.{each}
use Rattle.openapi_tables.specs.Operations.{ops}
use Rattle.openapi_documents.specs.AllOperations.{placed_forms}
use Rattle.openapi_documents.specs.Documents.{document_form}
use Rattle.openapi_listing.specs.Listed.{listed_of, stated_of}
use Rattle.openapi_listing.proofs.operations.operations_of.Given as goal

-- the operations so far, and those that are left
abbrev pub invariant-loop-path : goal.invariant-loop-path
invariant-loop-path l =
    map listed_of l.listed.items ++ each stated_of (placed_forms l.path-iterator) ≡ each stated_of (ops (document_form l.document))
