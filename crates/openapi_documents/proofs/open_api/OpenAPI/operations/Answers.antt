use Rattle.std.proofs.Common.{ap, ◌∙◌}
use Rattle.openapi_map.proofs.IterLemmas.{shows_in_order}
use Rattle.openapi_documents.specs.AllOperations.{lent_operation, operations_under, placed_forms}
use Rattle.openapi_documents.proofs.AllOperations.{document_forms}
use Rattle.openapi_documents.proofs.open_api.OpenAPI.operations.Goals as goal

pub returns-clause-rest : goal.returns-clause-rest
returns-clause-rest c = ap operations_under c.iter.ensures.rest

pub returns-clause-forms : goal.returns-clause-forms
returns-clause-forms c = ap placed_forms (returns-clause-rest c) ∙ document_forms c.args.self.now

pub returns-clause-runs : goal.returns-clause-runs
returns-clause-runs c = shows_in_order lent_operation
