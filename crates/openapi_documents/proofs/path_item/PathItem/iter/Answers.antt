use Rattle.std.proofs.Common.{◌∷◌, [], ◌∙◌, ap}
use Rattle.std.specs.Map.Iter.{deref_pair}
use Rattle.openapi_map.proofs.IterLemmas.{shows_in_order, shows_values_in_order}
use Rattle.openapi_tables.specs.Operations.{methods}
use Rattle.openapi_documents.specs.OperationForms.{operation_form}
use Rattle.openapi_documents.specs.Present.{forms_under, those_held}
use Rattle.openapi_documents.proofs.PresentForms.{lent_held, present_forms}
use Rattle.openapi_documents.proofs.path_item.PathItem.iter.Goals as goal

pub returns-clause-rest : goal.returns-clause-rest
returns-clause-rest c =
    lent_held methods (c.as_ref.result ∷ c.as_ref-2.result ∷ c.as_ref-3.result ∷ c.as_ref-4.result ∷ c.as_ref-5.result
    ∷ c.as_ref-6.result ∷ c.as_ref-7.result ∷ c.as_ref-8.result ∷ [])
    ∙ (λ i. those_held methods (c.as_ref.ensures.value i ∷ c.as_ref-2.ensures.value i ∷ c.as_ref-3.ensures.value i
    ∷ c.as_ref-4.ensures.value i ∷ c.as_ref-5.ensures.value i ∷ c.as_ref-6.ensures.value i ∷ c.as_ref-7.ensures.value i
    ∷ c.as_ref-8.ensures.value i ∷ []))

pub returns-clause-runs : goal.returns-clause-runs
returns-clause-runs c = shows_in_order deref_pair

pub returns-clause-values_run : goal.returns-clause-values_run
returns-clause-values_run c = shows_values_in_order deref_pair

pub returns-clause-forms : goal.returns-clause-forms
returns-clause-forms c = ap (forms_under operation_form) (returns-clause-rest c) ∙ present_forms c.args.self.now
