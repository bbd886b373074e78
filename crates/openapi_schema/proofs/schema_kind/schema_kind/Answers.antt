use Rattle.std.proofs.Common.{◌≡◌, [], ◌∷◌, None, ap, ◌∙◌, refl, codes}
use Rattle.openapi_tables.specs.Prelude.{list_of, ref_to, a_schema, object_sort, array_sort, one_of_sort, all_of_sort}
use Rattle.openapi_tables.specs.Prelude.{any_of_sort, not_sort, kind_names, sort_rows, any_rows, members_list}
use Rattle.openapi_fields.specs.Forms.{list_form}
use Rattle.openapi_schema.specs.RawSlots.{optional_rows, sort_slots}
use Rattle.openapi_schema.specs.Reading.{ref_form}
use Rattle.openapi_schema.proofs.CombinedForms.{one_of_rows-kind, all_of_rows-kind, any_of_rows-kind}
use Rattle.openapi_schema.proofs.KindTests.{passes_by, chosen_kind, chosen_any}
use Rattle.openapi_schema.proofs.ToldSorts.{told_there, there_slot, one_of_told, all_of_told, any_of_told}
use Rattle.openapi_schema.proofs.schema_kind.schema_kind.Goals as goal

pub returns-in-Object-clause-reads : goal.returns-in-Object-clause-reads
returns-in-Object-clause-reads c =
    chosen_kind object_sort c.args.names c.object_kind.result
    (λ ms rows. rw c.in-Object.is at (c.named_sort.ensures ms rows))
    (passes_by object_sort c.args.names c.object_kind.result (λ ms rows. refl) c.object_kind.ensures)

pub returns-in-Array-clause-reads : goal.returns-in-Array-clause-reads
returns-in-Array-clause-reads c =
    chosen_kind array_sort c.args.names c.array_kind.result
    (λ ms rows. rw c.in-Array.is at (c.named_sort.ensures ms rows))
    (passes_by array_sort c.args.names c.array_kind.result (λ ms rows. refl) c.array_kind.ensures)

pub returns-in-OneOf-clause-reads : goal.returns-in-OneOf-clause-reads
unfolding optional_rows sort_slots kind_names any_rows sort_rows
returns-in-OneOf-clause-reads c = λ ms rows.
    let a = c.args.names in
    let s = rw c.in-OneOf.is at (c.named_sort.ensures ms rows) in
    let there : a.one_of ≡ None → ⊥ = λ e. told_there (list_form ref_form) (codes "oneOf")
    (list_of (ref_to a_schema)) ms a.one_of e rows.1.1.1.1.1.1.1.1.1.1.1.1.1.1.1.1.1.1.1.1.0 (one_of_told (members_list ms) s) in
    passes_by one_of_sort a _ (λ ms rows. refl) (one_of_rows-kind c.unwrap_or.result
    ∙ ap (λ f. (one_of_sort, f ∷ [])) (ap (list_form ref_form) c.unwrap_or.ensures ∙ there_slot ref_form a.one_of
    c.new.result there)) ms rows s

pub returns-in-AllOf-clause-reads : goal.returns-in-AllOf-clause-reads
unfolding optional_rows sort_slots kind_names any_rows sort_rows
returns-in-AllOf-clause-reads c = λ ms rows.
    let a = c.args.names in
    let s = rw c.in-AllOf.is at (c.named_sort.ensures ms rows) in
    let there : a.all_of ≡ None → ⊥ = λ e. told_there (list_form ref_form) (codes "allOf")
    (list_of (ref_to a_schema)) ms a.all_of e rows.1.1.1.1.1.1.1.1.1.1.1.1.1.1.1.1.1.1.1.1.1.0 (all_of_told (members_list ms) s) in
    passes_by all_of_sort a _ (λ ms rows. refl) (all_of_rows-kind c.unwrap_or-in-AllOf.result
    ∙ ap (λ f. (all_of_sort, f ∷ [])) (ap (list_form ref_form) c.unwrap_or-in-AllOf.ensures ∙ there_slot ref_form
    a.all_of c.new-in-AllOf.result there)) ms rows s

pub returns-in-AnyOf-clause-reads : goal.returns-in-AnyOf-clause-reads
unfolding optional_rows sort_slots kind_names any_rows sort_rows
returns-in-AnyOf-clause-reads c = λ ms rows.
    let a = c.args.names in
    let s = rw c.in-AnyOf.is at (c.named_sort.ensures ms rows) in
    let there : a.any_of ≡ None → ⊥ = λ e. told_there (list_form ref_form) (codes "anyOf")
    (list_of (ref_to a_schema)) ms a.any_of e rows.1.1.1.1.1.1.1.1.1.1.1.1.1.1.1.1.1.1.1.1.1.1.0 (any_of_told (members_list ms) s) in
    passes_by any_of_sort a _ (λ ms rows. refl) (any_of_rows-kind c.unwrap_or-in-AnyOf.result
    ∙ ap (λ f. (any_of_sort, f ∷ [])) (ap (list_form ref_form) c.unwrap_or-in-AnyOf.ensures ∙ there_slot ref_form
    a.any_of c.new-in-AnyOf.result there)) ms rows s

pub returns-in-Not-clause-reads : goal.returns-in-Not-clause-reads
returns-in-Not-clause-reads c =
    chosen_kind not_sort c.args.names c.not_kind.result
    (λ ms rows. rw c.in-Not.is at (c.named_sort.ensures ms rows))
    (c.not_kind.ensures c.args.names refl)

pub returns-in-Any-clause-reads : goal.returns-in-Any-clause-reads
returns-in-Any-clause-reads c =
    chosen_any c.args.names c.any_kind.result
    (λ ms rows. rw c.in-Any.is at (c.named_sort.ensures ms rows)) c.any_kind.ensures.ok
