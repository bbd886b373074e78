use Rattle.std.proofs.Common.{[], ◌∷◌, sym, ap, ◌∙◌, refl, codes}
use Rattle.openapi_tables.specs.Prelude.{ref_to, a_schema, not_sort, kind_names, sort_rows, any_rows, members_list}
use Rattle.openapi_fields.specs.Forms.{optional_form}
use Rattle.openapi_schema.specs.RawSlots.{optional_rows, sort_slots}
use Rattle.openapi_schema.specs.Reading.{outer_box_form}
use Rattle.openapi_schema.proofs.CombinedForms.{not_rows-kind}
use Rattle.openapi_schema.proofs.KindTests.{passes_by}
use Rattle.openapi_schema.proofs.ToldSorts.{told_there, not_told}
use Rattle.openapi_schema.proofs.schema_kind.not_kind.Goals as goal

pub returns-in-Some : goal.returns-in-Some
unfolding sort_slots kind_names any_rows sort_rows
returns-in-Some c = λ a e.
    passes_by not_sort a _ (λ ms rows. refl) (not_rows-kind c.in-Some.not
    ∙ ap (λ f. (not_sort, f ∷ [])) (sym (ap (optional_form outer_box_form) (e ∙ c.in-Some.is))))

pub returns-in-None : goal.returns-in-None
unfolding optional_rows any_rows
returns-in-None c = λ a e ms rows s.
    absurd (told_there outer_box_form (codes "not") (ref_to a_schema) ms a.not (e ∙ c.in-None.is)
    rows.1.1.1.1.1.1.1.1.1.1.1.1.1.1.1.1.1.1.1.1.1.1.1.0 (not_told (members_list ms) s))
