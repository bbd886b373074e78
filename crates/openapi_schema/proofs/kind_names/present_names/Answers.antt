use Rattle.std.proofs.Common.{[], ◌∷◌, ◌∙◌, refl}
use Rattle.openapi_schema_types.specs.Masks.{mask_of}
use Rattle.openapi_fields.specs.Forms.{text_form, flag_form, number_form, size_form, list_form, map_form}
use Rattle.openapi_schema.specs.KindNames.{trees_form}
use Rattle.openapi_schema.specs.Present.{additional_there, ref_there}
use Rattle.openapi_schema.specs.Reading.{ref_form, inner_box_form, outer_box_form}
use Rattle.openapi_schema.specs.SchemaForms.{additional_form, schema_form}
use Rattle.openapi_schema.proofs.KindSorts.{flag_there}
use Rattle.openapi_schema.proofs.kind_names.present_names.Goals as goal

pub returns : goal.returns
returns c =
    let a = c.args.names.now in
    c.of_flags.ensures
    ∙ (λ i. mask_of ((c.is_some.ensures ∙ flag_there text_form (λ x. refl) a.plain.typ) i
    ∷ (c.is_some-2.ensures ∙ flag_there text_form (λ x. refl) a.plain.pattern) i
    ∷ (c.is_some-3.ensures ∙ flag_there number_form (λ x. refl) a.plain.multiple_of) i
    ∷ (c.is_some-4.ensures ∙ flag_there flag_form (λ x. refl) a.plain.exclusive_minimum) i
    ∷ (c.is_some-5.ensures ∙ flag_there flag_form (λ x. refl) a.plain.exclusive_maximum) i
    ∷ (c.is_some-6.ensures ∙ flag_there number_form (λ x. refl) a.plain.minimum) i
    ∷ (c.is_some-7.ensures ∙ flag_there number_form (λ x. refl) a.plain.maximum) i
    ∷ (c.is_some-8.ensures ∙ flag_there (map_form inner_box_form) (λ x. refl) a.properties) i
    ∷ (c.is_some-9.ensures ∙ flag_there (list_form text_form) (λ x. refl) a.plain.required) i
    ∷ (c.is_some-10.ensures ∙ flag_there additional_form additional_there a.additional_properties) i
    ∷ (c.is_some-11.ensures ∙ flag_there size_form (λ x. refl) a.plain.min_properties) i
    ∷ (c.is_some-12.ensures ∙ flag_there size_form (λ x. refl) a.plain.max_properties) i
    ∷ (c.is_some-13.ensures ∙ flag_there inner_box_form (ref_there (λ s. schema_form s.value)) a.items) i
    ∷ (c.is_some-14.ensures ∙ flag_there size_form (λ x. refl) a.plain.min_items) i
    ∷ (c.is_some-15.ensures ∙ flag_there size_form (λ x. refl) a.plain.max_items) i
    ∷ (c.is_some-16.ensures ∙ flag_there flag_form (λ x. refl) a.plain.unique_items) i
    ∷ (c.is_some-17.ensures ∙ flag_there (λ nodes. trees_form nodes.now) (λ x. refl) a.enumeration) i
    ∷ (c.is_some-18.ensures ∙ flag_there text_form (λ x. refl) a.plain.format) i
    ∷ (c.is_some-19.ensures ∙ flag_there size_form (λ x. refl) a.plain.min_length) i
    ∷ (c.is_some-20.ensures ∙ flag_there size_form (λ x. refl) a.plain.max_length) i
    ∷ (c.is_some-21.ensures ∙ flag_there (list_form ref_form) (λ x. refl) a.one_of) i
    ∷ (c.is_some-22.ensures ∙ flag_there (list_form ref_form) (λ x. refl) a.all_of) i
    ∷ (c.is_some-23.ensures ∙ flag_there (list_form ref_form) (λ x. refl) a.any_of) i
    ∷ (c.is_some-24.ensures ∙ flag_there outer_box_form (λ x. ref_there schema_form x.value) a.not) i
    ∷ []))
