use Rattle.std.proofs.Common.{◌≡◌, [], ◌∷◌, codes, drop, refl, inl, inr}
use Rattle.openapi_tables.specs.Prelude.{any_text, a_schema, list_of, ref_to, required, optional, sort_rows}
use Rattle.openapi_tables.specs.Prelude.{one_of_sort, all_of_sort, any_of_sort, not_sort, any_sort, any_rows}
use Rattle.openapi_fields.specs.Forms.{list_form}
use Rattle.openapi_schema.specs.Reading.{ref_form, outer_box_form}
use Rattle.openapi_schema.specs.SchemaForms.{schema_kind_rows, any_schema_rows}
use Rattle.openapi_schema.specs.Writing.{kind_slots, untagged}
use Rattle.openapi_schema.specs.declared.schema.SchemaKind.{SchemaKind}
use Rattle.openapi_schema.specs.declared.schema.SchemaKind.TheVariants as kind
use Rattle.openapi_schema.proofs.CombinedForms.{one_of_rows-kind, all_of_rows-kind, any_of_rows-kind, not_rows-kind}
use Rattle.openapi_schema.proofs.KindForms.{any_rows-kind}
use Rattle.openapi_schema.proofs.TaggedSlots.{no_tag}
use Rattle.openapi_schema.proofs.members.kind_word.Goals as goal

abbrev IsUntagged : SchemaKind → Type 0
IsUntagged k = untagged (kind_slots k) ≡ kind_slots k

one_of : (v : _) → IsUntagged (kind.OneOf v)
unfolding sort_rows
one_of v =
    no_tag (codes "oneOf") required (list_of (ref_to a_schema)) (schema_kind_rows (kind.OneOf v)) []
    (list_form ref_form v ∷ []) one_of_sort (one_of_rows-kind v) refl

all_of : (v : _) → IsUntagged (kind.AllOf v)
unfolding sort_rows
all_of v =
    no_tag (codes "allOf") required (list_of (ref_to a_schema)) (schema_kind_rows (kind.AllOf v)) []
    (list_form ref_form v ∷ []) all_of_sort (all_of_rows-kind v) refl

any_of : (v : _) → IsUntagged (kind.AnyOf v)
unfolding sort_rows
any_of v =
    no_tag (codes "anyOf") required (list_of (ref_to a_schema)) (schema_kind_rows (kind.AnyOf v)) []
    (list_form ref_form v ∷ []) any_of_sort (any_of_rows-kind v) refl

not_one : (b : _) → IsUntagged (kind.Not b)
unfolding sort_rows
not_one b =
    no_tag (codes "not") required (ref_to a_schema) (schema_kind_rows (kind.Not b)) [] (outer_box_form b ∷ []) not_sort
    (not_rows-kind b) refl

any_one : (x : _) → IsUntagged (kind.Any x)
unfolding sort_rows any_rows
any_one x =
    no_tag (codes "type") optional any_text (schema_kind_rows (kind.Any x)) (drop 1 any_rows) (any_schema_rows x) any_sort
    (any_rows-kind x) refl

pub returns-in-OneOf : goal.returns-in-OneOf
returns-in-OneOf c =
    elim c.in-OneOf.is [
      | inl p ↦ rw p.1 (one_of p.0)
      | inr q ↦
          elim q [
            | inl p ↦ rw p.1 (all_of p.0)
            | inr q ↦
                elim q [
                  | inl p ↦ rw p.1 (any_of p.0)
                  | inr q ↦
                      elim q [
                        | inl p ↦ rw p.1 (not_one p.0)
                        | inr p ↦ rw p.1 (any_one p.0)
                      ]
                ]
          ]
    ]
