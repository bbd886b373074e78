-- The sort of a schema, given the values under the kind names.
use Rattle.std.proofs.Common.{◌≡◌, ℕ, true, false, not, cond, List, Option, Some, None, is_some, string_bytes, refl}
use Rattle.std.proofs.Common.{sym, ap, ◌∙◌}
use Rattle.std.specs.Option.{option_map}
use Rattle.openapi_node.specs.Tree.{Tree, Members}
use Rattle.openapi_tables.specs.Prelude.{Entry, members_list, any_rows, final_tables, Sort, any_sort, sort_of, further}
use Rattle.openapi_tables.specs.Prelude.{Form, is_absent, AreRows}
use Rattle.openapi_fields.specs.Forms.{optional_form}
use Rattle.openapi_schema_types.specs.Masks.{mask_of, presence, sort_by_names, IsType}
use Rattle.openapi_schema.specs.RawSlots.{optional_rows}
use Rattle.openapi_schema.specs.KindNames.{flags_in, kind_forms}
use Rattle.openapi_schema.specs.declared.kind_names.KindNames.{KindNames}
use Rattle.openapi_schema.proofs.RawSort.{presence-read, type_read, sort_of-names}

-- an optional value is `Some` if and only if its form is not absent
pub flag_there : {X : Type 0} → (view : X → Form) → ((x : X) → is_absent (view x) ≡ false) → (o : Option X)
    → is_some o ≡ not (is_absent (optional_form view o))
flag_there view h None = refl
flag_there view h (Some x) = sym (ap not (h x))

-- the mask of what was read under the kind names is that of the names that are present
pub mask_read : (a : KindNames) (ms : Members) (m : ℕ)
    → AreRows final_tables optional_rows (kind_forms a) ms
    → m ≡ mask_of (flags_in a) → m ≡ mask_of (presence (members_list ms))
mask_read a ms m rows h =
    h ∙ ap mask_of (sym (presence-read final_tables ms (kind_forms a) rows))

-- the type that was read is the value of `type`
pub type_in : (a : KindNames) (ms : Members) → AreRows final_tables optional_rows (kind_forms a) ms
    → IsType (option_map string_bytes a.plain.typ) (members_list ms)
unfolding optional_rows any_rows
type_in a ms rows = type_read final_tables ms a.plain.typ rows.0

-- the sort that the names allow is the sort where its further condition holds, else there is none in particular
pub sort_passes : (es : List (Entry Tree)) (s : Sort) → s ≡ sort_by_names es → further s es ≡ true → sort_of es ≡ s
sort_passes es s e h =
    sort_of-names es ∙ ap (λ x. cond (further x es) x any_sort) (sym e) ∙ ap (λ b. cond b s any_sort) h

-- where the further condition of the sort that the names allow fails, there is no sort in particular
pub sort_fails : (es : List (Entry Tree)) (s : Sort) → s ≡ sort_by_names es → further s es ≡ false → sort_of es
    ≡ any_sort
sort_fails es s e h =
    sort_of-names es ∙ ap (λ x. cond (further x es) x any_sort) (sym e) ∙ ap (λ b. cond b s any_sort) h
