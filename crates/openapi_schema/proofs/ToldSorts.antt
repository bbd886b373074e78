-- The sorts that one name alone determines: the name is present.
use Rattle.std.proofs.Common.{◌≡◌, Bool, true, false, not, ℕ, cond, ◌||◌, List, Some, None, Option, codes, refl, sym}
use Rattle.std.proofs.Common.{ap, ◌∙◌, true≢false, unwrap_or}
use Rattle.std.specs.Global.{Vec}
use Rattle.openapi_node.specs.Tree.{Tree, null, text, object, Members}
use Rattle.openapi_tables.specs.Prelude.{every, has, same_text, Entry, members_list, Kind, optional, row, final_tables}
use Rattle.openapi_tables.specs.Prelude.{Sort, string_sort, number_sort, integer_sort, boolean_sort, object_sort}
use Rattle.openapi_tables.specs.Prelude.{array_sort, one_of_sort, all_of_sort, any_of_sort, not_sort, any_sort, allowed}
use Rattle.openapi_tables.specs.Prelude.{held, is_null, is_present, kind_names, possible_sort, Form, RowGives}
use Rattle.openapi_tables.specs.Prelude.{is_absent}
use Rattle.openapi_fields.specs.Forms.{optional_form, list_form}
use Rattle.openapi_schema_types.specs.Masks.{sort_by_names}
use Rattle.openapi_schema_types.proofs.HeldRows.{absent_held}

-- whether the name that alone determines a sort is present; true for a sort without such a name
abbrev told : Bool → Bool → Bool → Bool → Sort → Bool
told a b c d one_of_sort = a
told a b c d all_of_sort = b
told a b c d any_of_sort = c
told a b c d not_sort = d
told a b c d s = true

by_type : (a b c d u v w x y z : Bool)
    → told a b c d (cond u string_sort (cond v number_sort (cond w integer_sort (cond x boolean_sort (cond y object_sort
    (cond z array_sort any_sort)))))) ≡ true
by_type a b c d true v w x y z = refl
by_type a b c d false true w x y z = refl
by_type a b c d false false true x y z = refl
by_type a b c d false false false true y z = refl
by_type a b c d false false false false true z = refl
by_type a b c d false false false false false true = refl
by_type a b c d false false false false false false = refl

by_name : (a b c d : Bool)
    → told a b c d (cond a one_of_sort (cond b all_of_sort (cond c any_of_sort (cond d not_sort any_sort)))) ≡ true
by_name true b c d = refl
by_name false true c d = refl
by_name false false true d = refl
by_name false false false true = refl
by_name false false false false = refl

module _ (es : List (Entry Tree)) where
  abbrev told_in : Sort → Bool
  told_in = told (is_present es (codes "oneOf")) (is_present es (codes "allOf")) (is_present es (codes "anyOf"))
      (is_present es (codes "not"))

  possible_told : (t : Tree) → told_in (possible_sort t es) ≡ true
  possible_told null = by_name (is_present es (codes "oneOf")) (is_present es (codes "allOf")) (is_present es
      (codes "anyOf")) (is_present es (codes "not"))
  possible_told (text s) =
      by_type (is_present es (codes "oneOf")) (is_present es (codes "allOf")) (is_present es (codes "anyOf"))
      (is_present es (codes "not")) (same_text s (codes "string")) (same_text s (codes "number"))
      (same_text s (codes "integer")) (same_text s (codes "boolean")) (same_text s (codes "object"))
      (same_text s (codes "array"))
  possible_told t = refl

  named_told : told_in (sort_by_names es) ≡ true
  unfolding sort_by_names
  named_told = go (every (λ n. has (allowed (possible_sort (held (codes "type") es) es)) n || is_null (held n es))
      kind_names)
    where
      go : (b : Bool) → told_in (cond b (possible_sort (held (codes "type") es) es) any_sort) ≡ true
      go true = possible_told (held (codes "type") es)
      go false = refl

-- a name that is present is not read as `None`
pub told_there : {X : Type 0} → (view : X → Form) (n : List ℕ) (k : Kind) (ms : Members) (o : Option X) → o ≡ None
    → RowGives final_tables (row n optional k) ms (optional_form view o) → is_present (members_list ms) n ≡ true → ⊥
told_there view n k ms o e r h =
    let gone : is_null (held n (members_list ms)) ≡ true =
    absent_held final_tables n k ms (optional_form view o) r ∙ ap (λ x. is_absent (optional_form view x)) e in
    true≢false (sym h ∙ ap not gone)

-- where the names allow the sort of `oneOf`, that name is present
pub one_of_told : (es : List (Entry Tree)) → one_of_sort ≡ sort_by_names es → is_present es (codes "oneOf") ≡ true
one_of_told es e = ap (told_in es) e ∙ named_told es

-- where the names allow the sort of `allOf`, that name is present
pub all_of_told : (es : List (Entry Tree)) → all_of_sort ≡ sort_by_names es → is_present es (codes "allOf") ≡ true
all_of_told es e = ap (told_in es) e ∙ named_told es

-- where the names allow the sort of `anyOf`, that name is present
pub any_of_told : (es : List (Entry Tree)) → any_of_sort ≡ sort_by_names es → is_present es (codes "anyOf") ≡ true
any_of_told es e = ap (told_in es) e ∙ named_told es

-- where the names allow the sort of `not`, that name is present
pub not_told : (es : List (Entry Tree)) → not_sort ≡ sort_by_names es → is_present es (codes "not") ≡ true
not_told es e = ap (told_in es) e ∙ named_told es

-- a list that is present has the form of the optional list
pub there_slot : {X : Type 0} → (view : X → Form) (o : Option (Vec X)) (d : Vec X) → (o ≡ None → ⊥)
    → list_form view (unwrap_or o d) ≡ optional_form (list_form view) o
there_slot view None d h = absurd (h refl)
there_slot view (Some v) d h = refl
