-- The possible sort of a schema, by its `type` and by the four names.
use Rattle.std.proofs.Common.{◌≡◌, ℕ, Bool, true, false, cond, ◌&&◌, codes, List, refl, sym, ap, ◌∙◌, eqb, true≢false}
use Rattle.std.specs.Int.Bits.{bit_and}
use Rattle.openapi_node.specs.Tree.{Tree}
use Rattle.openapi_tables.proofs.ListLaws.{same_text_eq}
use Rattle.openapi_tables.proofs.RowLaws.{not_both}
use Rattle.openapi_tables.specs.Prelude.{has, same_text, Entry, any_rows, Sort, named_sort, any_sort, one_of_sort}
use Rattle.openapi_tables.specs.Prelude.{all_of_sort, any_of_sort, not_sort, allowed, sort_rows, kind_names, is_present}
use Rattle.openapi_schema_types.specs.Masks.{mask_of, presence, allowance, first_of_four}
use Rattle.openapi_schema_types.specs.TypeNames.{type_words}
use Rattle.openapi_schema_types.proofs.MaskLaws.{names_present}

other_text : (s w : List ℕ) → (s ≡ w → ⊥) → same_text s w ≡ false
other_text s w h = not_both (same_text s w) (λ e. h (same_text_eq s w e))

-- no sort has a `type` that is none of the words
other_word : (s w : List ℕ) → has type_words s ≡ false → has type_words w ≡ true → same_text s w ≡ false
other_word s w none known = other_text s w (λ e. true≢false (sym known ∙ ap (has type_words) (sym e) ∙ none))

-- a `type` that is none of the words selects no sort in particular
pub named_sort-other : (s : List ℕ) → has type_words s ≡ false → named_sort s ≡ any_sort
named_sort-other s none =
    rw (
      other_word s (codes "string") none refl,
      other_word s (codes "number") none refl,
      other_word s (codes "integer") none refl,
      other_word s (codes "boolean") none refl,
      other_word s (codes "object") none refl,
      other_word s (codes "array") none refl,
    ) refl

last : (b : Bool) → (b && true) ≡ b
last true = refl
last false = refl

-- each of the four names is present if and only if the mask of it alone is within the mask of the names
has_one_of : (es : List (Entry Tree)) → eqb (bit_and 1048576 (mask_of (presence es))) 1048576
    ≡ is_present es (codes "oneOf")
unfolding allowance allowed sort_rows kind_names any_rows
has_one_of es = names_present es one_of_sort ∙ last (is_present es (codes "oneOf"))

has_all_of : (es : List (Entry Tree)) → eqb (bit_and 2097152 (mask_of (presence es))) 2097152
    ≡ is_present es (codes "allOf")
unfolding allowance allowed sort_rows kind_names any_rows
has_all_of es = names_present es all_of_sort ∙ last (is_present es (codes "allOf"))

has_any_of : (es : List (Entry Tree)) → eqb (bit_and 4194304 (mask_of (presence es))) 4194304
    ≡ is_present es (codes "anyOf")
unfolding allowance allowed sort_rows kind_names any_rows
has_any_of es = names_present es any_of_sort ∙ last (is_present es (codes "anyOf"))

has_not : (es : List (Entry Tree)) → eqb (bit_and 8388608 (mask_of (presence es))) 8388608 ≡ is_present es (codes "not")
unfolding allowance allowed sort_rows kind_names any_rows
has_not es = names_present es not_sort ∙ last (is_present es (codes "not"))

-- the sort of the first of four tests that is passed
abbrev pub first_of : Bool → Bool → Bool → Bool → Sort
first_of a b c d = cond a one_of_sort (cond b all_of_sort (cond c any_of_sort (cond d not_sort any_sort)))

-- the sort of the first of the four names, by the four masks
pub first_of_four-masks : (es : List (Entry Tree)) (bits : ℕ) → bits ≡ mask_of (presence es)
    → first_of (eqb (bit_and 1048576 bits) 1048576) (eqb (bit_and 2097152 bits) 2097152)
    (eqb (bit_and 4194304 bits) 4194304) (eqb (bit_and 8388608 bits) 8388608)
    ≡ first_of_four es
unfolding first_of_four
first_of_four-masks es bits is =
    rw (is, has_one_of es, has_all_of es, has_any_of es, has_not es) refl
