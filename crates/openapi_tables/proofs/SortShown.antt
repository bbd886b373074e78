-- Which sort members have, by what shows it: their type, or which of `oneOf`, `allOf`, `anyOf` and `not` is present.
use Rattle.std.proofs.Common.{ℕ, Bool, true, false, not, cond, List, [], ◌≡◌, refl, ap, ◌∙◌, codes}
use Rattle.openapi_tables.specs.Prelude.{has, Entry, is_null, held, is_present, meets, sort_of, is_any, any_rows}
use Rattle.openapi_tables.specs.Prelude.{Sort, string_sort, number_sort, integer_sort, boolean_sort, object_sort}
use Rattle.openapi_tables.specs.Prelude.{array_sort, one_of_sort, all_of_sort, any_of_sort, not_sort, any_sort}
use Rattle.openapi_tables.specs.Prelude.{kind_names, allowed, possible_sort, array_rows, boolean_rows, object_rows}
use Rattle.openapi_tables.specs.Prelude.{sort_rows, string_rows}
use Rattle.openapi_node.specs.Tree.{Tree, null, text}

-- members that meet their possible sort have that sort
pub sort_from : (l : List (Entry Tree)) (s : Sort) → possible_sort (held (codes "type") l) l ≡ s → meets s l ≡ true
    → sort_of l ≡ s
sort_from l s h g =
    ap (λ c. cond (meets c l) c any_sort) h ∙ ap (λ b. cond b s any_sort) g

-- the kind names that a sort does not allow are absent
abbrev pub Others : Sort → List (Entry Tree) → Type 0
Others s es = (n : List ℕ) → has kind_names n ≡ true → has (allowed s) n ≡ false → held n es ≡ null

-- the text of `type` that names a sort, or the empty text if there is none
abbrev pub type_word : Sort → List ℕ
type_word string_sort = codes "string"
type_word number_sort = codes "number"
type_word integer_sort = codes "integer"
type_word boolean_sort = codes "boolean"
type_word object_sort = codes "object"
type_word array_sort = codes "array"
type_word _ = []

-- what shows a sort: its text at `type`, or that the member of its name is present
abbrev pub Shows : Sort → List (Entry Tree) → Type 0
Shows one_of_sort es = is_present es (codes "oneOf") ≡ true
Shows all_of_sort es = is_present es (codes "allOf") ≡ true
Shows any_of_sort es = is_present es (codes "anyOf") ≡ true
Shows not_sort es = is_present es (codes "not") ≡ true
Shows s es = held (codes "type") es ≡ text (type_word s)

-- the sort of the first of `oneOf`, `allOf`, `anyOf` and `not` that is present, or `any_sort`
abbrev pub chain : Bool → Bool → Bool → Bool → Sort
chain a b c d = cond a one_of_sort (cond b all_of_sort (cond c any_of_sort (cond d not_sort any_sort)))

-- without a type, the possible sort is that of the first of the four names that is present
untyped : (es : List (Entry Tree)) → held (codes "type") es ≡ null → possible_sort (held (codes "type") es) es
    ≡ chain (is_present es (codes "oneOf")) (is_present es (codes "allOf")) (is_present es (codes "anyOf"))
    (is_present es (codes "not"))
untyped es h = ap (λ t. possible_sort t es) h

-- a name whose value is null is not present
gone : (n : List ℕ) (es : List (Entry Tree)) → held n es ≡ null → is_present es n ≡ false
gone n es h = ap (λ t. not (is_null t)) h

-- if members show a sort other than `any_sort`, and have no kind name that it does not allow, it is their possible sort
pub possible_shown : (s : Sort) (es : List (Entry Tree)) → Shows s es → is_any s ≡ false → Others s es
    → possible_sort (held (codes "type") es) es ≡ s
unfolding any_rows sort_rows string_rows object_rows array_rows boolean_rows kind_names allowed
possible_shown one_of_sort es h a n =
    untyped es (n (codes "type") refl refl)
    ∙ (λ i. chain (h i) (is_present es (codes "allOf")) (is_present es (codes "anyOf")) (is_present es (codes "not")))
possible_shown all_of_sort es h a n =
    untyped es (n (codes "type") refl refl)
    ∙ (λ i. chain (gone (codes "oneOf") es (n (codes "oneOf") refl refl) i) (h i) (is_present es (codes "anyOf"))
    (is_present es (codes "not")))
possible_shown any_of_sort es h a n =
    untyped es (n (codes "type") refl refl)
    ∙ (λ i. chain (gone (codes "oneOf") es (n (codes "oneOf") refl refl) i)
    (gone (codes "allOf") es (n (codes "allOf") refl refl) i) (h i) (is_present es (codes "not")))
possible_shown not_sort es h a n =
    untyped es (n (codes "type") refl refl)
    ∙ (λ i. chain (gone (codes "oneOf") es (n (codes "oneOf") refl refl) i)
    (gone (codes "allOf") es (n (codes "allOf") refl refl) i) (gone (codes "anyOf") es (n (codes "anyOf") refl refl) i)
    (h i))
possible_shown any_sort es h a n = cc
possible_shown s es h a n = ap (λ t. possible_sort t es) h
