-- Masks of names: the bits of one number that hold which names of a list are present; and the sort of a schema by the
-- names that are present.
use Rattle.std.specs.Prelude.{◌≡◌, ℕ, ◌+◌, ◌*◌, Bool, List, [], ◌∷◌, Option, Some, None, cond, ◌||◌, codes}
use Rattle.openapi_node.specs.Tree.{Tree, null, text}
use Rattle.openapi_tables.specs.Lists.{each, every, has}
use Rattle.openapi_tables.specs.Tree.{Entry}
use Rattle.openapi_tables.specs.Members.{
  Sort,
  string_sort,
  number_sort,
  integer_sort,
  boolean_sort,
  object_sort,
  array_sort,
  one_of_sort,
  all_of_sort,
  any_of_sort,
  not_sort,
  any_sort,
  kind_names,
  allowed,
  held,
  is_null,
  is_present,
  possible_sort,
}
use Rattle.openapi_schema_types.specs.declared.sort.Sort as declared
use Rattle.openapi_schema_types.specs.declared.sort.Sort.TheVariants as v

-- the number whose bit `i`, from the lowest, is the flag at index `i`
abbrev pub mask_of : List Bool → ℕ
mask_of [] = 0
mask_of (b ∷ bs) = mask_of bs * 2 + cond b 1 0

-- for each kind name, whether it is present among members
unfoldable pub presence : List (Entry Tree) → List Bool
presence es = each (is_present es) kind_names

-- for each kind name, whether a sort allows it
unfoldable pub allowance : Sort → List Bool
allowance s = each (has (allowed s)) kind_names

-- the value of `type` is a given text; at `None` it is null or missing
abbrev pub IsType : Option (List ℕ) → List (Entry Tree) → Type 0
IsType None es = held (codes "type") es ≡ null
IsType (Some s) es = held (codes "type") es ≡ text s

-- the sort of the first of `oneOf`, `allOf`, `anyOf` and `not` that is present; `any_sort` if none is
unfoldable pub first_of_four : List (Entry Tree) → Sort
first_of_four es = possible_sort null es

-- the sort that `type` and the present names give: the possible one if it allows all of these names, else `any_sort`.
-- of the other values only whether they are null matters
unfoldable pub sort_by_names : List (Entry Tree) → Sort
sort_by_names es =
    let s = possible_sort (held (codes "type") es) es in
    cond (every (λ n. has (allowed s) n || is_null (held n es)) kind_names) s any_sort

-- the sort in the definitions of the field tables, for a value of the Rust type `Sort`
abbrev pub sort_in : declared.Sort → Sort
sort_in v.String = string_sort
sort_in v.Number = number_sort
sort_in v.Integer = integer_sort
sort_in v.Boolean = boolean_sort
sort_in v.Object = object_sort
sort_in v.Array = array_sort
sort_in v.OneOf = one_of_sort
sort_in v.AllOf = all_of_sort
sort_in v.AnyOf = any_of_sort
sort_in v.Not = not_sort
sort_in v.Any = any_sort
