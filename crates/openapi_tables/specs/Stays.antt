-- When a form stays: no schema of `any_sort` in it is written as a schema of another sort. By the law `FirstValue`, a
-- form that was read is read again from what it is written as, if and only if it stays.
use Rattle.std.specs.Prelude.{ℕ, Bool, true, false, ◌&&◌, cond, List, [], ◌∷◌}
use Rattle.openapi_tables.specs.Lists.{each, every, same_text}
use Rattle.openapi_tables.specs.Kind.{Kind, list_of, map_of, ref_to, Row, row, either, class, constant, Tables}
use Rattle.openapi_tables.specs.Members.{Sort, any_sort, sort_of, Choice, sort, rows_of}
use Rattle.openapi_tables.specs.Form.{Form, deciding, fields, forms_of, Face, f_item, f_sequence, f_named, f_deciding}
use Rattle.openapi_tables.specs.Form.{f_fields, Shown, of_form}
use Rattle.openapi_tables.specs.Print.{print, bare, members_in}

-- a form, with whether it stays under each kind
abbrev pub Checks : Type 0
Checks = Shown (Kind → Bool)

-- whether a sort is `any_sort`
abbrev pub is_any : Sort → Bool
is_any any_sort = true
is_any _ = false

-- whether a schema of `any_sort` is written as a schema of `any_sort`. For other choices this is true
abbrev pub choice_stays : (T : Tables) → Kind → Choice → List Form → Bool
choice_stays T k (sort any_sort) fs = is_any (sort_of (members_in (print T k (fields (sort any_sort) (forms_of fs)))))
choice_stays T k _ fs = true

-- whether the value at the one of two names that was read stays
abbrev pub either_stays : List ℕ → Kind → Kind → Checks → Form → Bool
either_stays a j k p (deciding n f) = p.answer (cond (same_text a n) j k)
either_stays a j k p _ = true

-- whether the slot of a row stays
abbrev pub row_stays : Row → Checks → Bool
row_stays (row n m k) p = p.answer k
row_stays (either a j b k) p = either_stays a j k p p.form
row_stays (class c k) p = p.answer (map_of k)
row_stays (constant n v) p = true

-- whether the slots of rows stay
abbrev pub rows_stay : List Row → List Checks → Bool
rows_stay [] ps = true
rows_stay (w ∷ ws) [] = true
rows_stay (w ∷ ws) (p ∷ ps) = row_stays w p && rows_stay ws ps

-- whether a root stays, under a kind without alternatives (see `bare`)
abbrev pub bare_stays : (T : Tables) → Face Checks → Kind → Bool
bare_stays T (f_item p) (ref_to k) = p.answer k
bare_stays T (f_sequence ps) (list_of k) = every (λ p. p.answer k) ps
bare_stays T (f_named es) (map_of k) = every (λ e. e.value.answer k) es
bare_stays T (f_fields c ps) k = choice_stays T k c (each (λ p. p.form) ps) && rows_stay (rows_of T k c) ps
bare_stays T _ k = true

-- whether a root stays. A slot of two names does if the form that it contains does
abbrev pub face_stays : (T : Tables) → Face Checks → Kind → Bool
face_stays T (f_deciding n p) k = p.answer k
face_stays T p k = bare_stays T p (bare k)

-- whether a form stays under a kind
abbrev pub stays : (T : Tables) → Kind → Form → Bool
stays T k f = of_form (face_stays T) f k
