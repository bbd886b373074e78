-- The size of a form: the measure that ends the recursion of the writers.
use Rattle.std.proofs.Common.{◌≡◌, ℕ, suc, ◌+◌, ◌<◌, ◌≤◌, List, [], ◌∷◌, get_or, length, arith, ap, slice_get, Some, zero}
use Rattle.openapi_map.specs.Entries.{Entries}
use Rattle.openapi_tables.specs.Prelude.{each, join, Form, absent, leaf, of_code, known, other, unset, reference, an_item}
use Rattle.openapi_tables.specs.Prelude.{sequence, named, deciding, fields, Forms, no_forms, more, Named, no_named, under}
use Rattle.openapi_tables.specs.Prelude.{forms_of, named_of, pairs_of}

abbrev mutual
  -- the number of forms in a form, including itself, that are of a variant that holds other forms
  pub form_size : Form → ℕ
  form_size absent = 0
  form_size (leaf t) = 0
  form_size (of_code c) = 0
  form_size (known s) = 0
  form_size (other s) = 0
  form_size unset = 0
  form_size (reference s) = 0
  form_size (an_item f) = suc (form_size f)
  form_size (sequence fs) = suc (forms_size fs)
  form_size (named es) = suc (named_size es)
  form_size (deciding n f) = suc (form_size f)
  form_size (fields c fs) = suc (forms_size fs)

  pub forms_size : Forms → ℕ
  forms_size no_forms = 0
  forms_size (more f fs) = form_size f + forms_size fs

  pub named_size : Named → ℕ
  named_size no_named = 0
  named_size (under n f es) = form_size f + named_size es

-- the size of the forms of rows: the sum of their sizes
abbrev pub rows_size : List Form → ℕ
rows_size fs = forms_size (forms_of fs)

-- the second of two lists of forms is no larger than both joined
pub rows_size-join : (fs gs : List Form) → rows_size gs ≤ rows_size (join fs gs)
rows_size-join [] gs = omega arith
rows_size-join (f ∷ fs) gs = omega (arith, rows_size-join fs gs)

-- an element of a list is no larger than all elements together
pub element_smaller : {X : Type 0} (view : X → Form) (xs : List X) (i : ℕ) (x : X) → i < length xs → x ≡ get_or xs i x
    → form_size (view x) ≤ rows_size (each view xs)
element_smaller view [] i x h e = absurd (omega (arith, h))
element_smaller view (y ∷ xs) zero x h e = omega (arith, ap (λ z. form_size (view z)) e)
element_smaller view (y ∷ xs) (suc i) x h e =
    let later : i < length xs = omega (arith, h) in
    omega (arith, element_smaller view xs i x later e)

-- a value of a map is no larger than all values together
pub value_smaller : {X : Type 0} (view : X → Form) (es : Entries X) (i : ℕ) (n : List ℕ) (x : X)
    → slice_get es i ≡ Some (n, x) → form_size (view x) ≤ named_size (named_of (pairs_of view es))
value_smaller {X} view [] i n x e = cc
value_smaller {X} view (d ∷ es) zero n x e =
    let same : d ≡ (n, x) = cc in
    omega (arith, ap (λ (z : List ℕ × X). form_size (view z.1)) same)
value_smaller {X} view (d ∷ es) (suc i) n x e = omega (arith, value_smaller view es i n x e)
