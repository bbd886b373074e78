-- A form and its root: the result of a function for a form, given the root.
use Rattle.std.proofs.Common.{List, [], ◌∷◌, ◌≡◌, refl, ap, ◌∙◌}
use Rattle.openapi_tables.specs.Prelude.{each, Form, absent, leaf, of_code, known, other, unset, reference, an_item}
use Rattle.openapi_tables.specs.Prelude.{sequence, named, deciding, fields, Forms, no_forms, more, forms_list, forms_of}
use Rattle.openapi_tables.specs.Prelude.{Named, no_named, under, named_list, named_of, Pair, of_forms, of_named}
use Rattle.openapi_tables.specs.Form.{Face, Shown, of_form}
use Rattle.openapi_tables.proofs.ListLaws.{Each, each_under}

-- an entry of a map or class, with `f` of its value
abbrev pub on_pair : {X Y : Type 0} → (X → Y) → Pair X → Pair Y
on_pair f e = record { key = e.key; value = f e.value }

-- a form and the result of a function for it
abbrev pub show : {X : Type 0} → (Face (Shown X) → X) → Form → Shown X
show g f = record { form = f; answer = of_form g f }

-- forms made from a list are listed as that list
pub forms_list-of : (fs : List Form) → forms_list (forms_of fs) ≡ fs
forms_list-of [] = refl
forms_list-of (f ∷ fs) = ap (λ l. f ∷ l) (forms_list-of fs)

-- entries made from a list are listed as that list
pub named_list-of : (es : List (Pair Form)) → named_list (named_of es) ≡ es
named_list-of [] = refl
named_list-of (e ∷ es) = ap (λ l. e ∷ l) (named_list-of es)

-- forms made from the list of some forms are those forms
pub forms_of-list : (fs : Forms) → forms_of (forms_list fs) ≡ fs
forms_of-list no_forms = refl
forms_of-list (more f fs) = ap (more f) (forms_of-list fs)

-- a map or class made from the list of its entries is itself
pub named_of-list : (es : Named) → named_of (named_list es) ≡ es
named_of-list no_named = refl
named_of-list (under n f es) = ap (under n f) (named_of-list es)

-- the results of a function for forms are those for each form of their list
pub of_forms_lem : {X : Type 0} → (g : Face (Shown X) → X) (fs : Forms) → of_forms g fs ≡ each (show g) (forms_list fs)
of_forms_lem g no_forms = refl
of_forms_lem g (more f fs) = ap (λ l. show g f ∷ l) (of_forms_lem g fs)

-- the results of a function for a map or class are those for each entry of its list
pub of_named_lem : {X : Type 0} → (g : Face (Shown X) → X) (es : Named)
    → of_named g es ≡ each (on_pair (show g)) (named_list es)
of_named_lem g no_named = refl
of_named_lem g (under n f es) = ap (λ l. on_pair (show g) (record { key = n; value = f }) ∷ l) (of_named_lem g es)

-- the results of a function for forms made from a list are those for each form of the list
pub of_forms-of : {X : Type 0} → (g : Face (Shown X) → X) (fs : List Form) → of_forms g (forms_of fs) ≡ each (show g) fs
of_forms-of g fs = of_forms_lem g (forms_of fs) ∙ ap (each (show g)) (forms_list-of fs)

-- the results of a function for a map or class made from a list are those for each entry of the list
pub of_named-of : {X : Type 0} → (g : Face (Shown X) → X) (es : List (Pair Form))
    → of_named g (named_of es) ≡ each (on_pair (show g)) es
of_named-of g es = of_named_lem g (named_of es) ∙ ap (each (on_pair (show g))) (named_list-of es)

-- `P` holds for each form directly inside
abbrev pub Within : (Form → Type 0) → Form → Type 0
Within P absent = Unit {0}
Within P (leaf t) = Unit {0}
Within P (of_code c) = Unit {0}
Within P (known s) = Unit {0}
Within P (other s) = Unit {0}
Within P unset = Unit {0}
Within P (reference s) = Unit {0}
Within P (an_item f) = P f
Within P (sequence fs) = Each P (forms_list fs)
Within P (named es) = Each (λ (e : Pair Form). P e.value) (named_list es)
Within P (deciding n f) = P f
Within P (fields c fs) = Each P (forms_list fs)

-- induction on forms
mutual
  -- `P` holds for every form, if for each form it follows from `P` for the forms directly inside
  pub by_forms : (P : Form → Type 0) → ((f : Form) → Within P f → P f) → (f : Form) → P f
  by_forms P h (an_item f) = h (an_item f) (by_forms P h f)
  by_forms P h (sequence fs) = h (sequence fs) (by_forms_all P h fs)
  by_forms P h (named es) = h (named es) (by_named P h es)
  by_forms P h (deciding n f) = h (deciding n f) (by_forms P h f)
  by_forms P h (fields c fs) = h (fields c fs) (by_forms_all P h fs)
  by_forms P h f = h f tt

  pub by_forms_all : (P : Form → Type 0) → ((f : Form) → Within P f → P f) → (fs : Forms) → Each P (forms_list fs)
  by_forms_all P h no_forms = tt
  by_forms_all P h (more f fs) = (by_forms P h f, by_forms_all P h fs)

  pub by_named : (P : Form → Type 0) → ((f : Form) → Within P f → P f) → (es : Named)
      → Each (λ (e : Pair Form). P e.value) (named_list es)
  by_named P h no_named = tt
  by_named P h (under n f es) = (by_forms P h f, by_named P h es)

-- `P` holds for a form and for each form directly inside
abbrev pub Deep : (Form → Type 0) → Form → Type 0
Deep P f = P f × Within P f

within_deep : (P : Form → Type 0) (f : Form) → Within (Deep P) f → Within P f
within_deep P (an_item f) h = h.0
within_deep P (sequence fs) h = each_under (λ (f : Form) (x : Deep P f). x.0) (forms_list fs) h
within_deep P (named es) h = each_under (λ (e : Pair Form) (x : Deep P e.value). x.0) (named_list es) h
within_deep P (deciding n f) h = h.0
within_deep P (fields c fs) h = each_under (λ (f : Form) (x : Deep P f). x.0) (forms_list fs) h
within_deep P f h = tt

-- induction on forms, where `P` may also be assumed for the forms directly inside those directly inside
pub by_deep : (P : Form → Type 0) → ((f : Form) → Within (Deep P) f → P f) → (f : Form) → P f
by_deep P h f = (by_forms (Deep P) (λ g w. (h g w, within_deep P g w)) f).0
