-- The operations that are present in a path item: the borrows of them, and their forms.
use Rattle.std.proofs.Common.{◌≡◌, ℕ, List, [], ◌∷◌, Option, Some, None, drop, take, refl, sym, ap, ◌∙◌}
use Rattle.std.specs.Borrow.{Bor}
use Rattle.std.specs.Option.{option_copied}
use Rattle.openapi_tables.specs.Prelude.{Form, fields, forms_of, each, join, plain}
use Rattle.openapi_tables.specs.Operations.{methods, present_ops, those_there}
use Rattle.openapi_fields.specs.Forms.{optional_form}
use Rattle.openapi_documents.specs.OperationForms.{operation_form, path_item_form}
use Rattle.openapi_documents.specs.Present.{forms_under, lent, operations_in, present_operations, those_held}
use Rattle.openapi_documents.specs.declared.operation.Operation.{Operation}
use Rattle.openapi_documents.specs.declared.path_item.PathItem.{PathItem}
use Rattle.openapi_documents.specs.Fields.{path_item_fields}
use Rattle.openapi_documents.proofs.Opened.{path_item_rows-out}

-- the values that the present borrows refer to are the values that are present
pub lent_held : {X : Type 0} (ns : List (List ℕ)) (os : List (Option (Bor X)))
    → lent (those_held ns os) ≡ those_held ns (each option_copied os)
lent_held [] os = refl
lent_held (n ∷ ns) [] = refl
lent_held (n ∷ ns) (None ∷ os) = lent_held ns os
lent_held (n ∷ ns) (Some x ∷ os) = ap (λ l. (n, x.now) ∷ l) (lent_held ns os)

-- there is a value, or none, for each name
abbrev Fits : {X : Type 0} → List (List ℕ) → List X → Type 0
Fits [] os = Unit {0}
Fits (n ∷ ns) [] = ⊥
Fits (n ∷ ns) (o ∷ os) = Fits ns os

-- the forms of the operations that are present are the forms that are present
forms_held : (ns : List (List ℕ)) (os : List (Option Operation)) (rest : List Form) → Fits ns os
    → forms_under operation_form (those_held ns os)
    ≡ those_there ns (forms_of (join (each (optional_form operation_form) os) rest))
forms_held [] os rest f = refl
forms_held (n ∷ ns) [] rest f = absurd f
forms_held (n ∷ ns) (None ∷ os) rest f = forms_held ns os rest f
forms_held (n ∷ ns) (Some x ∷ os) rest f =
    ap (λ l. record { name = n; value = operation_form x } ∷ l) (forms_held ns os rest f)

-- the operations of a path item have the forms of the operations that its form holds
pub present_forms : (x : PathItem) → forms_under operation_form (present_operations x) ≡ present_ops (path_item_form x)
present_forms x =
    forms_held methods (operations_in x) (take 3 (drop 10 (path_item_fields x))) tt
    ∙ sym (ap (λ fs. present_ops (fields plain (forms_of fs))) (path_item_rows-out x))
