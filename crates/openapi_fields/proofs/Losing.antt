-- What a writer returned for a part of a value, as seen from the whole value.
use Rattle.std.proofs.Common.{◌≡◌, ℕ, suc, arith, Bool, true, false, List, [], ◌∷◌, ◌++◌, map, Some, Result, Ok, Err}
use Rattle.std.proofs.Common.{OnOk, IfErr, refl, sym, ap, ◌∙◌, subst, inl, inr}
use Rattle.std.specs.Prelude.{◌↔◌, ◌==◌}
use Rattle.std.proofs.Common.{length}
use Rattle.std.proofs.Math.Dec.{eqb-suc-zero}
use Rattle.openapi_map.specs.Entries.{Entries}
use Rattle.openapi_node.specs.Fault.{IsMemory, GoesUp, place_of, step_of}
use Rattle.openapi_node.specs.Place.{Step, Place, named}
use Rattle.openapi_node.specs.Tree.{Tree}
use Rattle.openapi_node.specs.declared.fault.Cause.{Cause}
use Rattle.openapi_node.specs.declared.fault.Cause.TheVariants.{Missing, MissingEither, WrongKind, NotAllowed}
use Rattle.openapi_node.specs.declared.fault.Cause.TheVariants.{UnknownVariant, NameNotWritable, NotWhole, Memory}
use Rattle.openapi_node.specs.declared.fault.Fault.{Fault}
use Rattle.openapi_tables.specs.Prelude.{Kind, any_text, Mode, optional, listed, row, final_tables, Form, absent}
use Rattle.openapi_tables.specs.Prelude.{sequence, named as named_form, forms_of, no_forms, more, no_named, under}
use Rattle.openapi_tables.specs.Prelude.{f_named, print, is_silent, unwritable, is_absent, each, Among, is_named, Slot}
use Rattle.openapi_tables.specs.Prelude.{slot_where, before, through, slots_lost, IsWritten}
use Rattle.openapi_tables.specs.Form.{f_sequence}
use Rattle.openapi_tables.specs.Print.{bare}
use Rattle.openapi_tables.specs.Unwritable.{bare_lost}
use Rattle.openapi_tables.proofs.SlotWriting.{row_put, row_loses}
use Rattle.openapi_fields.specs.Forms.{map_form}
use Rattle.openapi_fields.specs.Returned.{NotWritableBy, NotWritable, NotWritableBelow}
use Rattle.openapi_fields.proofs.Below.{no_steps}

-- a failed allocation is an error of writing anything
pub memory_loses : (f : Fault) (ps : List Place) → IsMemory f → NotWritable f ps
memory_loses f ps m = subst (λ c. NotWritableBy c (place_of f) ps) (sym m.cause) (ap (map step_of) m.place)

-- an error of writing the value below is, as seen from above, an error of writing the value above
module _ (s : Step) (e f : Fault) (ps qs : List Place) (up : GoesUp s e f) (leads : (q : Place) → Among q ps
    → Among (s ∷ q) qs) where
  moved : (c : Cause) → e.cause ≡ c → place_of f ≡ s ∷ place_of e → NotWritableBy c (place_of e) ps
      → NotWritableBy c (place_of f) qs
  moved (Missing n) q p h = h
  moved (MissingEither n m) q p h = h
  moved (WrongKind w) q p h = h
  moved NotAllowed q p h = h
  moved UnknownVariant q p h = h
  moved NameNotWritable q p h = subst (λ r. Among r qs) (sym p) (leads (place_of e) h)
  moved NotWhole q p h = h
  moved Memory q p h = ap (map step_of) (up.keeps_memory (record { cause = q; place = no_steps e.place.items h })).place

  goes_up : NotWritable e ps → NotWritable f qs
  goes_up h =
      elim up.otherwise [
        | inl m ↦ memory_loses f qs m
        | inr q ↦ subst (λ c. NotWritableBy c (place_of f) qs) (sym q.0) (moved e.cause refl q.1 h)
      ]

-- if each unwritable location below is, one step further, one of the value above, an error of writing the value below is, as
-- seen from above, one of writing the value above
pub loses_above : (s : Step) (f : Fault) (ps qs : List Place) → ((q : Place) → Among q ps → Among (s ∷ q) qs)
    → NotWritableBelow s f ps → NotWritable f qs
loses_above s f ps qs leads h = goes_up s h.0 f ps qs h.1 leads h.2

-- an optional value that is not absent is written
pub not_silent : (f : Form) → is_absent f ≡ false → is_silent optional f ≡ false
not_silent absent h = cc
not_silent f h = refl

-- the value of a row, written after the members of the slots before
module _ (ss : List Slot) (n : List ℕ) (m : Mode) (k : Kind) (f : Form)
    (at : slot_where (is_named n) ss ≡ Some (row n m k, f)) (out : Entries Tree)
    (done : IsWritten final_tables (before (is_named n) ss) out) where
  -- if it is appended and nothing in it is unwritable, the slots up to and including the row are written
  pub value_put : {A : Type 0} (r : Result A Fault) (new : Entries Tree) → is_silent m f ≡ false
      → OnOk r (new ≡ out ++ (n, print final_tables k f) ∷ []) → OnOk r (unwritable final_tables k f ≡ [])
      → OnOk r (IsWritten final_tables (through (is_named n) ss) new)
  value_put (Ok x) new loud e l = row_put final_tables ss n m k f at out done new loud l e
  value_put (Err g) new loud e l = tt

  -- an error of writing it is an error of writing the object
  pub value_loses : {A : Type 0} (r : Result A Fault) → IfErr r (λ g. NotWritableBelow (named n) g (unwritable final_tables
      k f))
      → IfErr r (λ g. NotWritable g (slots_lost final_tables ss))
  value_loses (Ok x) h = tt
  value_loses (Err g) h =
      loses_above (named n) g (unwritable final_tables k f) (slots_lost final_tables ss)
      (row_loses final_tables ss n m k f at out done) h

  -- the same for a node that is what the form is written as, such as null
  pub null_put : {A : Type 0} (r : Result A Fault) (new : Entries Tree) (t : Tree) → is_silent m f ≡ false
      → t ≡ print final_tables k f → unwritable final_tables k f ≡ [] → OnOk r (new ≡ out ++ (n, t) ∷ [])
      → OnOk r (IsWritten final_tables (through (is_named n) ss) new)
  null_put (Ok x) new t loud p l e =
      row_put final_tables ss n m k f at out done new loud l (e ∙ ap (λ u. out ++ (n, u) ∷ []) p)
  null_put (Err g) new t loud p l e = tt

-- an allocation that failed here is an error of writing any value one step below, as seen from here
pub below : {A : Type 0} (r : Result A Fault) (s : Step) (ps : List Place) → IfErr r IsMemory
    → IfErr r (λ f. NotWritableBelow s f ps)
below (Ok x) s ps h = tt
below (Err f) s ps m = (f, record { keeps_memory = λ h. h; otherwise = inl m }, memory_loses f ps m)

-- nothing in an empty list or map is unwritable
empty_list : (k : Kind) → bare_lost final_tables (f_sequence []) k ≡ []
empty_list any_text = refl
empty_list k = refl

empty_map : (k : Kind) → bare_lost final_tables (f_named []) k ≡ []
empty_map any_text = refl
empty_map k = refl

empty_lost : (k : Kind) (f : Form) → is_silent listed f ≡ true → unwritable final_tables k f ≡ []
empty_lost k (sequence no_forms) h = empty_list (bare k)
empty_lost k (named_form no_named) h = empty_map (bare k)
empty_lost k (sequence (more f fs)) h = cc
empty_lost k (named_form (under n f es)) h = cc
empty_lost k f h = cc

-- nothing in a form that a row leaves out is unwritable
pub silent_lost : (m : Mode) (k : Kind) (f : Form) → is_silent m f ≡ true → unwritable final_tables k f ≡ []
silent_lost listed k f h = empty_lost k f h
silent_lost m k absent h = cc
silent_lost m k f h = cc

-- a list is left out under the mode `listed` if and only if it has no elements
pub none_listed : {X : Type 0} (view : X → Form) (xs : List X)
    → (length xs == 0) ≡ is_silent listed (sequence (forms_of (each view xs)))
none_listed view [] = refl
none_listed view (x ∷ xs) = eqb-suc-zero (length xs)

-- whether a map has no entries is whether it is left out under the mode `listed`
pub none_mapped : {X : Type 0} (view : X → Form) (b : Bool) (es : Entries X) → (b ≡ true) ↔ (length es ≡ 0)
    → b ≡ is_silent listed (map_form view es)
none_mapped view b [] h = h.1 refl
none_mapped view true (e ∷ es) h = let no : suc (length es) ≡ 0 = h.0 refl in absurd (omega (arith, no))
none_mapped view false (e ∷ es) h = refl
