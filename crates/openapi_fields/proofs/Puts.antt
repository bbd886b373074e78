-- Members that are appended, given what was written for their values.
use Rattle.std.proofs.Common.{◌≡◌, ℕ, true, cond, List, [], ◌∷◌, ◌++◌, Result, Ok, Err, OnOk, IfErr, Some, None, refl}
use Rattle.std.proofs.Common.{sym, ap, ◌∙◌, subst}
use Rattle.openapi_map.specs.Entries.{Entries}
use Rattle.openapi_node.specs.Fault.{IsMemory, GoesUp}
use Rattle.openapi_node.specs.Place.{named}
use Rattle.openapi_node.specs.Tree.{Tree}
use Rattle.openapi_node.specs.declared.fault.Fault.{Fault}
use Rattle.openapi_node.specs.declared.node.Node.{Node}
use Rattle.openapi_tables.specs.Prelude.{Kind, Mode, either, required, row, same_text, final_tables, Form, deciding}
use Rattle.openapi_tables.specs.Prelude.{is_named, unwritable, Slot, slot_where, before, through, slots_lost, IsWritten}
use Rattle.openapi_tables.proofs.ListLaws.{same_text-refl}
use Rattle.openapi_tables.proofs.SlotWriting.{none_written, row_put, row_silent}
use Rattle.openapi_fields.specs.Forms.{is_either}
use Rattle.openapi_fields.specs.Returned.{NotWritable, WrittenAs}
use Rattle.openapi_fields.proofs.Deciding.{decided_loses, decided_put}
use Rattle.openapi_fields.proofs.Losing.{below, silent_lost, value_loses}
use Rattle.openapi_fields.specs.Writing.{MemberWrittenAs, PutAs}

-- what was written is appended, or an allocation failed
pub put_as : (k : Kind) (f : Form) (n : List ℕ) (t : Node) (r : Result (Unit {0}) Fault) (old new : Entries Tree)
    → WrittenAs k f (Ok t) → OnOk r (new ≡ old ++ (n, t) ∷ []) → IfErr r IsMemory → PutAs k f n r old new
put_as k f n t (Ok u) old new h e m = (e ∙ ap (λ v. old ++ (n, v) ∷ []) h.0, h.1)
put_as k f n t (Err g) old new h e m = below {A = Unit {0}} (Err g) (named n) (unwritable final_tables k f) m

-- the only member of an object
module _ (n : List ℕ) (k : Kind) (f : Form) where
  abbrev only : Slot
  only = (row n required k, f)

  here : slot_where (is_named n) (only ∷ []) ≡ Some only
  here = ap (λ b. cond b (Some only) None) (same_text-refl n)

  nothing_before : before (is_named n) (only ∷ []) ≡ []
  nothing_before = ap (λ b. cond b [] (only ∷ [])) (same_text-refl n)

  nothing_behind : through (is_named n) (only ∷ []) ≡ only ∷ []
  nothing_behind = ap (λ b. only ∷ cond b [] []) (same_text-refl n)

  started : (out : Entries Tree) → out ≡ [] → IsWritten final_tables (before (is_named n) (only ∷ [])) out
  started out e =
      subst (λ ss. IsWritten final_tables ss out) (sym nothing_before) (none_written final_tables out e)

  -- if it is appended to an empty object, the one slot is written
  pub only_written : (out new : Entries Tree) → out ≡ [] → PutAs k f n (Ok tt) out new
      → IsWritten final_tables (only ∷ []) new
  only_written out new e h =
      subst (λ ss. IsWritten final_tables ss new) nothing_behind
      (row_put final_tables (only ∷ []) n required k f here out (started out e) new refl h.1 h.0)

  -- an error of writing it is an error of writing the object
  pub only_lost : (g : Fault) (out new : Entries Tree) → out ≡ [] → PutAs k f n (Err g) out new
      → NotWritable g (slots_lost final_tables (only ∷ []))
  only_lost g out new e h =
      value_loses (only ∷ []) n required k f here out (started out e) {A = Unit {0}} (Err g) h

-- the member of a row, if one was written
module _ (ss : List Slot) (n : List ℕ) (m : Mode) (k : Kind) (f : Form)
    (at : slot_where (is_named n) ss ≡ Some (row n m k, f)) (out : Entries Tree)
    (done : IsWritten final_tables (before (is_named n) ss) out) where
  -- if one was written and is appended, the slots up to and including the row are written
  pub row_put_as : (r : Result (Unit {0}) Fault) (new : Entries Tree) (t : Node) → MemberWrittenAs m k f (Ok (Some t))
      → OnOk r (new ≡ out ++ (n, t) ∷ []) → OnOk r (IsWritten final_tables (through (is_named n) ss) new)
  row_put_as (Ok u) new t g e =
      row_put final_tables ss n m k f at out done new g.0 g.2 (e ∙ ap (λ v. out ++ (n, v) ∷ []) g.1)
  row_put_as (Err h) new t g e = tt

  -- if none was written, the slots up to and including the row are written without one
  pub row_left_out : MemberWrittenAs m k f (Ok None) → IsWritten final_tables (through (is_named n) ss) out
  row_left_out g = row_silent final_tables ss n m k f at out done g (silent_lost m k f g)

  -- an error of writing its value is an error of writing the object
  pub row_lost_below : (e g : Fault) → MemberWrittenAs m k f (Err e) → GoesUp (named n) e g
      → NotWritable g (slots_lost final_tables ss)
  row_lost_below e g h up = value_loses ss n m k f at out done {A = Unit {0}} (Err g) (e, up, h)

-- the member of the name that decides, which is one of two
module _ (ss : List Slot) (a : List ℕ) (j : Kind) (b : List ℕ) (k : Kind) (n : List ℕ) (f : Form)
    (at : slot_where (is_named a) ss ≡ Some (either a j b k, deciding n f)) (out : Entries Tree)
    (done : IsWritten final_tables (before (is_named a) ss) out) (of_two : is_either a b n ≡ true) where
  -- if it is appended, the slots up to and including the row are written
  pub decided_as : (r : Result (Unit {0}) Fault) (new : Entries Tree)
      → PutAs (cond (same_text a n) j k) f n r out new → OnOk r (IsWritten final_tables (through (is_named a) ss) new)
  decided_as (Ok u) new h =
      decided_put ss a j b k n f at out done of_two (cond (same_text a n) j k) refl {A = Unit {0}} (Ok u) new h.0 h.1
  decided_as (Err g) new h = tt

  -- an error of writing it is an error of writing the object
  pub decided_lost : (r : Result (Unit {0}) Fault) (new : Entries Tree)
      → PutAs (cond (same_text a n) j k) f n r out new → IfErr r (λ g. NotWritable g (slots_lost final_tables ss))
  decided_lost (Ok u) new h = tt
  decided_lost (Err g) new h =
      decided_loses ss a j b k n f at out done of_two (cond (same_text a n) j k) refl {A = Unit {0}} (Err g) h
