-- The row of the status codes, given what is read from its entries one after another.
use Rattle.std.proofs.Common.{◌≡◌, ℕ, ◌+◌, Bool, true, false, cond, ◌&&◌, List, [], ◌∷◌, ◌++◌, take, slice_get, Some, Result, Ok, Err, refl, sym, ap, ◌∙◌, subst, inl, inr, ⊎_elim, ◌⊎◌, option_map}
use Rattle.std.specs.Result.{result_ok}
use Rattle.indexmap.specs.IndexMap.{insert_entry}
use Rattle.openapi_map.specs.Entries.{Entries}
use Rattle.openapi_node.specs.Fault.{IsMemory}
use Rattle.openapi_node.specs.Place.{named}
use Rattle.openapi_node.specs.Tree.{Tree, object, members_of}
use Rattle.openapi_node.specs.declared.fault.Fault.{Fault}
use Rattle.openapi_tables.specs.Prelude.{Kind, status_names, class, in_class, is_code, code_of, each, every}
use Rattle.openapi_tables.specs.Prelude.{final_tables, of_members, conforms, Form, Key, Pair, name, coded, named as named_form}
use Rattle.openapi_tables.specs.Prelude.{named_of, form, root_form, key_in, code_key, pairs_as, gather, put, put_all, Among}
use Rattle.openapi_tables.specs.Prelude.{is_class, row_where, rows_asked, row_form, pairs_of}
use Rattle.openapi_values.specs.StatusCode.{code_in}
use Rattle.openapi_values.specs.declared.status_code.StatusCode.{StatusCode}
use Rattle.openapi_fields.specs.Entries.{chosen}
use Rattle.openapi_fields.specs.Returned.{FailsBelow, RowReadAs}
use Rattle.openapi_fields.proofs.Below.{memory_fails, fails_above}
use Rattle.openapi_fields.proofs.Chosen.{next_same}
use Rattle.openapi_fields.proofs.Classed.{class_asks, class_conforms, class_members}
use Rattle.openapi_responses.specs.Codes.{Coded, coded_pairs, coded_form}
use Rattle.openapi_responses.proofs.CodeKeys.{same_status, coded-insert}

-- the entries whose names are status codes
abbrev pub statuses : {X : Type 0} → Entries X → Entries X
statuses es = chosen (in_class status_names) es

-- the key of a name, as that of a status code if it is one
abbrev pub as_code : Key → Key
as_code (name n) = key_in status_names n
as_code (coded c) = coded c

-- the forms that a function reads from entries, each under the key of its name
abbrev pub recoded : (Tree → Form) → Entries Tree → List (Pair Form)
recoded f es = each (λ p. record { key = as_code p.key; value = p.value }) (pairs_of f es)

-- the map into which these are inserted one after another
abbrev pub gathered : (Tree → Form) → Entries Tree → List (Pair Form)
gathered f es = gather status_names (recoded f es)

-- one more entry is inserted last
put_last : (f : Tree → Form) (m : List (Pair Form)) (es : Entries Tree) (e : List ℕ × Tree)
    → put_all m (recoded f (es ++ e ∷ [])) ≡ put (key_in status_names e.0) (f e.1) (put_all m (recoded f es))
put_last f m [] e = refl
put_last f m (d ∷ es) e = put_last f (put (key_in status_names d.0) (f d.1) m) es e

-- a name that is not read as a status code is not in the class of status codes
pub no_status : {E : Type 0} (n : List ℕ) (r : Result StatusCode E) → ((s : StatusCode) → r ≡ Ok s → ⊥)
    → option_map code_in (result_ok r) ≡ code_of n → in_class status_names n ≡ false
no_status n (Ok s) h e = absurd (h s refl)
no_status n (Err x) h e = sym (ap is_code e)

-- the next of the members, whose name is a status code
module _ (ms : Entries Tree) (i : ℕ) (n : List ℕ) (t : Tree) (at : slice_get ms i ≡ Some (n, t)) (s : StatusCode)
    (is : code_of n ≡ Some (code_in s)) where
  -- the class of the status codes takes its name
  pub next_is : in_class status_names n ≡ true
  next_is = ap is_code is

  -- if what was read from it is inserted under its code, the map holds what is read up to and including it
  pub next_gathered : {X : Type 0} (view : X → Form) (k : Kind) (vs new : List (StatusCode × X)) (x : X)
      → gathered (form final_tables k) (statuses (take i ms)) ≡ coded_pairs view vs → form final_tables k t ≡ view x
      → new ≡ insert_entry same_status vs s x
      → gathered (form final_tables k) (statuses (take (i + 1) ms)) ≡ coded_pairs view new
  next_gathered view k vs new x h e f =
      let done = statuses (take i ms) in
      let g = form final_tables k in
      let next : pairs_of g (statuses (take (i + 1) ms)) ≡ pairs_of g (done ++ (n, t) ∷ []) =
      next_same (in_class status_names) ms i n t at next_is g k done (done ++ (n, t) ∷ []) t refl refl refl in
      ap (λ l. put_all [] (each (λ (p : Pair Form). record { key = as_code p.key; value = p.value }) l)) next
      ∙ put_last g [] done (n, t)
      ∙ (λ j. put (code_key n (is j)) (e j) (h j))
      ∙ sym (ap (coded_pairs view) f ∙ coded-insert view vs s x)

-- the members that are status codes, as the definitions see them
module _ (k : Kind) where
  all_forms : (es : Entries Tree) → pairs_as (key_in status_names) k (of_members (root_form final_tables) (members_of es))
      ≡ recoded (form final_tables k) es
  all_forms [] = refl
  all_forms (e ∷ es) = ap (λ l. record { key = key_in status_names e.0; value = form final_tables k e.1 } ∷ l)
      (all_forms es)

  -- what was read from the entries, or an error of reading one of them
  abbrev pub CodesReadAs : {X : Type 0} → (X → Form) → Result (Coded X) Fault → Entries Tree → Type 0
  CodesReadAs view (Ok m) es =
      (every (λ (e : List ℕ × Tree). conforms final_tables k e.1) es ≡ true)
      × (gathered (form final_tables k) es ≡ coded_pairs view m.entries)
  CodesReadAs view (Err f) es = IsMemory f ⊎ ((e : List ℕ × Tree) × Among e es × FailsBelow (named e.0) f k e.1)

  -- what is read for the row
  pub codes_give : {X : Type 0} (view : X → Form) (r : Result (Coded X) Fault) (o : Kind) (ms : Entries Tree)
      → row_where (is_class status_names) (rows_asked final_tables o) ≡ Some (class status_names k)
      → CodesReadAs view r (statuses ms) → RowReadAs (coded_form view) r o (class status_names k) (members_of ms)
  unfolding row_form
  codes_give view (Ok m) o ms at h = (
    class_conforms status_names k ms ∙ h.0,
    ap (λ l. named_form (named_of (gather status_names (pairs_as (key_in status_names) k l))))
        (class_members status_names k (root_form final_tables) ms)
        ∙ ap (λ l. named_form (named_of (gather status_names l))) (all_forms (statuses ms))
        ∙ ap (λ l. named_form (named_of l)) h.1,
  )
  codes_give view (Err f) o ms at h =
      ⊎_elim (λ m. memory_fails f o (object (members_of ms)) m)
      (λ (x : (e : List ℕ × Tree) × Among e (statuses ms) × FailsBelow (named e.0) f k e.1).
      fails_above (named (x.0).0) f o k (object (members_of ms)) (x.0).1 (class_asks status_names k o ms x.0 at x.1) x.2) h
