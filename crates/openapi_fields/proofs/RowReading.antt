-- What a row of a name reads, given what is read from the member of that name.
use Rattle.std.proofs.Common.{◌≡◌, ℕ, Bool, true, false, ◌&&◌, ◌||◌, cond, List, Option, Some, None, Result, Ok, Err}
use Rattle.std.proofs.Common.{refl, sym, ap, ◌∙◌, true≢false, if◌then◌else◌}
use Rattle.std.proofs.lemmas.Bool.{and_parts}
use Rattle.openapi_node.specs.Place.{named}
use Rattle.openapi_node.specs.Tree.{Tree, null, object, Members, find}
use Rattle.openapi_node.specs.declared.fault.Fault.{Fault}
use Rattle.openapi_tables.specs.Prelude.{Kind, format, list_of, map_of, Mode, required, optional, nullable, listed}
use Rattle.openapi_tables.specs.Prelude.{flagged, styled, formatted, row, final_tables, is_null, conforms, skips_null}
use Rattle.openapi_tables.specs.Prelude.{may_miss, Form, absent, form, default_of, row_sound, mode_fits, refuses_null}
use Rattle.openapi_tables.specs.Prelude.{sound, row_where, is_named, rows_asked, row_weight, RowGives}
use Rattle.openapi_tables.proofs.SortHolds.{null_refused}
use Rattle.openapi_tables.proofs.ByRowLaws.{conforms-found, form-found, conforms-missing, form-missing, row_asks}
use Rattle.openapi_tables.proofs.ByRowLaws.{where_each, asked_sound}
use Rattle.openapi_tables.proofs.WellMade.{final_sound}
use Rattle.openapi_fields.specs.Forms.{optional_form}
use Rattle.openapi_fields.specs.Returned.{Fails, Reads, RowReadAs, MemberReadAs, unless_null}
use Rattle.openapi_fields.proofs.Below.{fails_above}

-- how many values the members that a row takes contain depends only on its name
pub weight_of_name : (n : List ℕ) (m l : Mode) (k j : Kind) (ms : Members) → row_weight (row n m k) ms
    ≡ row_weight (row n l j) ms
unfolding row_weight
weight_of_name n m l k j ms = refl

-- if null conforms under a mode that does not skip it, its form is that of a row without a member
null_kept : (m : Mode) (k : Kind) → mode_fits m k ≡ true → skips_null m ≡ false → conforms final_tables k null ≡ true
    → default_of m k ≡ form final_tables k null
null_kept required k h s e = absurd (true≢false (sym e ∙ null_refused final_tables k h))
null_kept listed k h s e = absurd (true≢false (sym e ∙ null_refused final_tables k (lists k h)))
  where
    lists : (k : Kind) → mode_fits listed k ≡ true → refuses_null k ≡ true
    lists (list_of k) h = refl
    lists (map_of k) h = refl
    lists k h = cc
null_kept m (format ws b) h s e = cc
null_kept m k h s e = cc

slot_kept : (m : Mode) (k : Kind) (u : Tree) → mode_fits m k ≡ true → skips_null m ≡ false
    → conforms final_tables k u ≡ true
    → cond (is_null u) (default_of m k) (form final_tables k u) ≡ form final_tables k u
slot_kept m k null h s e = null_kept m k h s e
slot_kept m k u h s e = refl

-- the row of a name among the rows of an object kind
module _ (o : Kind) (n : List ℕ) (m : Mode) (k : Kind) (ms : Members)
    (at : row_where (is_named n) (rows_asked final_tables o) ≡ Some (row n m k)) where
  fits : mode_fits m k ≡ true
  fits =
      (and_parts (mode_fits m k) (sound final_tables k) (where_each (λ w. row_sound final_tables w ≡ true) (is_named n)
      (rows_asked final_tables o) (row n m k) (asked_sound final_tables final_sound o) at)).0

  -- if the member is missing and may be missing, the row reads its default
  pub row_default : find n ms ≡ None → may_miss m ≡ true → RowGives final_tables (row n m k) ms (default_of m k)
  row_default none h = (conforms-missing final_tables n m k ms none ∙ h, form-missing final_tables n m k ms none)

  -- if the member exists and is not skipped, what was read from its value is what the row reads
  pub row_found : {X : Type 0} (view : X → Form) (x : X) (u : Tree) → find n ms ≡ Some u
      → (skips_null m && is_null u) ≡ false → cond (is_null u) (default_of m k) (form final_tables k u)
      ≡ form final_tables k u
      → Reads view x k u → RowGives final_tables (row n m k) ms (view x)
  row_found view x u there skip same r = (
    conforms-found final_tables n m k ms u there ∙ (λ j. skip j || r.0 j),
    form-found final_tables n m k ms u
        there ∙ same ∙ r.1,
  )

  module _ {X : Type 0} (view : X → Form) where
    -- the case that null does not count as missing
    module _ (gives : skips_null m ≡ false) where
      -- what was read from the member is what the row reads
      pub member_row : (x : X) → MemberReadAs view (Ok (Some x)) k n (find n ms)
          → RowGives final_tables (row n m k) ms (view x)
      member_row x h = go (find n ms) refl h
        where
          go : (u : Option Tree) → find n ms ≡ u → MemberReadAs view (Ok (Some x)) k n u
              → RowGives final_tables (row n m k) ms (view x)
          go None e r = absurd r
          go (Some u) e r =
              row_found view x u e (ap (λ b. b && is_null u) gives) (slot_kept m k u fits gives r.0) r

      -- an error about the member is an error about the object
      pub member_fails : (f : Fault) → MemberReadAs view (Err f) k n (find n ms) → Fails f o (object ms)
      member_fails f h = go (find n ms) refl h
        where
          go : (u : Option Tree) → find n ms ≡ u → MemberReadAs view (Err f) k n u → Fails f o (object ms)
          go None e r = absurd r
          go (Some u) e r =
              fails_above (named n) f o k (object ms) u
              (row_asks final_tables o n m k ms u at e (ap (λ b. b && is_null u) gives)) r

    -- if no value was read and there is no error, the member is missing
    pub member_missing : MemberReadAs view (Ok None) k n (find n ms) → find n ms ≡ None
    member_missing h = go (find n ms) h
      where
        go : (u : Option Tree) → MemberReadAs view (Ok None) k n u → u ≡ None
        go None r = refl
        go (Some u) r = absurd r

    -- the case that null counts as missing
    module _ (skips : skips_null m ≡ true) (none : default_of m k ≡ absent) where
      misses : may_miss m ≡ true
      misses = may m skips
        where
          may : (m : Mode) → skips_null m ≡ true → may_miss m ≡ true
          may required h = cc
          may optional h = refl
          may nullable h = refl
          may listed h = refl
          may flagged h = refl
          may (styled s) h = refl
          may formatted h = refl

      null_row : (u : Tree) → find n ms ≡ Some u → is_null u ≡ true → RowGives final_tables (row n m k) ms absent
      null_row u e h = (
        conforms-found final_tables n m k ms u e ∙ (λ j. (skips j && h j) || conforms final_tables k u),
        form-found final_tables n m k ms u e ∙ ap (λ b. cond b (default_of m k) (form final_tables k u)) h ∙ none,
      )

      there : (u : Tree) → find n ms ≡ Some u → is_null u ≡ false → (r : Result (Option X) Fault)
          → MemberReadAs view r k n (Some u) → RowReadAs (optional_form view) r o (row n m k) ms
      there u e h (Ok None) r = absurd r
      there u e h (Ok (Some x)) r =
          row_found view x u e ((λ j. skips j && h j)) (ap (λ b. cond b (default_of m k) (form final_tables k u)) h) r
      there u e h (Err f) r =
          fails_above (named n) f o k (object ms) u (row_asks final_tables o n m k ms u at e (λ j. skips j && h j)) r

      gone : RowGives final_tables (row n m k) ms absent → (r : Result (Option X) Fault) → MemberReadAs view r k n None
          → RowReadAs (optional_form view) r o (row n m k) ms
      gone a (Ok None) r = a
      gone a (Ok (Some x)) r = absurd r
      gone a (Err f) r = absurd r

      -- what was read from the member, or no value if it is missing or null, is what the row reads. An error about the
      -- member is an error about the object
      pub present_row : (r : Result (Option X) Fault) → MemberReadAs view r k n (unless_null (find n ms))
          → RowReadAs (optional_form view) r o (row n m k) ms
      present_row r h = go (find n ms) refl h
        where
          some : (u : Tree) → find n ms ≡ Some u → (b : Bool) → is_null u ≡ b
              → MemberReadAs view r k n (if b then None else Some u) → RowReadAs (optional_form view) r o (row n m k) ms
          some u e true q g = gone (null_row u e q) r g
          some u e false q g = there u e q r g

          go : (u : Option Tree) → find n ms ≡ u → MemberReadAs view r k n (unless_null u)
              → RowReadAs (optional_form view) r o (row n m k) ms
          go None e g =
              gone (conforms-missing final_tables n m k ms e ∙ misses, form-missing final_tables n m k ms e ∙ none) r g
          go (Some u) e g = some u e (is_null u) refl g
