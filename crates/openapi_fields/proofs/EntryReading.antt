-- Maps that are read entry by entry, and objects, given what was read from their members.
use Rattle.std.proofs.Common.{◌≡◌, ℕ, ◌+◌, true, List, [], ◌∷◌, ◌++◌, take, slice_get, Some, None, Result, Ok, Err, OnOk, IfErr, refl, sym, ap, ◌∙◌, subst, inl}
use Rattle.std.specs.Borrow.{Bor}
use Rattle.openapi_map.specs.Entries.{Entries, get, HasDistinctNames}
use Rattle.openapi_map.specs.declared.OrderedMap.{OrderedMap}
use Rattle.openapi_node.specs.Fault.{IsMemory}
use Rattle.openapi_node.specs.Place.{named}
use Rattle.openapi_node.specs.Tree.{Tree, object, Members, members_of, find}
use Rattle.openapi_node.specs.View.{shown}
use Rattle.openapi_node.specs.declared.fault.Cause.TheVariants.{WrongKind}
use Rattle.openapi_node.specs.declared.fault.Expected.TheVariants as words
use Rattle.openapi_node.specs.declared.fault.Fault.{Fault}
use Rattle.openapi_node.specs.declared.node.Node.{Node}
use Rattle.openapi_node.specs.declared.node.View.{View}
use Rattle.openapi_node.specs.declared.node.View.TheVariants as v
use Rattle.openapi_tables.specs.Prelude.{Kind, map_of, by, TableName, listed, row, Form}
use Rattle.openapi_tables.specs.Prelude.{final_tables, is_named, row_where, rows_asked}
use Rattle.openapi_fields.specs.Forms.{map_form, record_form}
use Rattle.openapi_fields.specs.Returned.{AtStep, Fails, FailsBelow, ReadAs, MemberReadAs, RowReadAs, RowsReadAs, Reads}
use Rattle.openapi_fields.proofs.Below.{not_map, not_object, step_err, step_ok, wrong_here}
use Rattle.openapi_fields.proofs.Mapped.{map_gives}
use Rattle.openapi_fields.proofs.Records.{record_gives}
use Rattle.openapi_fields.proofs.RowReading.{member_fails, member_row, row_default}
use Rattle.openapi_fields.proofs.Taking.{AreTaken, all_taken, name_untaken, none_taken, one_refused, one_taken}
use Rattle.openapi_fields.specs.Reading.{MembersShown, PutRead, any_name, is_object}

-- a view of anything but an object is an error for each kind that is an object of a table or a map
pub no_members : (f : Fault) (w : View) → ((m : Bor (OrderedMap Node)) → w ≡ v.Object m → ⊥) → f.place.items ≡ []
    → f.cause ≡ WrongKind words.Object → (k : Kind) → is_object k ≡ true → Fails f k (shown w)
no_members f w h p e (by i) t = wrong_here f words.Object (by i) (shown w) p e (not_object i w h)
no_members f w h p e (map_of k) t = wrong_here f words.Object (map_of k) (shown w) p e (not_map k w h)
no_members f w h p e k t = cc

-- if a value one step below is no object, the error that is returned here is about it, for each kind that is an object of a
-- table or a map
pub members_fail : (n : List ℕ) (r : Result (Bor (Entries Tree)) Fault) (f : Fault) (t u : Tree) → t ≡ u
    → AtStep (named n) r (Err f) → MembersShown r t → (k : Kind) → is_object k ≡ true → FailsBelow (named n) f k u
members_fail n (Ok ms) f t u e up h k o = absurd up
members_fail n (Err g) f t u e up h k o = (g, up, subst (λ v. Fails g k v) e (h k o))

-- an object of a field table, given what its rows read
pub table_read : {X : Type 0} (rows : X → List Form) (i : TableName) (r : Result X Fault) (ms : Members) (t : Tree)
    → t ≡ object ms → RowsReadAs rows r (by i) ms → ReadAs (record_form rows) r (by i) t
table_read rows i r ms t e h =
    subst (λ u. ReadAs (record_form rows) r (by i) u) (sym e) (record_gives rows r i ms h)

-- the value that was read for an entry is appended, or an allocation failed
pub value_put : {X : Type 0} (view : X → Form) (k : Kind) (u : Tree) (n : List ℕ) (x : X) (r : Result (Unit {0}) Fault)
    (old new : Entries X) → Reads view x k u → OnOk r (new ≡ old ++ (n, x) ∷ []) → IfErr r IsMemory
    → PutRead view k u n r old new
value_put view k u n x (Ok d) old new h e m = (x, e, h)
value_put view k u n x (Err f) old new h e m = inl m

-- the entries `es` were read as the values `vs`
abbrev pub AreRead : {X : Type 0} → (X → Form) → Kind → Entries Tree → Entries X → Type 0
AreRead view k es vs = AreTaken any_name view k es vs

module _ {X : Type 0} (view : X → Form) (k : Kind) where
  -- at first, no entry was read
  pub none_read : (vs : Entries X) → vs ≡ [] → AreRead view k [] vs
  none_read vs e = none_taken any_name view k vs e

  -- the next entry
  module _ (es : Entries Tree) (i : ℕ) (n : List ℕ) (u : Tree) (at : slice_get es i ≡ Some (n, u)) (old : Entries X) where
    -- if no name of the entries is repeated, its name is not among those read so far
    pub name_unread : HasDistinctNames es → AreRead view k (take i es) old → get n old ≡ None
    name_unread d h = name_untaken any_name view k es i n u at old refl d h

    -- if the value that was read for it is appended, the entries up to and including it were read
    pub one_read : (new : Entries X) → AreRead view k (take i es) old → PutRead view k u n (Ok tt) old new
        → AreRead view k (take (i + 1) es) new
    one_read new h q = one_taken any_name view k es i n u at old refl new h q

    -- if reading it or appending it fails, that is an error about the map
    pub entry_refused : (f : Fault) (new : Entries X) → PutRead view k u n (Err f) old new
        → ReadAs (map_form view) (Err f) (map_of k) (object (members_of es))
    entry_refused f new q = map_gives view k (Err f) es (one_refused any_name view k es i n u at old refl f new q)

  -- if all entries were read, their values are what is read from the map
  pub all_read : (es : Entries Tree) (vs : Entries X) → AreRead view k es vs
      → ReadAs (map_form view) (Ok vs) (map_of k) (object (members_of es))
  all_read es vs h = map_gives view k (Ok vs) es (all_taken any_name view k es vs h)

-- a row of a map, which is empty if its member is missing
module _ {X : Type 0} (view : X → Form) (o : Kind) (n : List ℕ) (k : Kind) (ms : Members)
    (at : row_where (is_named n) (rows_asked final_tables o) ≡ Some (row n listed (map_of k))) where
  -- if the member is missing, the row reads an empty map
  pub none_listed : (vs : Entries X) → find n ms ≡ None → vs ≡ []
      → RowReadAs (map_form view) (Ok vs) o (row n listed (map_of k)) ms
  none_listed vs none e =
      let r = row_default o n listed (map_of k) ms at none refl in
      (r.0, r.1 ∙ ap (map_form view) (sym e))

  -- if the member exists, what was read from its value is what the row reads, and an error about its value is an error about
  -- the object
  pub listed_read : (u : Tree) → find n ms ≡ Some u → (r s : Result (Entries X) Fault) → AtStep (named n) r s
      → ReadAs (map_form view) r (map_of k) u → RowReadAs (map_form view) s o (row n listed (map_of k)) ms
  listed_read u there r (Ok y) up h =
      member_row o n listed (map_of k) ms at (map_form view) refl y
      (subst (λ m. MemberReadAs (map_form view) (Ok (Some y)) (map_of k) n m) (sym there)
      (step_ok (map_form view) (named n) (map_of k) u r y up h))
  listed_read u there r (Err f) up h =
      member_fails o n listed (map_of k) ms at (map_form view) refl f
      (subst (λ m. MemberReadAs (map_form view) (Err f) (map_of k) n m) (sym there)
      (step_err (map_form view) (named n) (map_of k) u r f up h))
