-- What mutually recursive readers return, in the words of their contracts: what was read, that the access count does not
-- fall, and how far it rises.
use Rattle.std.proofs.Common.{◌≡◌, ◌+◌, ◌*◌, ◌≤◌, ℕ, List, [], Option, Some, None, Result, Ok, Err, refl, sym, ap}
use Rattle.std.proofs.Common.{subst, arith, slice_get, take, length}
use Rattle.std.proofs.lemmas.List.{take_all}
use Rattle.openapi_map.specs.Entries.{Entries}
use Rattle.openapi_node.specs.Tree.{Tree, object, Members, members_of, members_size, size_of, find}
use Rattle.openapi_node.specs.declared.fault.Fault.{Fault}
use Rattle.openapi_node.specs.Place.{named}
use Rattle.openapi_node.proofs.TreeLemmas.{next_member}
use Rattle.openapi_tables.specs.Prelude.{Kind, TableName, any_tree, by, listed, map_of, optional, row, final_tables}
use Rattle.openapi_tables.specs.Prelude.{Form, is_named, row_weight, row_where, rows_asked, rows_weight}
use Rattle.openapi_tables.proofs.ByRowLaws.{weight-found}
use Rattle.openapi_fields.specs.Forms.{map_form, optional_form, record_form}
use Rattle.openapi_fields.specs.Returned.{AtStep, ReadAs, MemberReadAs, RowReadAs, RowsReadAs, RisesBelow, RisesBy}
use Rattle.openapi_fields.specs.Presence.{AtMember, IsGone, IsThere}
use Rattle.openapi_fields.proofs.Below.{size-positive}
use Rattle.openapi_fields.proofs.Records.{record_weight}
use Rattle.openapi_fields.proofs.RowReading.{member_fails, weight_of_name}
use Rattle.openapi_fields.specs.Reading.{IsMapAt, NoMapAt, PutRead}
use Rattle.openapi_fields.proofs.PresentRows.{row_gone, row_read}
use Rattle.openapi_fields.proofs.EntryReading.{AreRead, all_read, entry_refused, listed_read, none_listed, none_read}
use Rattle.openapi_fields.proofs.EntryReading.{one_read, table_read}

-- what was read from a view, and how far the access count rose
abbrev pub ReadView : {X : Type 0} → (X → Form) → Result X Fault → Kind → Tree → ℕ → ℕ → Type 0
ReadView view r k t before after = record {
  reads : ReadAs view r k t;
  count : RisesBelow before after (3 * size_of t);
}

-- what was read for the rows of a kind from members, and how far the access count rose
abbrev pub ReadRows : {X : Type 0} → (X → List Form) → Result X Fault → Kind → Members → ℕ → ℕ → Type 0
ReadRows rows r k ms before after = record {
  reads : RowsReadAs rows r k ms;
  count : RisesBy before after (3 * rows_weight (rows_asked final_tables k) ms);
}

-- what was read from the entries of a map, and how far the access count rose
abbrev pub ReadMap : {X : Type 0} → (Entries X → Form) → Result (Entries X) Fault → Kind → Members → ℕ → ℕ → Type 0
ReadMap view r k ms before after = record {
  reads : ReadAs view r k (object ms);
  count : RisesBy before after (3 * members_size ms);
}

-- an object of a field table, given what its fields read. `fields` and `rows` are the same function, and the form of the
-- object is stated with `rows`
pub object_read : {X : Type 0} (fields rows : X → List Form) → fields ≡ rows → (i : TableName) (r : Result X Fault)
    (ms : Members) (t : Tree) (before after : ℕ) → t ≡ object ms → ReadRows fields r (by i) ms before after
    → ReadView (record_form rows) r (by i) t before after
object_read fields rows same i r ms t before after e h =
    record {
      reads = subst (λ l. ReadAs (record_form l) r (by i) t) same (table_read fields i r ms t e h.reads);
      count = (h.count.0, omega (arith, ap size_of e, record_weight i ms, h.count.1));
    }

-- a map, given what was read from its entries
pub map_read : {X : Type 0} (view : Entries X → Form) (k : Kind) (r : Result (Entries X) Fault) (ms : Members) (t : Tree)
    (before after : ℕ) → t ≡ object ms → ReadMap view r k ms before after → ReadView view r k t before after
map_read view k r ms t before after e h =
    record {
      reads = subst (λ u. ReadAs view r k u) (sym e) h.reads;
      count = (h.count.0, omega (arith, ap size_of e, h.count.1));
    }

-- a row whose member may be missing or null
module _ {X : Type 0} (view : X → Form) (o : Kind) (n : List ℕ) (k : Kind) (ms : Members)
    (at : row_where (is_named n) (rows_asked final_tables o) ≡ Some (row n optional k)) where
  -- what was read for the row, and how far the access count rose
  abbrev pub ReadPresent : Result (Option X) Fault → ℕ → ℕ → Type 0
  ReadPresent r before after = record {
    reads : RowReadAs (optional_form view) r o (row n optional k) ms;
    count : RisesBy before after (3 * row_weight (row n optional k) ms);
  }

  -- if its member is missing or null, the row reads that there is no value
  pub none_present : (before after : ℕ) → IsGone n ms before after → ReadPresent (Ok None) before after
  none_present before after h =
      record {
        reads = row_gone view o n k ms at h.is;
        count = (h.rises, omega (arith, h.counted, weight_of_name n optional optional k any_tree ms));
      }

  -- if its member exists and is not null, what was read from its value is what the row reads. An error about its value is an
  -- error about the object
  pub read_present : {t : Tree} {before looked after : ℕ} (r : Result X Fault) (s : Result (Option X) Fault)
      → IsThere n ms before looked t → AtMember n r s → ReadAs view r k t → RisesBelow looked after (3 * size_of t + 1)
      → ReadPresent s before after
  read_present {t} r s h up reads count =
      record {
        reads = row_read view o n k ms at t r s h.is up reads;
        count = (
          omega (arith, h.counted, count.0),
          omega (arith, h.counted, h.weighs, count.1, weight_of_name n optional optional k any_tree ms),
        );
      }

-- a row of a map, which is empty if its member is missing
module _ {X : Type 0} (view : X → Form) (o : Kind) (n : List ℕ) (k : Kind) (ms : Members)
    (at : row_where (is_named n) (rows_asked final_tables o) ≡ Some (row n listed (map_of k))) where
  -- what was read for the row, and how far the access count rose
  abbrev pub ReadRow : Result (Entries X) Fault → ℕ → ℕ → Type 0
  ReadRow r before after = record {
    reads : RowReadAs (map_form view) r o (row n listed (map_of k)) ms;
    count : RisesBy before after (3 * row_weight (row n listed (map_of k)) ms);
  }

  -- if the member is missing, the row reads an empty map, and no node is accessed
  pub no_map : (vs : Entries X) (before after : ℕ) → vs ≡ [] → (find n ms ≡ None) × (after ≡ before)
      → ReadRow (Ok vs) before after
  no_map vs before after e h =
      record {
        reads = none_listed view o n k ms at vs h.0 e;
        count = (omega (arith, h.1), omega (arith, h.1));
      }

  -- if the value of the member is no object, the error about it is an error about the object around it
  pub no_map_at : (f : Fault) (before after : ℕ) → NoMapAt n ms before after f → ReadRow (Err f) before after
  no_map_at f before after h =
      record {
        reads = member_fails o n listed (map_of k) ms at (map_form view) refl f
            (subst (λ m. MemberReadAs (map_form view) (Err f) (map_of k) n m) (sym h.is) (h.fails (map_of k) refl));
        count = (
          omega (arith, h.counted),
          omega (
            arith,
            h.counted,
            size-positive h.value,
            weight-found final_tables n listed (map_of k) ms h.value h.is,
          ),
        );
      }

  -- if the value of the member is an object, what was read from its entries is what the row reads. An error about it is an
  -- error about the object around it
  pub map_at : {es : Members} (r s : Result (Entries X) Fault) {before looked after : ℕ}
      → IsMapAt n ms before looked es → AtStep (named n) r s → ReadMap (map_form view) r (map_of k) es looked after
      → ReadRow s before after
  map_at {es} r s h up read =
      record {
        reads = listed_read view o n k ms at (object es) h.is r s up read.reads;
        count = (
          omega (arith, h.counted, read.count.0),
          omega (
            arith,
            h.counted,
            read.count.1,
            weight-found final_tables n listed (map_of k) ms (object es) h.is,
          ),
        );
      }

-- the entries of a map, read one after another
module _ {X : Type 0} (view : X → Form) (k : Kind) (es : Entries Tree) (before : ℕ) where
  -- the first `i` entries were read as the values `vs`, and the access count rose by at most three for each value in them
  abbrev pub SoFar : ℕ → Entries X → ℕ → Type 0
  SoFar i vs after = record {
    read : AreRead view k (take i es) vs;
    count : RisesBy before after (3 * members_size (members_of (take i es)));
  }

  -- at first, no entry was read, and no node was accessed
  pub none_so_far : (vs : Entries X) → vs ≡ [] → SoFar 0 vs before
  none_so_far vs e = record { read = none_read view k vs e; count = (omega arith, omega arith) }

  -- at the end, the values that were read are what is read from the map
  pub all_so_far : (i : ℕ) (vs : Entries X) (after : ℕ) → length es ≤ i → SoFar i vs after
      → ReadMap (map_form view) (Ok vs) (map_of k) (members_of es) before after
  all_so_far i vs after end h =
      let all = take_all i es end in
      record {
        reads = all_read view k es vs (subst (λ ds. AreRead view k ds vs) all h.read);
        count = (h.count.0, omega (arith, ap (λ ds. members_size (members_of ds)) all, h.count.1));
      }

  -- the next entry
  module _ (i : ℕ) {n : List ℕ} {u t : Tree} {old : Entries X} (new : Entries X) {looked next after : ℕ}
      (r : Result X Fault) (q : Result (Unit {0}) Fault) (at : slice_get es i ≡ Some (n, u)) (h : SoFar i old looked)
      (look : record { shown : t ≡ u; counted : next ≡ looked + 1 }) (reads : ReadAs view r k t)
      (count : RisesBelow next after (3 * size_of t + 1))
      (put : (other : X → Form) (l : Kind) (v : Tree) → ReadAs other r l v → PutRead other l v n q old new) where
    was_put : PutRead view k u n q old new
    was_put = put view k u (subst (λ v. ReadAs view r k v) look.shown reads)

    -- if the value that was read for it is appended, the entries up to and including it were read
    pub next_so_far : q ≡ Ok tt → SoFar (i + 1) new after
    next_so_far is =
        let entry = next_member es i (n, u) at in
        record {
          read = one_read view k es i n u at old new h.read (subst (λ s. PutRead view k u n s old new) is was_put);
          count = (
            omega (arith, h.count.0, look.counted, count.0),
            omega (arith, h.count.1, look.counted, ap size_of look.shown, count.1, entry.adds),
          );
        }

    -- if reading it or appending it fails, that is an error about the map
    pub next_refused : (f : Fault) → q ≡ Err f
        → ReadMap (map_form view) (Err f) (map_of k) (members_of es) before after
    next_refused f is =
        let entry = next_member es i (n, u) at in
        record {
          reads = entry_refused view k es i n u at old f new (subst (λ s. PutRead view k u n s old new) is was_put);
          count = (
            omega (arith, h.count.0, look.counted, count.0),
            omega (arith, h.count.1, look.counted, ap size_of look.shown, count.1, entry.within),
          );
        }
