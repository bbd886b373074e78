-- The entries of an object whose names pass a test, read one after another: what was read so far, and how far the access
-- count rose.
use Rattle.std.proofs.Common.{◌≡◌, ℕ, ◌+◌, ◌*◌, ◌≤◌, Bool, true, false, List, [], take, length, slice_get, Some, None, Ok, Err, refl, sym, ap, ◌∙◌, inl, inr, ⊎_elim, subst, arith, Result}
use Rattle.std.proofs.lemmas.List.{take_all}
use Rattle.openapi_map.specs.Entries.{Entries, get, HasDistinctNames}
use Rattle.openapi_node.specs.Tree.{Tree, size_of}
use Rattle.openapi_node.specs.declared.fault.Fault.{Fault}
use Rattle.openapi_tables.specs.Prelude.{Kind, every, final_tables, conforms, Form, form, pairs_of}
use Rattle.openapi_fields.specs.Entries.{EntriesReadAs, chosen, entries_size}
use Rattle.openapi_fields.specs.Reading.{PutRead}
use Rattle.openapi_fields.specs.Returned.{RisesBelow, RisesBy}
use Rattle.openapi_fields.proofs.Chosen.{entry_fails, next_holds, next_new, next_same, next_size, next_skipped, next_within}

-- the entries in `es` whose names pass a test were read as the values `vs`
pub record AreTaken {X : Type 0} (p : List ℕ → Bool) (view : X → Form) (k : Kind) (es : Entries Tree) (vs : Entries X)
    : Type 0 where
  pub holds : every (λ (e : List ℕ × Tree). conforms final_tables k e.1) (chosen p es) ≡ true
  pub same : pairs_of (form final_tables k) (chosen p es) ≡ pairs_of view vs

module _ {X : Type 0} (p : List ℕ → Bool) (view : X → Form) (k : Kind) where
  -- at first, no entry was read
  pub none_taken : (vs : Entries X) → vs ≡ [] → AreTaken p view k [] vs
  none_taken vs e = record { holds = refl; same = sym (ap (pairs_of view) e) }

  -- if all entries were read, their values are what is read from the entries
  pub all_taken : (es : Entries Tree) (vs : Entries X) → AreTaken p view k es vs
      → EntriesReadAs view (Ok vs) k (chosen p es)
  all_taken es vs h = (h.holds, h.same)

  -- the next entry
  module _ (es : Entries Tree) (i : ℕ) (n : List ℕ) (u : Tree) (at : slice_get es i ≡ Some (n, u)) (old : Entries X) where
    -- it does not pass the test
    pub none_passed : p n ≡ false → AreTaken p view k (take i es) old → AreTaken p view k (take (i + 1) es) old
    none_passed fails h =
        let skip = next_skipped p es i n u at fails in
        record {
          holds = ap (every (λ (e : List ℕ × Tree). conforms final_tables k e.1)) skip ∙ h.holds;
          same = ap (pairs_of (form final_tables k)) skip ∙ h.same;
        }

    -- it passes the test
    module _ (yes : p n ≡ true) where
      -- if no name of the entries is repeated, its name is not among those read so far
      pub name_untaken : HasDistinctNames es → AreTaken p view k (take i es) old → get n old ≡ None
      name_untaken d h = next_new p es i n u at yes view k old d h.same

      -- if the value that was read for it is appended, the entries up to and including it were read
      pub one_taken : (new : Entries X) → AreTaken p view k (take i es) old → PutRead view k u n (Ok tt) old new
          → AreTaken p view k (take (i + 1) es) new
      one_taken new h q =
          record {
            holds = next_holds p es i n u at yes k h.holds q.2.0;
            same = next_same p es i n u at yes view k old new q.0 h.same q.2.1 q.1;
          }

      -- if reading it or appending it fails, that is an error about the entries
      pub one_refused : (f : Fault) (new : Entries X) → PutRead view k u n (Err f) old new
          → EntriesReadAs view (Err f) k (chosen p es)
      one_refused f new q = ⊎_elim (λ m. inl m) (λ h. inr (entry_fails p es i n u k f at yes h)) q

-- a value that was accessed, and then read by its view, took at most three node accesses for each value in it
pub looked_into : {t u : Tree} {looked next after : ℕ} → record { shown : t ≡ u; counted : next ≡ looked + 1 }
    → RisesBelow next after (3 * size_of t) → RisesBy looked after (3 * size_of u)
looked_into look count =
    (omega (arith, look.counted, count.0), omega (arith, ap size_of look.shown, look.counted, count.1))

-- the entries that are read one after another, with the access count
module _ {X : Type 0} (p : List ℕ → Bool) (view : X → Form) (k : Kind) (es : Entries Tree) (before : ℕ) where
  -- those of the first `i` entries whose names pass the test were read as `vs`, and the access count rose by at most three
  -- for each value in them
  abbrev pub TakenSoFar : ℕ → Entries X → ℕ → Type 0
  TakenSoFar i vs after = record {
    read : AreTaken p view k (take i es) vs;
    count : RisesBy before after (3 * entries_size (chosen p (take i es)));
  }

  -- what was read from all of them, and how far the access count rose
  abbrev pub ReadTaken : Result (Entries X) Fault → ℕ → Type 0
  ReadTaken r after = record {
    reads : EntriesReadAs view r k (chosen p es);
    count : RisesBy before after (3 * entries_size (chosen p es));
  }

  -- at first, no entry was read, and no node was accessed
  pub none_yet : (vs : Entries X) → vs ≡ [] → TakenSoFar 0 vs before
  none_yet vs e = record { read = none_taken p view k vs e; count = (omega arith, omega arith) }

  -- at the end, the values that were read are what is read from the entries
  pub taken_all : (i : ℕ) (vs : Entries X) (after : ℕ) → length es ≤ i → TakenSoFar i vs after → ReadTaken (Ok vs) after
  taken_all i vs after end h =
      let all = take_all i es end in
      record {
        reads = all_taken p view k es vs (subst (λ ds. AreTaken p view k ds vs) all h.read);
        count = (h.count.0, omega (arith, ap (λ ds. entries_size (chosen p ds)) all, h.count.1));
      }

  -- the next entry
  module _ (i : ℕ) {n : List ℕ} {u : Tree} {old : Entries X} {looked : ℕ} (at : slice_get es i ≡ Some (n, u))
      (h : TakenSoFar i old looked) where
    -- it does not pass the test
    pub passed_over : p n ≡ false → TakenSoFar (i + 1) old looked
    passed_over fails =
        record {
          read = none_passed p view k es i n u at old fails h.read;
          count = (h.count.0, omega (arith, h.count.1, ap entries_size (next_skipped p es i n u at fails)));
        }

    -- it passes the test
    module _ (yes : p n ≡ true) (new : Entries X) {after : ℕ} (count : RisesBy looked after (3 * size_of u)) where
      -- if the value that was read for it is appended, the entries up to and including it were read
      pub taken_next : PutRead view k u n (Ok tt) old new → TakenSoFar (i + 1) new after
      taken_next q =
          record {
            read = one_taken p view k es i n u at old yes new h.read q;
            count = (
              omega (arith, h.count.0, count.0),
              omega (arith, h.count.1, count.1, next_size p es i n u at yes),
            );
          }

      -- if reading it or appending it fails, that is an error about the entries
      pub taken_refused : (f : Fault) → PutRead view k u n (Err f) old new → ReadTaken (Err f) after
      taken_refused f q =
          record {
            reads = one_refused p view k es i n u at old yes f new q;
            count = (
              omega (arith, h.count.0, count.0),
              omega (arith, h.count.1, count.1, next_within p es i n u at yes),
            );
          }
