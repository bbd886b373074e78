-- The row of a class of names, given what is read from its entries and what they are written as.
use Rattle.std.proofs.Common.{◌≡◌, ℕ, suc, ◌+◌, ◌*◌, arith, Bool, true, false, cond, ◌&&◌, List, [], ◌∷◌, ◌++◌, slice_get, Some}
use Rattle.std.proofs.Common.{None, Result, Ok, Err, OnOk, IfErr, refl, sym, ap, ◌∙◌, subst, inl, inr, ⊎_elim}
use Rattle.std.proofs.lemmas.Bool.{and_parts, and_from}
use Rattle.openapi_map.specs.Entries.{Entries, get}
use Rattle.openapi_node.specs.Fault.{place_of}
use Rattle.openapi_node.specs.Place.{named}
use Rattle.openapi_node.specs.Tree.{Tree, object, members_of, size_of}
use Rattle.openapi_node.specs.declared.fault.Fault.{Fault}
use Rattle.openapi_tables.specs.Prelude.{Kind, Class, status_names, class, in_class, every, is_empty, final_tables}
use Rattle.openapi_tables.specs.Prelude.{Entry, Seen, Shape, of_tree, of_members, members_list, own, conforms, root_conforms, Form}
use Rattle.openapi_tables.specs.Prelude.{name, Pair, named as named_form, named_of, form, root_form, key_in, pairs_as}
use Rattle.openapi_tables.specs.Prelude.{gather, same_key, root_asks, asks_row, asks_members, Among}
use Rattle.openapi_tables.specs.Prelude.{print, unwritable, is_written, is_class, row_where, rows_asked, row_conforms}
use Rattle.openapi_tables.specs.ByRow.{RowGives}
use Rattle.openapi_tables.specs.Prelude.{row_form, row_weight, weight, asking, StepsTo, Slot, slot_where, before}
use Rattle.openapi_tables.specs.Prelude.{through, slots_apart, slots_lost, IsWritten, pairs_of}
use Rattle.openapi_tables.proofs.ByRowLaws.{among_flat, rows_ask}
use Rattle.openapi_tables.proofs.ListLaws.{same_text-refl}
use Rattle.openapi_tables.proofs.SlotWriting.{prints, is_kept, is_new, class_put, class_key_loses, class_value_loses}
use Rattle.openapi_fields.specs.Entries.{chosen, entries_size, EntriesReadAs, written_entries, all_whole}
use Rattle.openapi_fields.specs.Entries.{EntryNotWritable, EntriesNotWritable}
use Rattle.openapi_fields.specs.Forms.{map_form}
use Rattle.openapi_fields.specs.Returned.{FailsBelow, RisesBy, RowReadAs, NotWritableBy, NotWritable}
use Rattle.openapi_fields.proofs.Below.{memory_fails, fails_above}
use Rattle.openapi_fields.proofs.Losing.{memory_loses, loses_above}
use Rattle.openapi_fields.proofs.Mapped.{entry_asked, map_conforms, named_forms}

chosen_same : {X : Type 0} (p q : List ℕ → Bool) → ((n : List ℕ) → p n ≡ q n) → (es : Entries X) → chosen p es
    ≡ chosen q es
chosen_same p q h [] = refl
chosen_same p q h (e ∷ es) = λ j. cond (h e.0 j) (e ∷ chosen_same p q h es j) (chosen_same p q h es j)

-- the members that the row of a class takes, in terms of entries
module _ (c : Class) (k : Kind) where
  -- they are the members of the entries whose names are in the class
  pub class_members : {X : Type 0} (f : Shape (Seen X) → X) (ms : Entries Tree)
      → own (class c k) (of_members f (members_of ms)) ≡ of_members f (members_of (chosen (in_class c) ms))
  class_members f [] = refl
  class_members {X} f (m ∷ ms) = go (in_class c m.0) (class_members f ms)
    where
      first : Entry (Seen X)
      first = record { name = m.0; value = record { tree = m.1; answer = of_tree f m.1 } }

      rest : List (Entry (Seen X))
      rest = own (class c k) (of_members f (members_of ms))

      go : (b : Bool) → rest ≡ of_members f (members_of (chosen (in_class c) ms)) → cond b (first ∷ rest) rest
          ≡ of_members f (members_of (cond b (m ∷ chosen (in_class c) ms) (chosen (in_class c) ms)))
      go true h = ap (λ l. first ∷ l) h
      go false h = h

  -- the row holds if and only if each of their values conforms
  pub class_conforms : (ms : Entries Tree) → row_conforms final_tables (class c k) (members_of ms)
      ≡ every (λ (e : List ℕ × Tree). conforms final_tables k e.1) (chosen (in_class c) ms)
  unfolding row_conforms
  class_conforms ms =
      ap (every (λ (e : Entry (Seen (Kind → Bool))). e.value.answer k)) (class_members (root_conforms final_tables) ms)
      ∙ map_conforms k (chosen (in_class c) ms)

  class_pairs : ((n : List ℕ) → key_in c n ≡ name n) → (ms : Entries Tree)
      → pairs_as (key_in c) k (own (class c k) (of_members (root_form final_tables) (members_of ms)))
      ≡ pairs_of (form final_tables k) (chosen (in_class c) ms)
  class_pairs keys ms =
      ap (pairs_as (key_in c) k) (class_members (root_form final_tables) ms)
      ∙ named_forms (key_in c) keys k (chosen (in_class c) ms)

  gathered : ((n : List ℕ) → key_in c n ≡ name n) → (es : List (Pair Form)) → gather c es ≡ es
  gathered keys es = go c keys
    where
      go : (c : Class) → ((n : List ℕ) → key_in c n ≡ name n) → gather c es ≡ es
      go status_names h = let no = h (50 ∷ 48 ∷ 48 ∷ []) in cc
      go c h = refl

  -- the members that the row takes hold as many values as the entries with a name of the class
  pub class_size : (ms : Entries Tree) → row_weight (class c k) (members_of ms) ≡ entries_size (chosen (in_class c) ms)
  unfolding row_weight
  class_size [] = refl
  class_size (m ∷ ms) = go (in_class c m.0) (class_size ms)
    where
      go : (b : Bool) → weight (own (class c k) (members_list (members_of ms))) ≡ entries_size (chosen (in_class c) ms)
          → weight (cond b (record { name = m.0; value = m.1 } ∷ own (class c k) (members_list (members_of ms)))
          (own (class c k) (members_list (members_of ms))))
          ≡ entries_size (cond b (m ∷ chosen (in_class c) ms) (chosen (in_class c) ms))
      go true h = ap (λ s. size_of m.1 + s) h
      go false h = h

  -- each requirement of `k` in the value of such an entry is a requirement of an object with a row of the class, below the
  -- name of the entry
  pub class_asks : (o : Kind) (ms : Entries Tree) (e : List ℕ × Tree)
      → row_where (is_class c) (rows_asked final_tables o) ≡ Some (class c k) → Among e (chosen (in_class c) ms)
      → StepsTo final_tables o (object (members_of ms)) (named e.0) k e.1
  class_asks o ms e at h p j v a =
      rows_ask final_tables o (members_of ms) (asking (named e.0 ∷ p) j v)
      (among_flat (asking (named e.0 ∷ p) j v) (asks_row (of_members (root_asks final_tables) (members_of ms)))
      (is_class c) (class c k) (rows_asked final_tables o) at
      (subst (λ l. Among (asking (named e.0 ∷ p) j v) (asks_members k l)) (sym (class_members (root_asks final_tables) ms))
      (entry_asked k (chosen (in_class c) ms) e p j v h a)))

  module _ (test : List ℕ → Bool) (tests : (n : List ℕ) → test n ≡ in_class c n) (keys : (n : List ℕ) → key_in c n
      ≡ name n)
      {X : Type 0} (view : X → Form) where
    -- what the row gives, if the entries whose names pass the test were read
    class_taken : (m : Entries X) (ms : Entries Tree) → EntriesReadAs view (Ok m) k (chosen test ms)
        → RowGives final_tables (class c k) (members_of ms) (map_form view m)
    unfolding row_form
    class_taken m ms h =
        let same = chosen_same test (in_class c) tests ms in (
          class_conforms ms ∙ sym (ap (every (λ (e : List ℕ × Tree). conforms final_tables k e.1)) same) ∙ h.0,
          ap (λ l. named_form (named_of l)) (gathered keys (pairs_as (key_in c) k
              (own (class c k) (of_members (root_form final_tables) (members_of ms))))
              ∙ class_pairs keys ms ∙ sym (ap (pairs_of (form final_tables k)) same) ∙ h.1),
        )

    -- the same, or an error for the whole object
    pub class_gives : (r : Result (Entries X) Fault) (o : Kind) (ms : Entries Tree)
        → row_where (is_class c) (rows_asked final_tables o) ≡ Some (class c k) → EntriesReadAs view r k (chosen test ms)
        → RowReadAs (map_form view) r o (class c k) (members_of ms)
    class_gives (Ok m) o ms at h = class_taken m ms h
    class_gives (Err f) o ms at h =
        ⊎_elim (λ m. memory_fails f o (object (members_of ms)) m)
        (λ (x : (e : List ℕ × Tree) × Among e (chosen test ms) × FailsBelow (named e.0) f k e.1).
        fails_above (named (x.0).0) f o k (object (members_of ms)) (x.0).1
        (class_asks o ms x.0 at (subst (λ l. Among x.0 l) (chosen_same test (in_class c) tests ms) x.1)) x.2) h

    -- the members that the row takes hold as many values as the entries whose names pass the test
    pub class_count : (ms : Entries Tree) → row_weight (class c k) (members_of ms) ≡ entries_size (chosen test ms)
    class_count ms = class_size ms ∙ sym (ap entries_size (chosen_same test (in_class c) tests ms))

    -- both together: what the row gives, or an error, and how far the access count rises
    pub class_read : {before after : ℕ} (r : Result (Entries X) Fault) (o : Kind) (ms : Entries Tree)
        → row_where (is_class c) (rows_asked final_tables o) ≡ Some (class c k)
        → record {
          reads : EntriesReadAs view r k (chosen test ms);
          count : RisesBy before after (3 * entries_size (chosen test ms));
        }
        → record {
          reads : RowReadAs (map_form view) r o (class c k) (members_of ms);
          count : RisesBy before after (3 * row_weight (class c k) (members_of ms));
        }
    class_read r o ms at h =
        record { reads = class_gives r o ms at h.reads; count = (h.count.0, omega (arith, h.count.1, class_count ms)) }

    -- the members that the row is written as
    pairs_print : (vs : Entries X) → prints final_tables c k (pairs_of view vs) ≡ written_entries view k vs
    pairs_print [] = refl
    pairs_print (e ∷ vs) = ap (λ l. (e.0, print final_tables k (view e.1)) ∷ l) (pairs_print vs)

    name_written : (n : List ℕ) → is_written c (name n) ≡ test n
    name_written n = (λ j. same_key (keys n j) (name n) && sym (tests n) j) ∙ ap (λ b. b && test n) (same_text-refl n)

    pairs_kept : (vs : Entries X) → every (λ (e : List ℕ × X). test e.0) vs ≡ true → all_whole view k vs ≡ true
        → every (is_kept final_tables c k) (pairs_of view vs) ≡ true
    pairs_kept [] h g = refl
    pairs_kept (e ∷ vs) h g =
        let p = and_parts (test e.0) (every (λ (e : List ℕ × X). test e.0) vs) h in
        let q = and_parts (is_empty (unwritable final_tables k (view e.1))) (all_whole view k vs) g in
        and_from _ _ (and_from _ _ (name_written e.0 ∙ p.0) q.0) (pairs_kept vs p.1 q.1)

    index_of : (vs : Entries X) (e : List ℕ × X) → Among e vs
        → (j : ℕ) × (slice_get (pairs_of view vs) j ≡ Some (record { key = name e.0; value = view e.1 }))
    index_of [] e h = absurd h
    index_of (v ∷ vs) e (inl s) = (
      0,
      ap (λ (x : List ℕ × X). Some (record { key = name x.0; value = view x.1 }))
          (sym s),
    )
    index_of (v ∷ vs) e (inr h) = let r = index_of vs e h in (suc r.0, r.1)

    module _ (ss : List Slot) (vs : Entries X) (at : slot_where (is_class c) ss ≡ Some (class c k, map_form view vs))
        (out : Entries Tree) (done : IsWritten final_tables (before (is_class c) ss) out) where
      -- if no name is taken by two slots, a name that passes the test is not among the members written so far
      pub class_new : slots_apart ss ≡ true → (n : List ℕ) → test n ≡ true → get n out ≡ None
      class_new a n h = is_new final_tables ss (is_class c) (class c k, map_form view vs) at out done a n (sym (tests
          n) ∙ h)

      -- if its entries are appended, their names pass the test and nothing in their values is unwritable, the slots up to
      -- and including this one are written
      pub class_written : {A : Type 0} (r : Result A Fault) (new : Entries Tree)
          → OnOk r (new ≡ out ++ written_entries view k vs) → OnOk r (every (λ (e : List ℕ × X). test e.0) vs ≡ true)
          → OnOk r (all_whole view k vs ≡ true) → OnOk r (IsWritten final_tables (through (is_class c) ss) new)
      class_written (Ok x) new e h g =
          class_put final_tables c k ss (pairs_of view vs) at out done new (e
          ∙ ap (λ l. out ++ l) (sym (pairs_print vs)))
          (pairs_kept vs h g)
      class_written (Err f) new e h g = tt

      one_loses : (f : Fault) (e : List ℕ × X) → Among e vs → EntryNotWritable test view k f e
          → NotWritable f (slots_lost final_tables ss)
      one_loses f e a (inl h) =
          let i = index_of vs e a in
          let lost = class_key_loses final_tables c k ss (pairs_of view vs) at out done i.0 (record {
            key = name e.0;
            value = view e.1;
          })
          i.1 (name_written e.0 ∙ h.0) in
          subst (λ d. NotWritableBy d (place_of f) (slots_lost final_tables ss)) (sym h.1)
          (subst (λ q. Among q (slots_lost final_tables ss)) (sym h.2) lost)
      one_loses f e a (inr h) =
          let i = index_of vs e a in
          loses_above (named e.0) f (unwritable final_tables k (view e.1)) (slots_lost final_tables ss)
          (λ q g. class_value_loses final_tables c k ss (pairs_of view vs) at out done i.0
          (record { key = name e.0; value = view e.1 }) q i.1 g) h

      -- an error of writing its entries is an error of writing the object
      pub class_loses : {A : Type 0} (r : Result A Fault) → IfErr r (λ f. EntriesNotWritable test view k f vs)
          → IfErr r (λ f. NotWritable f (slots_lost final_tables ss))
      class_loses (Ok x) h = tt
      class_loses (Err f) h =
          ⊎_elim (λ m. memory_loses f (slots_lost final_tables ss) m)
          (λ (x : (e : List ℕ × X) × Among e vs × EntryNotWritable test view k f e). one_loses f x.0 x.1 x.2) h
