-- A row of two names: the first member that has one of them decides.
use Rattle.std.proofs.Common.{◌≡◌, ℕ, ◌≤◌, Bool, true, false, cond, ◌||◌, List, [], ◌∷◌, ◌++◌, slice_get, Some, None, refl, sym, ap, ◌∙◌, subst, arith, inl, Result, Ok, Err, OnOk, IfErr}
use Rattle.openapi_map.specs.Entries.{Entries, get}
use Rattle.openapi_node.specs.Place.{named}
use Rattle.openapi_node.specs.Tree.{Tree, object, members_of, size_of}
use Rattle.openapi_node.specs.declared.fault.Fault.{Fault}
use Rattle.openapi_tables.specs.Prelude.{Kind, TableName, by, either, each, same_text, Entry, Seen, Shape, on_entry}
use Rattle.openapi_tables.specs.Prelude.{of_members, members_list, final_tables, own, checked_rows, root_conforms}
use Rattle.openapi_tables.specs.Prelude.{conforms, either_holds, Form, deciding, root_form, form, print, one}
use Rattle.openapi_tables.specs.Prelude.{unwritable, each_below, Slot, slot_where, before, through, slots_apart}
use Rattle.openapi_tables.specs.Prelude.{slots_lost, IsWritten, misses, row_misses, root_asks, asked, asks_row}
use Rattle.openapi_tables.specs.Prelude.{asks_own, below, Among, row_where, is_named, rows_asked, row_conforms}
use Rattle.openapi_tables.specs.Prelude.{row_form, row_weight, weight, RowGives, Broken, StepsTo, asking}
use Rattle.openapi_tables.specs.Read.{either_slot}
use Rattle.openapi_tables.specs.Faults.{missing_either}
use Rattle.openapi_tables.proofs.ListLaws.{same_text_eq, same_text-refl}
use Rattle.openapi_tables.proofs.TreeLaws.{see}
use Rattle.openapi_tables.proofs.ByRowLaws.{entry, own-members, broken_root, among_flat, among_below, rows_ask}
use Rattle.openapi_tables.proofs.SlotWriting.{is_new, one_put, slot_loses, below_each}
use Rattle.openapi_fields.specs.Decided.{Decides}
use Rattle.openapi_fields.specs.Entries.{chosen}
use Rattle.openapi_fields.specs.Forms.{is_either}
use Rattle.openapi_fields.specs.Returned.{AtStep, Fails, FailsBelow, ReadAs, RowReadAs, Reads, NotWritable, NotWritableBelow}
use Rattle.openapi_fields.proofs.Below.{fails_above, step_ok, step_err}
use Rattle.openapi_fields.proofs.Losing.{loses_above}

no_first : {A : Type 0} (xs : List A) → None ≡ slice_get xs 0 → xs ≡ []
no_first [] h = refl
no_first (x ∷ xs) h = cc

module _ (a : List ℕ) (j : Kind) (b : List ℕ) (k : Kind) where
  abbrev the_members : Entries Tree → List (Entry Tree)
  the_members es = own (either a j b k) (members_list (members_of es))

  -- the members that the row takes: those that have one of the names
  own_chosen : (es : Entries Tree) → the_members es ≡ each (λ e. entry e.0 e.1) (chosen (is_either a b) es)
  own_chosen [] = refl
  own_chosen (e ∷ es) = go (is_either a b e.0) (own_chosen es)
    where
      go : (c : Bool) → the_members es ≡ each (λ e. entry e.0 e.1) (chosen (is_either a b) es)
          → cond c (entry e.0 e.1 ∷ the_members es) (the_members es)
          ≡ each (λ e. entry e.0 e.1) (cond c (e ∷ chosen (is_either a b) es) (chosen (is_either a b) es))
      go true h = ap (λ l. entry e.0 e.1 ∷ l) h
      go false h = h

  -- the first of them has the name `n` and the value `u`
  record First (n : List ℕ) (u : Tree) (es : Entries Tree) : Type 0 where
    rest : List (Entry Tree)
    is : the_members es ≡ entry n u ∷ rest

  first_is : (n : List ℕ) (u : Tree) (es : Entries Tree) → slice_get (chosen (is_either a b) es) 0 ≡ Some (n, u)
      → First n u es
  first_is n u es h = go (chosen (is_either a b) es) (own_chosen es) h
    where
      go : (cs : Entries Tree) → the_members es ≡ each (λ e. entry e.0 e.1) cs → slice_get cs 0 ≡ Some (n, u)
          → First n u es
      go [] q g = cc
      go (c ∷ cs) q g =
          let same : c ≡ (n, u) = cc in
          record {
            rest = each (λ (e : List ℕ × Tree). entry e.0 e.1) cs;
            is = q ∙ ap (λ (e : List ℕ × Tree). entry e.0 e.1 ∷ each (λ (e : List ℕ × Tree). entry e.0 e.1) cs) same;
          }

  module _ (n : List ℕ) (u : Tree) (es : Entries Tree)
      (at : slice_get (chosen (is_either a b) es) 0 ≡ Some (n, u)) where
    abbrev decided : Kind
    decided = cond (same_text a n) j k

    seen : {X : Type 0} (f : Shape (Seen X) → X) → own (either a j b k) (of_members f (members_of es))
        ≡ on_entry (see f) (entry n u) ∷ each (on_entry (see f)) (first_is n u es at).rest
    seen f =
        own-members f (either a j b k) (members_of es) ∙ ap (each (on_entry (see f))) (first_is n u es at).is

    row_holds : row_conforms final_tables (either a j b k) (members_of es) ≡ conforms final_tables decided u
    unfolding row_conforms
    row_holds = ap (either_holds a j k) (seen (root_conforms final_tables))

    row_reads : row_form final_tables (either a j b k) (members_of es) ≡ deciding n (form final_tables decided u)
    unfolding row_form
    row_reads = ap (either_slot a j k) (seen (root_form final_tables))

    -- the value of the member that decides contains no more values than the members that the row takes
    pub decided_weight : size_of u ≤ row_weight (either a j b k) (members_of es)
    unfolding row_weight
    decided_weight = subst (λ l. size_of u ≤ weight l) (sym (first_is n u es at).is) (omega arith)

    -- `l` is the kind of the name that decides
    module _ (l : Kind) (is : cond (same_text a n) j k ≡ l) where
      pub decided_gives : {X : Type 0} (view : X → Form) (x : X) → Reads view x l u
          → RowGives final_tables (either a j b k) (members_of es) (deciding n (view x))
      decided_gives view x r = (
        row_holds ∙ ap (λ i. conforms final_tables i u) is ∙ r.0,
        row_reads ∙ ap (λ i. deciding n (form final_tables i u)) is ∙ ap (deciding n) r.1,
      )

      module _ (o : Kind) (in_table : row_where (is_named a) (rows_asked final_tables o) ≡ Some (either a j b k)) where
        decided_asks : StepsTo final_tables o (object (members_of es)) (named n) l u
        decided_asks p i v h =
            let w = either a j b k in
            let seen_all = of_members (root_asks final_tables) (members_of es) in
            let one : asks_row seen_all w ≡ below (named n) (asked final_tables l u) =
            ap (λ m. asks_own w m) (seen (root_asks final_tables))
            ∙ ap (λ i. below (named n) (asked final_tables i u)) is in
            rows_ask final_tables o (members_of es) (asking (named n ∷ p) i v)
            (among_flat (asking (named n ∷ p) i v) (asks_row seen_all) (is_named a) w (rows_asked final_tables o)
            in_table (subst (λ m. Among (asking (named n ∷ p) i v) m) (sym one)
            (among_below (named n) p i v (asked final_tables l u) h)))

        pub decided_fails : (f : Fault) → FailsBelow (named n) f l u → Fails f o (object (members_of es))
        decided_fails f h = fails_above (named n) f o l (object (members_of es)) u decided_asks h

  -- the kind is that of the first name if the first name decides, and that of the second name otherwise
  pub is_first : (n : List ℕ) → same_text a n ≡ true → cond (same_text a n) j k ≡ j
  is_first n h = ap (λ c. cond c j k) h

  pub is_second : (n : List ℕ) → same_text a n ≡ false → cond (same_text a n) j k ≡ k
  is_second n h = ap (λ c. cond c j k) h

  -- the first of the members that have one of the names has one of them
  one_of_them : (n : List ℕ) (u : Tree) (es : Entries Tree)
      → slice_get (chosen (is_either a b) es) 0 ≡ Some (n, u) → is_either a b n ≡ true
  one_of_them n u [] h = cc
  one_of_them n u (e ∷ es) h = go (λ g. one_of_them n u es g) (is_either a b e.0) refl h
    where
      go : (slice_get (chosen (is_either a b) es) 0 ≡ Some (n, u) → is_either a b n ≡ true) → (c : Bool) → is_either a b e.0 ≡ c
          → slice_get (cond c (e ∷ chosen (is_either a b) es) (chosen (is_either a b) es)) 0 ≡ Some (n, u)
          → is_either a b n ≡ true
      go more true q g =
          let same : e ≡ (n, u) = cc in
          ap (λ (x : List ℕ × Tree). is_either a b x.0) (sym same) ∙ q
      go more false q g = more g

  -- if the name that decides is not the first one, it is the second one
  pub second_name : (n : List ℕ) (u : Tree) (es : Entries Tree)
      → slice_get (chosen (is_either a b) es) 0 ≡ Some (n, u) → same_text a n ≡ false → b ≡ n
  second_name n u es h q = same_text_eq b n (ap (λ c. c || same_text b n) (sym q) ∙ one_of_them n u es h)

  -- if no member has one of the names, the fault of an object of the table is that both are missing
  pub none_decides : (i : TableName) (es : Entries Tree)
      → row_where (is_named a) (final_tables i) ≡ Some (either a j b k)
      → None ≡ slice_get (chosen (is_either a b) es) 0
      → Broken final_tables (by i) (object (members_of es)) [] (missing_either a b)
  unfolding checked_rows
  none_decides i es at none =
      broken_root final_tables _ (object (members_of es)) (missing_either a b)
      (among_flat (missing_either a b) (row_misses (members_list (members_of es))) (is_named a) (either a j b k)
      (final_tables i) at
      (subst (λ l. Among (missing_either a b) (misses (either a j b k) l))
      (sym (own_chosen es
      ∙ ap (each (λ e. entry e.0 e.1)) (no_first (chosen (is_either a b) es) none))) (inl refl)))

-- what was read from the member that decides, as seen from the object
module _ (o : Kind) (a : List ℕ) (j : Kind) (b : List ℕ) (k : Kind) (es : Entries Tree)
    (in_table : row_where (is_named a) (rows_asked final_tables o) ≡ Some (either a j b k)) where
  module _ (n : List ℕ) (u : Tree) (at : Decides a b n es u) (l : Kind) (is : cond (same_text a n) j k ≡ l)
      {X : Type 0} (view : X → Form) where
    decided_read : (r s : Result X Fault) → AtStep (named n) r s → ReadAs view r l u
        → RowReadAs (λ x. deciding n (view x)) s o (either a j b k) (members_of es)
    decided_read r (Ok y) up h =
        decided_gives a j b k n u es at l is view y (step_ok view (named n) l u r y up h)
    decided_read r (Err f) up h =
        decided_fails a j b k n u es at l is o in_table f (step_err view (named n) l u r f up h)

  -- if the first name decides, what was read from its value is what the row reads, and an error about its value is an error
  -- about the object
  pub first_read : (u : Tree) → Decides a b a es u → {X : Type 0} (view : X → Form) (r s : Result X Fault)
      → AtStep (named a) r s → ReadAs view r j u
      → RowReadAs (λ x. deciding a (view x)) s o (either a j b k) (members_of es)
  first_read u at view r s up h = decided_read a u at j (is_first a j b k a (same_text-refl a)) view r s up h

  -- the same if the second name decides, and is not equal to the first
  pub second_read : (u : Tree) → Decides a b b es u → same_text a b ≡ false → {X : Type 0} (view : X → Form)
      (r s : Result X Fault) → AtStep (named b) r s → ReadAs view r k u
      → RowReadAs (λ x. deciding b (view x)) s o (either a j b k) (members_of es)
  second_read u at other view r s up h = decided_read b u at k (is_second a j b k b other) view r s up h

-- the member of the name that decides, written after the members of the slots before
module _ (ss : List Slot) (a : List ℕ) (j : Kind) (b : List ℕ) (k : Kind) (n : List ℕ) (f : Form)
    (at : slot_where (is_named a) ss ≡ Some (either a j b k, deciding n f)) (out : Entries Tree)
    (done : IsWritten final_tables (before (is_named a) ss) out) (of_two : is_either a b n ≡ true) where
  abbrev the_slot : Slot
  the_slot = (either a j b k, deciding n f)

  -- if no name is taken by two slots, its name is not among the members written so far
  pub decided_new : slots_apart ss ≡ true → get n out ≡ None
  decided_new apart = is_new final_tables ss (is_named a) the_slot at out done apart n of_two

  module _ (l : Kind) (is : cond (same_text a n) j k ≡ l) where
    -- if it is appended and nothing in it is unwritable, the slots up to and including the row are written
    pub decided_put : {A : Type 0} (r : Result A Fault) (new : Entries Tree)
        → OnOk r (new ≡ out ++ (n, print final_tables l f) ∷ []) → OnOk r (unwritable final_tables l f ≡ [])
        → OnOk r (IsWritten final_tables (through (is_named a) ss) new)
    decided_put (Ok x) new e w =
        one_put final_tables ss (is_named a) the_slot at out done n (print final_tables l f) new of_two
        (ap (λ i. one n (print final_tables i f)) is)
        (ap (λ i. each_below (named n) (unwritable final_tables i f)) is ∙ ap (each_below (named n)) w) e
    decided_put (Err g) new e w = tt

    -- an error of writing it is an error of writing the object
    pub decided_loses : {A : Type 0} (r : Result A Fault)
        → IfErr r (λ g. NotWritableBelow (named n) g (unwritable final_tables l f))
        → IfErr r (λ g. NotWritable g (slots_lost final_tables ss))
    decided_loses (Ok x) h = tt
    decided_loses (Err g) h =
        loses_above (named n) g (unwritable final_tables l f) (slots_lost final_tables ss)
        (λ q m. slot_loses final_tables ss (is_named a) the_slot at out done (named n ∷ q)
        (subst (λ i. Among (named n ∷ q) (each_below (named n) (unwritable final_tables i f))) (sym is)
        (below_each (named n) q (unwritable final_tables l f) m))) h
