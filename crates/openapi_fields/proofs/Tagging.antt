-- Objects whose tag selects the field table by which they are read.
use Rattle.std.proofs.Common.{◌≡◌, ℕ, ◌+◌, ◌*◌, ◌≤◌, Bool, true, false, cond, ◌&&◌, ◌||◌, List, [], ◌∷◌, ◌++◌, Option}
use Rattle.std.proofs.Common.{Some, None, Result, Ok, Err, OnOk, IfOk, refl, sym, ap, ◌∙◌, subst, arith, inl, inr}
use Rattle.std.proofs.lemmas.Bool.{and_parts}
use Rattle.std.specs.Borrow.{Bor}
use Rattle.openapi_map.specs.Entries.{Entries, get}
use Rattle.openapi_map.specs.declared.OrderedMap.{OrderedMap}
use Rattle.openapi_node.specs.Place.{named}
use Rattle.openapi_node.specs.Tree.{Tree, null, text, object, Members, members_size, size_of, find, members_of}
use Rattle.openapi_node.specs.View.{shown}
use Rattle.openapi_node.specs.declared.fault.Expected.TheVariants as expected
use Rattle.openapi_node.specs.declared.fault.Fault.{Fault}
use Rattle.openapi_node.specs.declared.node.Node.{Node}
use Rattle.openapi_node.specs.declared.node.View.{View}
use Rattle.openapi_node.specs.declared.node.View.TheVariants as v
use Rattle.openapi_tables.specs.Prelude.{Kind, any_tree, by, tagged, one_of, required, Case, row, constant, every, each}
use Rattle.openapi_tables.specs.Prelude.{same_text, Seen, Shape, on_entry, of_members, members_list, final_tables}
use Rattle.openapi_tables.specs.Prelude.{tables_with, security_scheme, parameter, own, held, first_tree, trees}
use Rattle.openapi_tables.specs.Prelude.{tag_choice, choice, is_case, case_rows, rows_of, checked_rows, conforms}
use Rattle.openapi_tables.specs.Prelude.{root_conforms, chosen_holds, constant_holds, row_holds, Form, absent, fields}
use Rattle.openapi_tables.specs.Prelude.{forms_of, form, root_form, chosen_form, slot, print, one, unwritable, sound}
use Rattle.openapi_tables.specs.Prelude.{rows_apart, causes, wrong_kind, Asking, words, tag_table, root_asks, asked}
use Rattle.openapi_tables.specs.Prelude.{asks_own, asks_tag, below, Among, AreRows, rows_weight, row_weight, Broken}
use Rattle.openapi_tables.specs.Prelude.{StepsTo, asking, is_named, Slot, slot_where, before, through, slots_apart}
use Rattle.openapi_tables.specs.Prelude.{slots_lost, IsWritten}
use Rattle.openapi_tables.specs.Members.{tag}
use Rattle.openapi_tables.specs.Faults.{missing, tag_misses}
use Rattle.openapi_tables.proofs.ListLaws.{same_text_eq, same_text-refl}
use Rattle.openapi_tables.proofs.TreeLaws.{see}
use Rattle.openapi_tables.proofs.Taken.{trees_of-members}
use Rattle.openapi_tables.proofs.WeightLaws.{rows_weight-le}
use Rattle.openapi_tables.proofs.ByRowLaws.{own-found, own-missing, own-members, entry, broken_root, rows_hold}
use Rattle.openapi_tables.proofs.ByRowLaws.{among_left, among_right, among_below}
use Rattle.openapi_tables.proofs.SlotWriting.{slots_apart-rows, fields_print, fields_lost, is_new, one_put}
use Rattle.openapi_fields.specs.Forms.{tagged_form, tagged_slots}
use Rattle.openapi_fields.specs.Reading.{IsCaseRead}
use Rattle.openapi_fields.specs.Returned.{ReadAs, RowsReadAs, RisesBelow, RisesBy, looks}
use Rattle.openapi_fields.proofs.Referring.{fails_wider, held_found, held_missing}

-- the kind of a security scheme is well made
pub security_scheme_sound : sound final_tables security_scheme ≡ true
unfolding final_tables tables_with
security_scheme_sound = refl

-- the kind of a parameter is well made
pub parameter_sound : sound final_tables parameter ≡ true
unfolding final_tables tables_with
parameter_sound = refl

-- the rows that the text of a tag selects are those of its table
case_table : (cs : List Case) (s : List ℕ) → is_case cs s ≡ true
    → case_rows final_tables cs s ≡ final_tables (tag_table cs s)
case_table [] s h = cc
case_table (c ∷ cs) s h = go (λ g. case_table cs s g) (same_text c.word s) h
  where
    go : (is_case cs s ≡ true → case_rows final_tables cs s ≡ final_tables (tag_table cs s)) → (b : Bool)
        → (b || is_case cs s) ≡ true
        → cond b (final_tables c.table) (case_rows final_tables cs s)
        ≡ final_tables (cond b c.table (tag_table cs s))
    go more true g = refl
    go more false g = more g

abbrev all_apart : List ℕ → List Case → Bool
all_apart n cs = every (λ (c : Case). rows_apart (constant n c.word ∷ final_tables c.table)) cs

case_apart : (n : List ℕ) (cs : List Case) (s : List ℕ) → is_case cs s ≡ true
    → all_apart n cs ≡ true
    → rows_apart (constant n s ∷ final_tables (tag_table cs s)) ≡ true
case_apart n [] s h w = cc
case_apart n (c ∷ cs) s h w = go (λ g. case_apart n cs s g rest) (same_text c.word s) refl h
  where
    first : rows_apart (constant n c.word ∷ final_tables c.table) ≡ true
    first = (and_parts (rows_apart (constant n c.word ∷ final_tables c.table)) (all_apart n cs) w).0

    rest : all_apart n cs ≡ true
    rest = (and_parts (rows_apart (constant n c.word ∷ final_tables c.table)) (all_apart n cs) w).1

    go : (is_case cs s ≡ true → rows_apart (constant n s ∷ final_tables (tag_table cs s)) ≡ true) → (b : Bool)
        → same_text c.word s ≡ b → (b || is_case cs s) ≡ true
        → rows_apart (constant n s ∷ final_tables (cond b c.table (tag_table cs s))) ≡ true
    go more true q g =
        subst (λ t. rows_apart (constant n t ∷ final_tables c.table) ≡ true) (same_text_eq c.word s q) first
    go more false q g = more g

-- the members that the row of a name takes, if a member has the name
module _ (n : List ℕ) (v : List ℕ) (ms : Members) (u : Tree) (there : find n ms ≡ Some u) where
  seen : {X : Type 0} (f : Shape (Seen X) → X) → own (constant n v) (of_members f ms)
      ≡ on_entry (see f) (entry n u) ∷ each (on_entry (see f)) (own-found n required any_tree ms u there).rest
  seen f =
      own-members f (constant n v) ms ∙ ap (each (on_entry (see f))) (own-found n required any_tree ms u there).is

tag_there : (n : List ℕ) (s : List ℕ) (ms : Members) → held n (members_list ms) ≡ text s → find n ms ≡ Some (text s)
tag_there n s ms h = go (find n ms) refl
  where
    go : (o : Option Tree) → find n ms ≡ o → o ≡ Some (text s)
    go None e = let no : null ≡ text s = sym (held_missing n ms e) ∙ h in cc
    go (Some u) e = ap Some (sym (held_found n ms u e) ∙ h)

-- an object whose tag has one of the words
module _ (n : List ℕ) (cs : List Case) (s : List ℕ) (ms : Members) (at : held n (members_list ms) ≡ text s)
    (one_of_them : is_case cs s ≡ true) where
  the_choice : {X : Type 0} (f : Shape (Seen X) → X)
      → choice (tagged n cs) (trees (of_members f ms)) ≡ Some (tag s)
  the_choice f =
      ap (λ l. tag_choice cs (held n l)) (trees_of-members f ms) ∙ ap (tag_choice cs) at
      ∙ ap (λ b. cond b (Some (tag s)) None) one_of_them

  tag_holds : row_holds (of_members (root_conforms final_tables) ms) (constant n s) ≡ true
  tag_holds =
      ap (constant_holds s) (seen n s ms (text s) (tag_there n s ms at) (root_conforms final_tables))
      ∙ same_text-refl s

  tagged_reads : (fs : List Form) → AreRows final_tables (final_tables (tag_table cs s)) fs ms
      → (conforms final_tables (tagged n cs) (object ms) ≡ true)
      × (form final_tables (tagged n cs) (object ms) ≡ fields (tag s) (forms_of (absent ∷ fs)))
  unfolding checked_rows rows_of
  tagged_reads fs h =
      let rows = rows_hold final_tables (final_tables (tag_table cs s)) fs ms h in
      let same = case_table cs s one_of_them in
      let holds = of_members (root_conforms final_tables) ms in
      let reads = of_members (root_form final_tables) ms in (
        ap (chosen_holds final_tables (tagged n cs) holds) (the_choice (root_conforms final_tables))
            ∙ (λ i. tag_holds i && every (row_holds holds) (same i)) ∙ rows.0,
        ap (chosen_form final_tables (tagged n cs) reads) (the_choice (root_form final_tables))
            ∙ ap (λ ws. fields (tag s) (forms_of (absent ∷ each (slot reads) ws))) same
            ∙ ap (λ l. fields (tag s) (forms_of (absent ∷ l))) rows.1,
      )

  tagged_asks : (a : Asking) → Among a (asked final_tables (by (tag_table cs s)) (object ms))
      → Among a (asked final_tables (tagged n cs) (object ms))
  tagged_asks a h =
      let es = of_members (root_asks final_tables) ms in
      inr (among_right a (asks_own (row n required (one_of (words cs))) (own (constant n []) es))
      (asks_tag final_tables n cs es (choice (tagged n cs) (trees es)))
      (subst (λ o. Among a (asks_tag final_tables n cs es o)) (sym (the_choice (root_asks final_tables))) h))

  -- what is read by the table of the tag is what is read from the object, and an error is an error about the object
  pub tagged_gives : {X : Type 0} (word : X → List ℕ) (rows : X → List Form) (r : Result X Fault)
      → IfOk r (λ x. word x ≡ s) → RowsReadAs rows r (by (tag_table cs s)) ms
      → ReadAs (tagged_form word rows) r (tagged n cs) (object ms)
  tagged_gives word rows (Ok x) w h =
      let r = tagged_reads (rows x) h in
      (r.0, r.1 ∙ ap (λ t. fields (tag t) (forms_of (absent ∷ rows x))) (sym w))
  tagged_gives word rows (Err f) w h =
      fails_wider f (by (tag_table cs s)) (tagged n cs) (object ms) tagged_asks h

  -- the members that the tag and the rows of its table take contain at most as many values as all members
  pub tagged_weight : (k : Kind) → sound final_tables (tagged n cs) ≡ true
      → row_weight (row n required k) ms + rows_weight (final_tables (tag_table cs s)) ms ≤ members_size ms
  unfolding row_weight
  tagged_weight k w =
      rows_weight-le (constant n s ∷ final_tables (tag_table cs s)) ms (case_apart n cs s one_of_them w)

  -- what is read from the object, and how far the access count rises, given what the reader of the case returned
  pub tagged_read : {X : Type 0} (word_of : X → List ℕ) (rows : X → List Form) (k : Kind) (r : Result X Fault)
      {before looked after : ℕ} → sound final_tables (tagged n cs) ≡ true
      → RisesBy before looked (3 * row_weight (row n required k) ms)
      → IsCaseRead word_of rows r s (tag_table cs s) ms looked after
      → record {
        reads : ReadAs (tagged_form word_of rows) r (tagged n cs) (object ms);
        count : RisesBelow before after (looks (tagged n cs) + 3 * size_of (object ms));
      }
  tagged_read word_of rows k r w look read =
      record {
        reads = tagged_gives word_of rows r read.word read.reads;
        count = (
          omega (arith, look.0, read.count.0),
          omega (arith, look.1, read.count.1, tagged_weight k w),
        );
      }

-- the fault of an object that lacks its tag is that the tag is missing
pub tag_missing : (n : List ℕ) (cs : List Case) (ms : Members) → find n ms ≡ None
    → Broken final_tables (tagged n cs) (object ms) [] (missing n)
tag_missing n cs ms none =
    broken_root final_tables (tagged n cs) (object ms) (missing n)
    (subst (λ l. Among (missing n) (tag_misses n l)) (sym (own-missing n required any_tree ms none)) (inl refl))

-- that the value of the tag is one of the words is a requirement of the object, at the name of the tag
pub tag_asks : (n : List ℕ) (cs : List Case) (ms : Members) (u : Tree) → find n ms ≡ Some u
    → StepsTo final_tables (tagged n cs) (object ms) (named n) (one_of (words cs)) u
tag_asks n cs ms u there p j v h =
    let es = of_members (root_asks final_tables) ms in
    let mine = asks_own (row n required (one_of (words cs))) (own (constant n []) es) in
    let one : mine ≡ below (named n) (asked final_tables (one_of (words cs)) u) =
    ap (asks_own (row n required (one_of (words cs)))) (seen n [] ms u there (root_asks final_tables)) in
    inr (among_left (asking (named n ∷ p) j v) mine
    (asks_tag final_tables n cs es (choice (tagged n cs) (trees es)))
    (subst (λ l. Among (asking (named n ∷ p) j v) l) (sym one)
    (among_below (named n) p j v (asked final_tables (one_of (words cs)) u) h)))

-- an object that is written by the table of its tag
module _ (n : List ℕ) (cs : List Case) {X : Type 0} (word : X → List ℕ) (rows : X → List Form) (x : X)
    (one_of_them : is_case cs (word x) ≡ true) where
  chosen_by : choice (tagged n cs) (one n (text (word x))) ≡ Some (tag (word x))
  chosen_by =
      ap (λ b. tag_choice cs (first_tree (cond b (one n (text (word x))) []))) (same_text-refl n)
      ∙ ap (λ b. cond b (Some (tag (word x))) None) one_of_them

  -- the object of the members that its slots are written as is what its form is written as, and nothing in the form is
  -- unwritable
  pub tagged_writes : (node : Tree) (out : Entries Tree) → IsWritten final_tables (tagged_slots n cs word rows x) out
      → node ≡ object (members_of out)
      → (node ≡ print final_tables (tagged n cs) (tagged_form word rows x))
      × (unwritable final_tables (tagged n cs) (tagged_form word rows x) ≡ [])
  unfolding rows_of
  tagged_writes node out g e = (
    e ∙ ap (λ es. object (members_of es)) g.members
        ∙ sym (fields_print final_tables (tagged n cs) (tag (word x)) (one n (text (word x))) (absent ∷ rows x)
        chosen_by),
    fields_lost final_tables (tagged n cs) (tag (word x)) (one n (text (word x))) (absent ∷ rows x) chosen_by
        ∙ g.nothing_lost,
  )

  -- what is unwritable in its slots is what is unwritable in its form
  pub tagged_loses : slots_lost final_tables (tagged_slots n cs word rows x)
      ≡ unwritable final_tables (tagged n cs) (tagged_form word rows x)
  unfolding rows_of
  tagged_loses =
      sym (fields_lost final_tables (tagged n cs) (tag (word x)) (one n (text (word x))) (absent ∷ rows x) chosen_by)

  -- no name is taken by two of its slots, if its kind is well made
  pub tagged_apart : sound final_tables (tagged n cs) ≡ true
      → slots_apart (tagged_slots n cs word rows x) ≡ true
  tagged_apart w =
      slots_apart-rows (constant n (word x) ∷ case_rows final_tables cs (word x)) (absent ∷ rows x)
      (subst (λ ws. rows_apart (constant n (word x) ∷ ws) ≡ true) (sym (case_table cs (word x) one_of_them))
      (case_apart n cs (word x) one_of_them w))

-- the tag, written after the members of the slots before
module _ (ss : List Slot) (n v : List ℕ) (at : slot_where (is_named n) ss ≡ Some (constant n v, absent))
    (out : Entries Tree) (done : IsWritten final_tables (before (is_named n) ss) out) where
  -- if no name is taken by two slots, its name is not among the members written so far
  pub tag_new : slots_apart ss ≡ true → get n out ≡ None
  tag_new a = is_new final_tables ss (is_named n) (constant n v, absent) at out done a n (same_text-refl n)

  -- if a member of its name and its word is appended, the slots up to and including the tag are written
  pub tag_put : {A : Type 0} (r : Result A Fault) (new : Entries Tree) (t : Tree) → t ≡ text v
      → OnOk r (new ≡ out ++ (n, t) ∷ []) → OnOk r (IsWritten final_tables (through (is_named n) ss) new)
  tag_put (Ok x) new t q e =
      one_put final_tables ss (is_named n) (constant n v, absent) at out done n (text v) new (same_text-refl n) refl
      refl (e ∙ ap (λ u. out ++ (n, u) ∷ []) q)
  tag_put (Err g) new t q e = tt

-- a view of anything but an object is of the wrong kind, where an object with a tag is expected
pub not_tagged : (n : List ℕ) (cs : List Case) (w : View) → ((m : Bor (OrderedMap Node)) → w ≡ v.Object m → ⊥)
    → Among (wrong_kind expected.Object) (causes final_tables (tagged n cs) (shown w))
not_tagged n cs (v.Object m) h = absurd (h m refl)
not_tagged n cs w h = inl refl

-- the members that the tag alone takes contain at most as many values as all members
pub tag_weight : (n : List ℕ) (k : Kind) (ms : Members) → row_weight (row n required k) ms ≤ members_size ms
tag_weight n k ms = omega (arith, rows_weight-le (row n required k ∷ []) ms refl)
