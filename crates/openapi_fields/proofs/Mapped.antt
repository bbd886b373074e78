-- Maps, given what is read from their entries and what these are written as.
use Rattle.std.proofs.Common.{◌≡◌, ℕ, ◌+◌, Bool, true, ◌&&◌, List, [], ◌∷◌, Result, Ok, Err, refl, sym, ap, ◌∙◌, subst}
use Rattle.std.proofs.Common.{inl, inr, ⊎_elim}
use Rattle.std.proofs.lemmas.Bool.{and_parts}
use Rattle.openapi_map.specs.Entries.{Entries}
use Rattle.openapi_node.specs.Place.{Place, named}
use Rattle.openapi_node.specs.Tree.{Tree, object, members_of, members_size, size_of, member}
use Rattle.openapi_node.specs.declared.fault.Fault.{Fault}
use Rattle.openapi_tables.specs.Prelude.{Kind, map_of, each, every, join, is_empty, final_tables, of_members}
use Rattle.openapi_tables.specs.Prelude.{members_of as table_members, conforms, root_conforms, Form, Key, name}
use Rattle.openapi_tables.specs.Prelude.{named as named_form, named_of, form, root_form, pairs_as, print, unwritable}
use Rattle.openapi_tables.specs.Prelude.{each_below, lost_pairs, face_lost, root_asks, asked, asks_members, below}
use Rattle.openapi_tables.specs.Prelude.{Among, StepsTo, asking, pairs_of}
use Rattle.openapi_tables.proofs.ByRowLaws.{among_left, among_right, among_below}
use Rattle.openapi_tables.proofs.FormLaws.{on_pair, show, of_named-of}
use Rattle.openapi_tables.proofs.PrintLaws.{print-map, entry_of}
use Rattle.openapi_tables.proofs.SlotWriting.{below_each}
use Rattle.openapi_fields.specs.Entries.{chosen, entries_size, EntriesReadAs, written_entries, all_whole}
use Rattle.openapi_fields.specs.Entries.{EntryNotWritable, EntriesNotWritable}
use Rattle.openapi_fields.specs.Forms.{map_form}
use Rattle.openapi_fields.specs.Returned.{FailsBelow, ReadAs, NotWritable}
use Rattle.openapi_fields.proofs.Below.{memory_fails, fails_above}
use Rattle.openapi_fields.proofs.Losing.{memory_loses, loses_above}

-- a test that every name passes
abbrev all : List ℕ → Bool
all n = true

-- if every name passes, all entries are chosen
pub all_chosen : {X : Type 0} (es : Entries X) → chosen all es ≡ es
all_chosen [] = refl
all_chosen (e ∷ es) = ap (λ l. e ∷ l) (all_chosen es)

-- entries hold as many values as the members that they make
pub all_size : (es : Entries Tree) → entries_size es ≡ members_size (members_of es)
all_size [] = refl
all_size (e ∷ es) = ap (λ n. size_of e.1 + n) (all_size es)

-- what is read from entries, if the key of each name is that name
pub named_forms : (g : List ℕ → Key) → ((n : List ℕ) → g n ≡ name n) → (k : Kind) (es : Entries Tree)
    → pairs_as g k (of_members (root_form final_tables) (members_of es)) ≡ pairs_of (form final_tables k) es
named_forms g h k [] = refl
named_forms g h k (e ∷ es) = λ j. record { key = h e.0 j; value = form final_tables k e.1 } ∷ named_forms g h k es j

-- entries conform as a map if and only if each value conforms
pub map_conforms : (k : Kind) (es : Entries Tree) → conforms final_tables (map_of k) (object (members_of es))
    ≡ every (λ (e : List ℕ × Tree). conforms final_tables k e.1) es
map_conforms k es = go es
  where
    go : (es : Entries Tree) → every (λ e. e.value.answer k) (of_members (root_conforms final_tables) (members_of es))
        ≡ every (λ (e : List ℕ × Tree). conforms final_tables k e.1) es
    go [] = refl
    go (e ∷ es) = ap (λ b. conforms final_tables k e.1 && b) (go es)

map_forms : (k : Kind) (es : Entries Tree) → form final_tables (map_of k) (object (members_of es))
    ≡ named_form (named_of (pairs_of (form final_tables k) es))
map_forms k es = ap (λ l. named_form (named_of l)) (named_forms name (λ n. refl) k es)

-- each requirement of `k` in the value of an entry is a requirement of the entries, below the name of the entry
pub entry_asked : (k : Kind) (es : Entries Tree) (e : List ℕ × Tree) (p : Place) (j : Kind) (v : Tree) → Among e es
    → Among (asking p j v) (asked final_tables k e.1)
    → Among (asking (named e.0 ∷ p) j v) (asks_members k (of_members (root_asks final_tables) (members_of es)))
entry_asked k [] e p j v h a = absurd h
entry_asked k (d ∷ es) e p j v (inl s) a =
    among_left (asking (named e.0 ∷ p) j v) (below (named d.0) (asked final_tables k d.1))
    (asks_members k (of_members (root_asks final_tables) (members_of es)))
    (subst (λ (x : List ℕ × Tree). Among (asking (named e.0 ∷ p) j v) (below (named x.0) (asked final_tables k x.1))) s
    (among_below (named e.0) p j v (asked final_tables k e.1) a))
entry_asked k (d ∷ es) e p j v (inr s) a =
    among_right (asking (named e.0 ∷ p) j v) (below (named d.0) (asked final_tables k d.1))
    (asks_members k (of_members (root_asks final_tables) (members_of es))) (entry_asked k es e p j v s a)

entry_leads : (k : Kind) (es : Entries Tree) (e : List ℕ × Tree) → Among e es
    → StepsTo final_tables (map_of k) (object (members_of es)) (named e.0) k e.1
entry_leads k es e h p j v a = inr (entry_asked k es e p j v h a)

module _ {X : Type 0} (view : X → Form) (k : Kind) where
  -- what is read from the entries of a map is what is read from the map, and an error about an entry is an error about the
  -- map
  pub map_gives : (r : Result (Entries X) Fault) (es : Entries Tree) → EntriesReadAs view r k (chosen all es)
      → ReadAs (map_form view) r (map_of k) (object (members_of es))
  map_gives (Ok m) es h = (
    map_conforms k es ∙ sym (ap (every (λ (e : List ℕ × Tree). conforms final_tables k e.1)) (all_chosen es)) ∙ h.0,
    map_forms k es ∙ ap (λ l. named_form (named_of l)) (sym (ap (pairs_of (form final_tables k)) (all_chosen es))
        ∙ h.1),
  )
  map_gives (Err f) es h =
      ⊎_elim (λ m. memory_fails f (map_of k) (object (members_of es)) m)
      (λ (x : (e : List ℕ × Tree) × Among e (chosen all es) × FailsBelow (named e.0) f k e.1).
      fails_above (named (x.0).0) f (map_of k) k (object (members_of es)) (x.0).1
      (entry_leads k es x.0 (subst (λ l. Among x.0 l) (all_chosen es) x.1)) x.2) h

  -- the members that a map is written as
  entries_print : (vs : Entries X) → table_members (each (entry_of final_tables k) (pairs_of view vs))
      ≡ members_of (written_entries view k vs)
  entries_print [] = refl
  entries_print (e ∷ vs) = ap (λ ms. member e.0 (print final_tables k (view e.1)) ms) (entries_print vs)

  empty_is : (ps : List Place) → is_empty ps ≡ true → ps ≡ []
  empty_is [] h = refl
  empty_is (q ∷ ps) h = cc

  lost_of : (vs : Entries X) → unwritable final_tables (map_of k) (map_form view vs)
      ≡ lost_pairs k (each (on_pair (show (face_lost final_tables))) (pairs_of view vs))
  lost_of vs = ap (lost_pairs k) (of_named-of (face_lost final_tables) (pairs_of view vs))

  nothing_lost : (vs : Entries X) → all_whole view k vs ≡ true
      → lost_pairs k (each (on_pair (show (face_lost final_tables))) (pairs_of view vs)) ≡ []
  nothing_lost [] h = refl
  nothing_lost (e ∷ vs) h =
      let p = and_parts (is_empty (unwritable final_tables k (view e.1))) (all_whole view k vs) h in
      ap (λ l. join (each_below (named e.0) l) (lost_pairs k (each (on_pair (show (face_lost final_tables)))
      (pairs_of view vs))))
      (empty_is (unwritable final_tables k (view e.1)) p.0)
      ∙ nothing_lost vs p.1

  -- if nothing in its values is unwritable, a map is written as the object of the nodes that they are written as
  pub map_written : (vs : Entries X) (out : Entries Tree) (node : Tree) → out ≡ written_entries view k vs
      → all_whole view k vs ≡ true → node ≡ object (members_of out)
      → (node ≡ print final_tables (map_of k) (map_form view vs)) × (unwritable final_tables (map_of k) (map_form
      view vs) ≡ [])
  map_written vs out node e h n = (
    n ∙ ap (λ l. object (members_of l)) e ∙ sym (print-map final_tables k (pairs_of view vs)
        ∙ ap object (entries_print vs)),
    lost_of vs ∙ nothing_lost vs h,
  )

  lost_at : (vs : Entries X) (e : List ℕ × X) (q : Place) → Among e vs → Among q (unwritable final_tables k (view e.1))
      → Among (named e.0 ∷ q) (lost_pairs k (each (on_pair (show (face_lost final_tables))) (pairs_of view vs)))
  lost_at [] e q h a = absurd h
  lost_at (d ∷ vs) e q (inl s) a =
      among_left (named e.0 ∷ q) (each_below (named d.0) (unwritable final_tables k (view d.1)))
      (lost_pairs k (each (on_pair (show (face_lost final_tables))) (pairs_of view vs)))
      (subst (λ (x : List ℕ × X). Among (named e.0 ∷ q) (each_below (named x.0) (unwritable final_tables k (view
      x.1)))) s
      (below_each (named e.0) q (unwritable final_tables k (view e.1)) a))
  lost_at (d ∷ vs) e q (inr s) a =
      among_right (named e.0 ∷ q) (each_below (named d.0) (unwritable final_tables k (view d.1)))
      (lost_pairs k (each (on_pair (show (face_lost final_tables))) (pairs_of view vs))) (lost_at vs e q s a)

  -- an error of writing its entries is an error of writing the map
  pub map_loses : (vs : Entries X) (f : Fault) → EntriesNotWritable all view k f vs
      → NotWritable f (unwritable final_tables (map_of k) (map_form view vs))
  map_loses vs f h =
      ⊎_elim (λ m. memory_loses f (unwritable final_tables (map_of k) (map_form view vs)) m)
      (λ (x : (e : List ℕ × X) × Among e vs × EntryNotWritable all view k f e). one x.0 x.1 x.2) h
    where
      one : (e : List ℕ × X) → Among e vs → EntryNotWritable all view k f e
          → NotWritable f (unwritable final_tables (map_of k) (map_form view vs))
      one e a (inl bad) = absurd cc
      one e a (inr l) =
          loses_above (named e.0) f (unwritable final_tables k (view e.1)) (unwritable final_tables (map_of k)
          (map_form view vs))
          (λ q g. subst (λ ps. Among (named e.0 ∷ q) ps) (sym (lost_of vs)) (lost_at vs e q a g)) l
