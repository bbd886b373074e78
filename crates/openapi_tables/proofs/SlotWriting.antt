-- Slots that are written one after another.
pub use Rattle.openapi_tables.proofs.SlotLists.{fields_print, fields_lost, slots_apart-rows, table_apart, below_each}
use Rattle.std.proofs.Common.{◌≡◌, ℕ, suc, zero, Bool, true, false, cond, ◌&&◌, List, [], ◌∷◌, ◌++◌, take, slice_get}
use Rattle.std.proofs.Common.{Some, None, refl, sym, ap, ◌∙◌, subst, inl, inr}
use Rattle.std.proofs.lemmas.Bool.{and_parts, and_from}
use Rattle.openapi_map.specs.Entries.{Entries, get, HasDistinctNames}
use Rattle.openapi_map.proofs.EntryLemmas.{absent-next}
use Rattle.openapi_node.specs.Place.{Place, named as at_name}
use Rattle.openapi_node.specs.Tree.{Tree}
use Rattle.openapi_tables.specs.Prelude.{each, join, every, is_empty, Kind, map_of, Mode, Class, Row, row, class, takes}
use Rattle.openapi_tables.specs.Prelude.{in_class, Tables, TableName, final_tables, Form, named, named_of, Pair, print}
use Rattle.openapi_tables.specs.Prelude.{is_silent, row_print, one, members_in, text_of_key, unwritable, each_below}
use Rattle.openapi_tables.specs.Prelude.{row_lost, face_lost, lost_pairs, is_written, Among, is_named, is_class, Slot}
use Rattle.openapi_tables.specs.Prelude.{slots, slot_where, before, through, slots_apart, slots_print, slots_lost}
use Rattle.openapi_tables.specs.Prelude.{untied, all_taken, IsWritten}
use Rattle.openapi_tables.specs.Unwritable.{lost_keys}
use Rattle.openapi_tables.specs.Slots.{printed, lost}
use Rattle.openapi_tables.proofs.ListLaws.{same_text-refl, join-nil}
use Rattle.openapi_tables.proofs.FormLaws.{on_pair, show, of_named-of}
use Rattle.openapi_tables.proofs.PrintLaws.{print-map, entry_of}
use Rattle.openapi_tables.proofs.WellMade.{final_sound}
use Rattle.openapi_tables.proofs.TreeLaws.{members_list-of}
use Rattle.openapi_tables.proofs.ByRowLaws.{among_left, among_right}
use Rattle.openapi_tables.proofs.SlotLists.{append_nil, get_none, get_none-append, taken-last, through-before}
use Rattle.openapi_tables.proofs.SlotLists.{not_taken, untied-join, slots_print-join, slots_lost-join, all_taken-append}
use Rattle.openapi_tables.proofs.SlotLists.{all_taken-first}

-- The slot of a row that passes a test, where the slots before it are written.
module _ (T : Tables) (ss : List Slot) (p : Row → Bool) (s : Slot) (at : slot_where p ss ≡ Some s) (out : Entries Tree)
    (done : IsWritten T (before p ss) out) where
  -- if the members that the slot is written as are appended, the slots up to this one are written
  pub slot_put : (more new : Entries Tree) → new ≡ out ++ more → more ≡ untied (row_print s.0 (printed T s.1))
      → row_lost s.0 (lost T s.1) ≡ [] → all_taken (join (before p ss) (s ∷ [])) more ≡ true
      → IsWritten T (through p ss) new
  unfolding slots_print slots_lost
  slot_put more new e f l t =
      let split = through-before p ss s at in
      let mine = row_print s.0 (printed T s.1) in
      record {
        members = e ∙ (λ j. done.members j ++ f j) ∙ sym (untied-join (slots_print T (before p ss)) mine)
            ∙ ap (λ r. untied (join (slots_print T (before p ss)) r)) (sym (join-nil mine))
            ∙ ap untied (sym (slots_print-join T (before p ss) (s ∷ [])))
            ∙ ap (λ r. untied (slots_print T r)) (sym split);
        nothing_lost = ap (slots_lost T) split ∙ slots_lost-join T (before p ss) (s ∷ [])
            ∙ (λ j. join (done.nothing_lost j) (join (l j) []));
        names = (λ j. all_taken (split j) (e j))
            ∙ all_taken-append (join (before p ss) (s ∷ [])) out more
            (all_taken-first (before p ss) (s ∷ []) out done.names) t;
      }

  taken_one : (n : List ℕ) (t : Tree) → takes s.0 n ≡ true
      → all_taken (join (before p ss) (s ∷ [])) ((n, t) ∷ []) ≡ true
  unfolding all_taken
  taken_one n t h = ap (λ b. b && true) (taken-last (before p ss) s n h)

  -- the same for one member
  pub one_put : (n : List ℕ) (t : Tree) (new : Entries Tree) → takes s.0 n ≡ true
      → row_print s.0 (printed T s.1) ≡ one n t → row_lost s.0 (lost T s.1) ≡ [] → new ≡ out ++ (n, t) ∷ []
      → IsWritten T (through p ss) new
  one_put n t new h f l e = slot_put ((n, t) ∷ []) new e (ap untied (sym f)) l (taken_one n t h)

  taken_none : all_taken (join (before p ss) (s ∷ [])) [] ≡ true
  unfolding all_taken
  taken_none = refl

  -- the same for no member
  pub none_put : row_print s.0 (printed T s.1) ≡ [] → row_lost s.0 (lost T s.1) ≡ [] → IsWritten T (through p ss) out
  none_put f l = slot_put [] out (sym (append_nil out)) (ap untied (sym f)) l taken_none

  -- an unwritable location of the slot is one of the object
  pub slot_loses : (q : Place) → Among q (row_lost s.0 (lost T s.1)) → Among q (slots_lost T ss)
  unfolding slots_lost
  slot_loses q h = go ss at
    where
      go : (ss : List Slot) → slot_where p ss ≡ Some s → Among q (slots_lost T ss)
      go [] e = cc
      go (x ∷ ss) e = step (λ r. go ss r) (p x.0) e
        where
          step : (slot_where p ss ≡ Some s → Among q (slots_lost T ss)) → (b : Bool)
              → cond b (Some x) (slot_where p ss) ≡ Some s
              → Among q (join (row_lost x.0 (lost T x.1)) (slots_lost T ss))
          step more true r =
              let y : s ≡ x = cc in
              among_left q (row_lost x.0 (lost T x.1)) (slots_lost T ss)
              (subst (λ z. Among q (row_lost z.0 (lost T z.1))) y h)
          step more false r = among_right q (row_lost x.0 (lost T x.1)) (slots_lost T ss) (more r)

  -- if the slots are apart, a name that the row takes is new
  module _ (apart : slots_apart ss ≡ true) where
    -- no member has it yet: no slot before this one takes it
    pub is_new : (n : List ℕ) → takes s.0 n ≡ true → get n out ≡ None
    is_new n t = get_none (before p ss) out n done.names (not_taken p ss s n apart at t)

-- the slot of a row of one name, where the slots before it are written
module _ (T : Tables) (ss : List Slot) (n : List ℕ) (m : Mode) (k : Kind) (f : Form)
    (at : slot_where (is_named n) ss ≡ Some (row n m k, f)) (out : Entries Tree)
    (done : IsWritten T (before (is_named n) ss) out) where
  abbrev the_slot : Slot
  the_slot = (row n m k, f)

  -- no member has its name yet, if no two of the slots take the same name
  pub row_new : slots_apart ss ≡ true → get n out ≡ None
  row_new a = is_new T ss (is_named n) the_slot at out done a n (same_text-refl n)

  -- if its value is appended and has no unwritable location, the slots up to this one are written
  pub row_put : (new : Entries Tree) → is_silent m f ≡ false → unwritable T k f ≡ []
      → new ≡ out ++ (n, print T k f) ∷ [] → IsWritten T (through (is_named n) ss) new
  row_put new loud l e =
      one_put T ss (is_named n) the_slot at out done n (print T k f) new (same_text-refl n)
      (ap (λ b. cond b [] (one n (print T k f))) loud) (ap (λ ps. each_below (at_name n) ps) l) e

  -- if its value is omitted and has no unwritable location, the slots up to this one are written without a further
  -- member
  pub row_silent : is_silent m f ≡ true → unwritable T k f ≡ [] → IsWritten T (through (is_named n) ss) out
  row_silent quiet l =
      none_put T ss (is_named n) the_slot at out done (ap (λ b. cond b [] (one n (print T k f))) quiet)
      (ap (λ ps. each_below (at_name n) ps) l)

  -- an unwritable location of its value is one of the object, with the name at its front
  pub row_loses : (q : Place) → Among q (unwritable T k f) → Among (at_name n ∷ q) (slots_lost T ss)
  row_loses q h =
      slot_loses T ss (is_named n) the_slot at out done (at_name n ∷ q) (below_each (at_name n) q (unwritable T k f) h)

-- Entries whose names are of a class, each key beside the form of its value.
module _ (T : Tables) (c : Class) (k : Kind) where
  -- the members that the entries are written as
  abbrev pub prints : List (Pair Form) → Entries Tree
  prints [] = []
  prints (e ∷ es) = (text_of_key e.key, print T k e.value) ∷ prints es

  -- whether a key is read again and its value has no unwritable location
  abbrev pub is_kept : Pair Form → Bool
  is_kept e = is_written c e.key && is_empty (unwritable T k e.value)

  prints-untied : (es : List (Pair Form)) → untied (each (entry_of T k) es) ≡ prints es
  prints-untied [] = refl
  prints-untied (e ∷ es) = ap (λ l. (text_of_key e.key, print T k e.value) ∷ l) (prints-untied es)

  empty_is : (ps : List Place) → is_empty ps ≡ true → ps ≡ []
  empty_is [] h = refl
  empty_is (q ∷ ps) h = cc

  keys_kept : (es : List (Pair Form)) → every is_kept es ≡ true → lost_keys c (named_of es) ≡ []
  keys_kept [] h = refl
  keys_kept (e ∷ es) h =
      let p = and_parts (is_kept e) (every is_kept es) h in
      let w = and_parts (is_written c e.key) (is_empty (unwritable T k e.value)) p.0 in
      ap (λ b. cond b (lost_keys c (named_of es)) ((at_name (text_of_key e.key) ∷ []) ∷ lost_keys c (named_of es))) w.0
      ∙ keys_kept es p.1

  values_lost : (es : List (Pair Form)) → unwritable T (map_of k) (named (named_of es))
      ≡ lost_pairs k (each (on_pair (show (face_lost T))) es)
  values_lost es = ap (lost_pairs k) (of_named-of (face_lost T) es)

  values_kept : (es : List (Pair Form)) → every is_kept es ≡ true
      → lost_pairs k (each (on_pair (show (face_lost T))) es) ≡ []
  values_kept [] h = refl
  values_kept (e ∷ es) h =
      let p = and_parts (is_kept e) (every is_kept es) h in
      let w = and_parts (is_written c e.key) (is_empty (unwritable T k e.value)) p.0 in
      ap (λ l. join (each_below (at_name (text_of_key e.key)) l)
      (lost_pairs k (each (on_pair (show (face_lost T))) es)))
      (empty_is (unwritable T k e.value) w.1)
      ∙ values_kept es p.1

  -- the names that the entries are written as are taken by the row of the class
  keys_in : (es : List (Pair Form)) (ss : List Slot) (f : Form) → every is_kept es ≡ true
      → all_taken (join ss ((class c k, f) ∷ [])) (prints es) ≡ true
  unfolding all_taken
  keys_in [] ss f h = refl
  keys_in (e ∷ es) ss f h =
      let p = and_parts (is_kept e) (every is_kept es) h in
      let w = and_parts (is_written c e.key) (is_empty (unwritable T k e.value)) p.0 in
      and_from _ _ (taken-last ss (class c k, f) (text_of_key e.key) (in_its_class e.key w.0)) (keys_in es ss f p.1)
    where
      in_its_class : (key : _) → is_written c key ≡ true → in_class c (text_of_key key) ≡ true
      in_its_class key w = (and_parts _ (in_class c (text_of_key key)) w).1

  key_lost : (es : List (Pair Form)) (j : ℕ) (e : Pair Form) → slice_get es j ≡ Some e → is_written c e.key ≡ false
      → Among (at_name (text_of_key e.key) ∷ []) (lost_keys c (named_of es))
  key_lost [] j e g h = cc
  key_lost (d ∷ es) zero e g h =
      let same : d ≡ e = cc in
      subst (λ (x : Pair Form). Among (at_name (text_of_key e.key) ∷ []) (lost_keys c (named_of (x ∷ es)))) (sym same)
      (subst (λ b. Among (at_name (text_of_key e.key) ∷ []) (cond b (lost_keys c (named_of es))
      ((at_name (text_of_key e.key) ∷ []) ∷ lost_keys c (named_of es)))) (sym h) (inl refl))
  key_lost (d ∷ es) (suc j) e g h = later (is_written c d.key) (key_lost es j e g h)
    where
      later : (b : Bool) → Among (at_name (text_of_key e.key) ∷ []) (lost_keys c (named_of es))
          → Among (at_name (text_of_key e.key) ∷ [])
          (cond b (lost_keys c (named_of es)) ((at_name (text_of_key d.key) ∷ []) ∷ lost_keys c (named_of es)))
      later true q = q
      later false q = inr q

  value_lost : (es : List (Pair Form)) (j : ℕ) (e : Pair Form) (q : Place) → slice_get es j ≡ Some e
      → Among q (unwritable T k e.value)
      → Among (at_name (text_of_key e.key) ∷ q) (lost_pairs k (each (on_pair (show (face_lost T))) es))
  value_lost [] j e q g h = cc
  value_lost (d ∷ es) zero e q g h =
      let same : e ≡ d = cc in
      subst (λ (x : Pair Form). Among (at_name (text_of_key x.key) ∷ q)
      (lost_pairs k (each (on_pair (show (face_lost T))) (d ∷ es)))) (sym same)
      (among_left (at_name (text_of_key d.key) ∷ q)
      (each_below (at_name (text_of_key d.key)) (unwritable T k d.value))
      (lost_pairs k (each (on_pair (show (face_lost T))) es))
      (below_each (at_name (text_of_key d.key)) q (unwritable T k d.value)
      (subst (λ (x : Pair Form). Among q (unwritable T k x.value)) same h)))
  value_lost (d ∷ es) (suc j) e q g h =
      among_right (at_name (text_of_key e.key) ∷ q) (each_below (at_name (text_of_key d.key)) (unwritable T k d.value))
      (lost_pairs k (each (on_pair (show (face_lost T))) es)) (value_lost es j e q g h)

  slice-prints : (es : List (Pair Form)) (j : ℕ) (e : Pair Form) → slice_get es j ≡ Some e
      → slice_get (prints es) j ≡ Some (text_of_key e.key, print T k e.value)
  slice-prints [] j e g = cc
  slice-prints (d ∷ es) zero e g =
      let same : d ≡ e = cc in
      ap (λ (x : Pair Form). Some (text_of_key x.key, print T k x.value)) same
  slice-prints (d ∷ es) (suc j) e g = slice-prints es j e g

  -- the slot of the class, where the slots before it are written
  module _ (ss : List Slot) (es : List (Pair Form))
      (at : slot_where (is_class c) ss ≡ Some (class c k, named (named_of es))) (out : Entries Tree)
      (done : IsWritten T (before (is_class c) ss) out) where
    abbrev the_class : Slot
    the_class = (class c k, named (named_of es))

    -- if all its entries are appended and have no unwritable location, the slots up to this one are written
    pub class_put : (new : Entries Tree) → new ≡ out ++ prints es → every is_kept es ≡ true
        → IsWritten T (through (is_class c) ss) new
    class_put new e h =
        slot_put T ss (is_class c) the_class at out done (prints es) new e
        (sym (ap (λ t. untied (members_in t)) (print-map T k es)
        ∙ ap untied (members_list-of (each (entry_of T k) es)) ∙ prints-untied es))
        ((λ j. join (keys_kept es h j) ((values_lost es ∙ values_kept es h) j)))
        (keys_in es (before (is_class c) ss) (named (named_of es)) h)

    pub class_new : slots_apart ss ≡ true → (j : ℕ) (e : Pair Form) → slice_get es j ≡ Some e
        → in_class c (text_of_key e.key) ≡ true → HasDistinctNames (prints es)
        → get (text_of_key e.key) (out ++ take j (prints es)) ≡ None
    class_new a j e g h d =
        get_none-append out (take j (prints es)) (text_of_key e.key)
        (is_new T ss (is_class c) the_class at out done a (text_of_key e.key) h)
        (absent-next (prints es) j (text_of_key e.key, print T k e.value) d (slice-prints es j e g))

    -- a key that would not be read again is an unwritable location of the object, at its name
    pub class_key_loses : (j : ℕ) (e : Pair Form) → slice_get es j ≡ Some e → is_written c e.key ≡ false
        → Among (at_name (text_of_key e.key) ∷ []) (slots_lost T ss)
    class_key_loses j e g h =
        slot_loses T ss (is_class c) the_class at out done (at_name (text_of_key e.key) ∷ [])
        (among_left (at_name (text_of_key e.key) ∷ []) (lost_keys c (named_of es))
        (unwritable T (map_of k) (named (named_of es))) (key_lost es j e g h))

    -- an unwritable location of the value at a key is one of the object, with the name of the key at its front
    pub class_value_loses : (j : ℕ) (e : Pair Form) (q : Place) → slice_get es j ≡ Some e
        → Among q (unwritable T k e.value) → Among (at_name (text_of_key e.key) ∷ q) (slots_lost T ss)
    class_value_loses j e q g h =
        slot_loses T ss (is_class c) the_class at out done (at_name (text_of_key e.key) ∷ q)
        (among_right (at_name (text_of_key e.key) ∷ q) (lost_keys c (named_of es))
        (unwritable T (map_of k) (named (named_of es)))
        (subst (λ ps. Among (at_name (text_of_key e.key) ∷ q) ps) (sym (values_lost es)) (value_lost es j e q g h)))

-- an empty list of members is what no slots are written as
pub none_written : (T : Tables) (out : Entries Tree) → out ≡ [] → IsWritten T [] out
unfolding slots_print slots_lost all_taken
none_written T out e = record { members = e; nothing_lost = refl; names = ap (all_taken []) e }

-- a list is itself with the empty list appended
pub nothing_more : (out : Entries Tree) → out ≡ out ++ []
nothing_more out = sym (append_nil out)

-- the slots of the final tables are apart
pub final_apart : (i : TableName) (fs : List Form) → slots_apart (slots (final_tables i) fs) ≡ true
final_apart i fs = table_apart final_tables final_sound i fs
