-- Lists of slots: the members that they are written as, the locations of their unwritable names and codes, and the
-- names that they take.
use Rattle.std.proofs.Common.{◌≡◌, ℕ, Bool, true, false, cond, ◌||◌, List, [], ◌∷◌, ◌++◌, Some, None, refl, sym, ap}
use Rattle.std.proofs.Common.{◌∙◌, subst, bytes_eq, true≢false, inl, inr}
use Rattle.std.proofs.lemmas.Bool.{and_parts, and_from}
use Rattle.openapi_map.specs.Entries.{Entries, get}
use Rattle.openapi_node.specs.Place.{Step, Place}
use Rattle.openapi_node.specs.Tree.{Tree, object, member, members_of as node_members}
use Rattle.openapi_tables.specs.Prelude.{each, join, every, Entry, members_of, Kind, by, tagged, a_schema}
use Rattle.openapi_tables.specs.Prelude.{a_schema_kind, Row, takes, Tables, TableName, Choice, choice, rows_of, Form}
use Rattle.openapi_tables.specs.Prelude.{fields, forms_of, print, row_print, rows_print, unwritable, each_below}
use Rattle.openapi_tables.specs.Prelude.{row_lost, rows_lost, face_lost, apart, rows_apart, row_sound, tables_sound}
use Rattle.openapi_tables.specs.Prelude.{Among, Slot, slots, slot_where, before, through, slots_apart, slots_print}
use Rattle.openapi_tables.specs.Prelude.{slots_lost, untied, taken, all_taken}
use Rattle.openapi_tables.specs.Slots.{printed, lost}
use Rattle.openapi_tables.proofs.ListLaws.{Each, every_each, same_text_eq, join_assoc}
use Rattle.openapi_tables.proofs.FormLaws.{of_forms-of}
use Rattle.openapi_tables.proofs.PrintLaws.{print-fields}
use Rattle.openapi_tables.proofs.RowLaws.{apart_back}
use Rattle.openapi_tables.proofs.again.ObjectsBack.{table_sound}
use Rattle.openapi_tables.proofs.ByRowLaws.{same_bytes}

-- the members that rows write for forms are those that the slots of these rows and forms are written as
pub slots_print-rows : (T : Tables) (ws : List Row) (fs : List Form)
    → rows_print ws (each (printed T) fs) ≡ slots_print T (slots ws fs)
unfolding slots_print
slots_print-rows T [] fs = refl
slots_print-rows T (w ∷ ws) [] = refl
slots_print-rows T (w ∷ ws) (f ∷ fs) = ap (λ l. join (row_print w (printed T f)) l) (slots_print-rows T ws fs)

-- the unwritable locations in the forms of rows are those in the slots of these rows and forms
pub slots_lost-rows : (T : Tables) (ws : List Row) (fs : List Form)
    → rows_lost ws (each (lost T) fs) ≡ slots_lost T (slots ws fs)
unfolding slots_lost
slots_lost-rows T [] fs = refl
slots_lost-rows T (w ∷ ws) [] = refl
slots_lost-rows T (w ∷ ws) (f ∷ fs) = ap (λ l. join (row_lost w (lost T f)) l) (slots_lost-rows T ws fs)

-- the members made from a list of entries are those made from its pairs of a name and a node
pub members_untied : (es : List (Entry Tree)) → members_of es ≡ node_members (untied es)
members_untied [] = refl
members_untied (e ∷ es) = ap (λ ms. member e.name e.value ms) (members_untied es)

-- the form of an object is written as the members that the slots of its rows are written as
pub fields_print : (T : Tables) (k : Kind) (c : Choice) (es : List (Entry Tree)) (fs : List Form) → choice k es ≡ Some c
    → print T k (fields c (forms_of fs)) ≡ object (node_members (untied (slots_print T (slots (rows_of T k c) fs))))
fields_print T k c es fs h =
    print-fields T k c es fs h ∙ ap (λ l. object (members_of l)) (slots_print-rows T (rows_of T k c) fs)
    ∙ ap object (members_untied (slots_print T (slots (rows_of T k c) fs)))

-- the unwritable locations in the form of an object are those in the slots of its rows
pub fields_lost : (T : Tables) (k : Kind) (c : Choice) (es : List (Entry Tree)) (fs : List Form) → choice k es ≡ Some c
    → unwritable T k (fields c (forms_of fs)) ≡ slots_lost T (slots (rows_of T k c) fs)
fields_lost T (by i) c es fs h =
    ap (λ l. rows_lost (rows_of T (by i) c) l) (of_forms-of (face_lost T) fs)
    ∙ slots_lost-rows T (rows_of T (by i) c) fs
fields_lost T (tagged n cs) c es fs h =
    ap (λ l. rows_lost (rows_of T (tagged n cs) c) l) (of_forms-of (face_lost T) fs)
    ∙ slots_lost-rows T (rows_of T (tagged n cs) c) fs
fields_lost T a_schema c es fs h =
    ap (λ l. rows_lost (rows_of T a_schema c) l) (of_forms-of (face_lost T) fs)
    ∙ slots_lost-rows T (rows_of T a_schema c) fs
fields_lost T a_schema_kind c es fs h =
    ap (λ l. rows_lost (rows_of T a_schema_kind c) l) (of_forms-of (face_lost T) fs)
    ∙ slots_lost-rows T (rows_of T a_schema_kind c) fs
fields_lost T k c es fs h = cc

-- a row that is apart from other rows is apart from the rows of their slots
pub slots_part : (w : Row) (ws : List Row) (fs : List Form) → every (apart w) ws ≡ true
    → every (λ (s : Slot). apart w s.0) (slots ws fs) ≡ true
slots_part w [] fs h = refl
slots_part w (v ∷ ws) [] h = refl
slots_part w (v ∷ ws) (f ∷ fs) h =
    let p = and_parts (apart w v) (every (apart w) ws) h in
    and_from (apart w v) (every (λ (s : Slot). apart w s.0) (slots ws fs)) p.0 (slots_part w ws fs p.1)

-- the slots of rows are apart, if no two of the rows take the same name
pub slots_apart-rows : (ws : List Row) (fs : List Form) → rows_apart ws ≡ true → slots_apart (slots ws fs) ≡ true
slots_apart-rows [] fs h = refl
slots_apart-rows (w ∷ ws) [] h = refl
slots_apart-rows (w ∷ ws) (f ∷ fs) h =
    let p = and_parts (every (apart w) ws) (rows_apart ws) h in
    and_from (every (λ (s : Slot). apart w s.0) (slots ws fs)) (slots_apart (slots ws fs)) (slots_part w ws fs p.0)
    (slots_apart-rows ws fs p.1)

-- the slots of a sound table are apart
pub table_apart : (T : Tables) (W : tables_sound T ≡ true) (i : TableName) (fs : List Form)
    → slots_apart (slots (T i) fs) ≡ true
table_apart T W i fs =
    slots_apart-rows (T i) fs (and_parts (rows_apart (T i)) (every (row_sound T) (T i)) (table_sound T W i)).0

-- the slots up to and including one are those before it, and it
pub through-before : (p : Row → Bool) (ss : List Slot) (s : Slot) → slot_where p ss ≡ Some s
    → through p ss ≡ join (before p ss) (s ∷ [])
through-before p [] s e = cc
through-before p (x ∷ ss) s e = go (λ q. through-before p ss s q) (p x.0) e
  where
    go : (slot_where p ss ≡ Some s → through p ss ≡ join (before p ss) (s ∷ [])) → (b : Bool)
        → cond b (Some x) (slot_where p ss) ≡ Some s
        → x ∷ cond b [] (through p ss) ≡ join (cond b [] (x ∷ before p ss)) (s ∷ [])
    go more true q = let h : x ≡ s = cc in ap (λ y. y ∷ []) h
    go more false q = ap (λ l. x ∷ l) (more q)

-- the concatenation of two lists of slots is written as the first and then the second list
pub slots_print-join : (T : Tables) (xs ys : List Slot)
    → slots_print T (join xs ys) ≡ join (slots_print T xs) (slots_print T ys)
unfolding slots_print
slots_print-join T [] ys = refl
slots_print-join T (x ∷ xs) ys =
    ap (λ l. join (row_print x.0 (printed T x.1)) l) (slots_print-join T xs ys)
    ∙ sym (join_assoc (row_print x.0 (printed T x.1)) (slots_print T xs) (slots_print T ys))

-- the unwritable locations in a concatenation of slots are those in the first and then those in the second list
pub slots_lost-join : (T : Tables) (xs ys : List Slot)
    → slots_lost T (join xs ys) ≡ join (slots_lost T xs) (slots_lost T ys)
unfolding slots_lost
slots_lost-join T [] ys = refl
slots_lost-join T (x ∷ xs) ys =
    ap (λ l. join (row_lost x.0 (lost T x.1)) l) (slots_lost-join T xs ys)
    ∙ sym (join_assoc (row_lost x.0 (lost T x.1)) (slots_lost T xs) (slots_lost T ys))

-- a concatenation of members, as pairs of a name and a node, is the first and then the second list
pub untied-join : (xs ys : List (Entry Tree)) → untied (join xs ys) ≡ untied xs ++ untied ys
untied-join [] ys = refl
untied-join (x ∷ xs) ys = ap (λ l. (x.name, x.value) ∷ l) (untied-join xs ys)

-- `b || true` is true
pub or_true : (b : Bool) → (b || true) ≡ true
or_true true = refl
or_true false = refl

pub taken-first : (xs ys : List Slot) (n : List ℕ) → taken xs n ≡ true → taken (join xs ys) n ≡ true
unfolding taken
taken-first [] ys n h = cc
taken-first (x ∷ xs) ys n h = go (takes x.0 n) (taken xs n) (λ q. taken-first xs ys n q) h
  where
    go : (b c : Bool) → (c ≡ true → taken (join xs ys) n ≡ true) → (b || c) ≡ true
        → (b || taken (join xs ys) n) ≡ true
    go true c f q = refl
    go false c f q = f q

-- a name that the row of the last slot takes is taken by the row of one of the slots
pub taken-last : (xs : List Slot) (s : Slot) (n : List ℕ) → takes s.0 n ≡ true → taken (join xs (s ∷ [])) n ≡ true
unfolding taken
taken-last [] s n h = ap (λ b. b || false) h
taken-last (x ∷ xs) s n h = ap (λ b. takes x.0 n || b) (taken-last xs s n h) ∙ or_true (takes x.0 n)

-- if each name is taken by one of some slots, that is still so with more slots after them
pub all_taken-first : (xs ys : List Slot) (es : Entries Tree) → all_taken xs es ≡ true
    → all_taken (join xs ys) es ≡ true
unfolding all_taken
all_taken-first xs ys [] h = refl
all_taken-first xs ys (e ∷ es) h =
    let p = and_parts (taken xs e.0) (all_taken xs es) h in
    and_from _ _ (taken-first xs ys e.0 p.0) (all_taken-first xs ys es p.1)

-- if the rows take each name of two lists of members, they take each name of their concatenation
pub all_taken-append : (ss : List Slot) (es fs : Entries Tree) → all_taken ss es ≡ true → all_taken ss fs ≡ true
    → all_taken ss (es ++ fs) ≡ true
unfolding all_taken
all_taken-append ss [] fs h g = g
all_taken-append ss (e ∷ es) fs h g =
    let p = and_parts (taken ss e.0) (all_taken ss es) h in
    and_from _ _ p.0 (all_taken-append ss es fs p.1 g)

-- what holds for each slot holds for the one that is found
pub slot_each : (P : Slot → Type 0) (p : Row → Bool) (ss : List Slot) (s : Slot) → Each P ss
    → slot_where p ss ≡ Some s → P s
slot_each P p [] s h e = cc
slot_each P p (x ∷ ss) s h e = go (λ q. slot_each P p ss s h.1 q) (p x.0) e
  where
    go : (slot_where p ss ≡ Some s → P s) → (b : Bool) → cond b (Some x) (slot_where p ss) ≡ Some s → P s
    go more true q = let r : x ≡ s = cc in subst P r h.0
    go more false q = more q

-- if slots are apart, a name that the row of one takes is taken by none before it
pub not_taken : (p : Row → Bool) (ss : List Slot) (s : Slot) (n : List ℕ) → slots_apart ss ≡ true
    → slot_where p ss ≡ Some s → takes s.0 n ≡ true → taken (before p ss) n ≡ false
unfolding taken
not_taken p [] s n a e t = refl
not_taken p (x ∷ ss) s n a e t = go (λ q. not_taken p ss s n parts.1 q t) (p x.0) e
  where
    parts : (every (λ (y : Slot). apart x.0 y.0) ss ≡ true) × (slots_apart ss ≡ true)
    parts = and_parts (every (λ (y : Slot). apart x.0 y.0) ss) (slots_apart ss) a

    go : (slot_where p ss ≡ Some s → taken (before p ss) n ≡ false) → (b : Bool)
        → cond b (Some x) (slot_where p ss) ≡ Some s → taken (cond b [] (x ∷ before p ss)) n ≡ false
    go more true q = refl
    go more false q =
        let h : apart x.0 s.0 ≡ true =
        slot_each (λ y. apart x.0 y.0 ≡ true) p ss s (every_each (λ (y : Slot). apart x.0 y.0) ss parts.0) q in
        ap (λ b. b || taken (before p ss) n) (apart_back x.0 s.0 n h t) ∙ more q

-- if each name of members is taken by a row, no member has a name that no row takes
pub get_none : (ss : List Slot) (es : Entries Tree) (n : List ℕ) → all_taken ss es ≡ true → taken ss n ≡ false
    → get n es ≡ None
unfolding all_taken
get_none ss [] n h g = refl
get_none ss (e ∷ es) n h g =
    let p = and_parts (taken ss e.0) (all_taken ss es) h in
    go p.0 (get_none ss es n p.1 g) (bytes_eq n e.0) refl
  where
    go : taken ss e.0 ≡ true → get n es ≡ None → (b : Bool) → bytes_eq n e.0 ≡ b
        → cond b (Some e.1) (get n es) ≡ None
    go t more true q =
        absurd (true≢false (sym t ∙ ap (taken ss) (sym (same_text_eq n e.0 (same_bytes n e.0 ∙ q))) ∙ g))
    go t more false q = more

-- a name that is in neither of two lists of members is not in their concatenation
pub get_none-append : (xs ys : Entries Tree) (n : List ℕ) → get n xs ≡ None → get n ys ≡ None → get n (xs ++ ys) ≡ None
get_none-append [] ys n h g = g
get_none-append (x ∷ xs) ys n h g = go (λ q. get_none-append xs ys n q g) (bytes_eq n x.0) h
  where
    go : (get n xs ≡ None → get n (xs ++ ys) ≡ None) → (b : Bool) → cond b (Some x.1) (get n xs) ≡ None
        → cond b (Some x.1) (get n (xs ++ ys)) ≡ None
    go more true q = cc
    go more false q = more q

-- the concatenation of a list and the empty list is that list
pub append_nil : {A : Type 0} (xs : List A) → xs ++ [] ≡ xs
append_nil [] = refl
append_nil (x ∷ xs) = ap (λ l. x ∷ l) (append_nil xs)

-- a location in a list is, with a step at its front, in the list with this step at the front of each location
pub below_each : (s : Step) (q : Place) (ps : List Place) → Among q ps → Among (s ∷ q) (each_below s ps)
below_each s q [] h = absurd h
below_each s q (r ∷ ps) (inl e) = inl (ap (λ x. s ∷ x) e)
below_each s q (r ∷ ps) (inr h) = inr (below_each s q ps h)
