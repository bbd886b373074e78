-- What a row reads and requires, and how many values its members contain, given the member of its name.
pub use Rattle.openapi_tables.proofs.ListLaws.{same_bytes}
pub use Rattle.openapi_tables.proofs.KindsHold.{any_conforms}
pub use Rattle.openapi_tables.proofs.WeightLaws.{rows_weight-le, table_weight-le}
use Rattle.openapi_tables.proofs.ListLaws.{every_behind}
use Rattle.std.proofs.Common.{ℕ, ◌≤◌, Bool, true, false, cond, ◌&&◌, ◌||◌, List, [], ◌∷◌, Some, None, ◌≡◌, refl, sym}
use Rattle.std.proofs.Common.{ap, ◌∙◌, subst, arith, inl, inr, bytes_eq, true≢false}
use Rattle.std.proofs.lemmas.Bool.{and_parts}
use Rattle.openapi_node.specs.Place.{Step, Place, named}
use Rattle.openapi_node.specs.Tree.{Tree, list, object, Members, no_members, member, size_of, find}
use Rattle.openapi_tables.specs.Prelude.{each, join, flat, every, same_text, Entry, on_entry, Seen, Shape, a_null}
use Rattle.openapi_tables.specs.Prelude.{of_members, members_list, Kind, any_text, any_tree, by}
use Rattle.openapi_tables.specs.Prelude.{a_schema, a_schema_kind, Mode, required, Row, row, takes, Tables, TableName}
use Rattle.openapi_tables.specs.Prelude.{schema_data, any_rows, is_null, own, plain, rows_of, checked_rows}
use Rattle.openapi_tables.specs.Prelude.{made_optional, root_conforms, row_holds, name_holds, conforms, may_miss}
use Rattle.openapi_tables.specs.Prelude.{skips_null, Form, fields, forms_of, leaf, root_form, slot, name_slot, form}
use Rattle.openapi_tables.specs.Prelude.{default_of, rows_apart, row_sound, never_misses, sound}
use Rattle.openapi_tables.specs.Prelude.{tables_sound, schema_rows, Asking, Cause, Asks, asked, causes, here, root_asks}
use Rattle.openapi_tables.specs.Prelude.{below, asks_own, asks_row, asks_rows, misses, row_misses, Among, is_named}
use Rattle.openapi_tables.specs.Prelude.{row_where, rows_asked, row_conforms, row_form, AreRows, weight, row_weight}
use Rattle.openapi_tables.specs.Prelude.{asking, Broken, StepsTo}
use Rattle.openapi_tables.specs.Faults.{missing}
use Rattle.openapi_tables.proofs.ListLaws.{Each, every_each, only-each, same_text_eq}
use Rattle.openapi_tables.proofs.TreeLaws.{see, seen_root, of_tree_lem, of_members_lem, tree_of_root-seen}
use Rattle.openapi_tables.proofs.again.ObjectsBack.{checked, table_sound}
use Rattle.openapi_tables.proofs.FaultFound.{faults}

-- a name and the value at that name
abbrev pub entry : {X : Type 0} → List ℕ → X → Entry X
entry n x = record { name = n; value = x }

-- the list of members begins with the value `t` at the name `n`
pub record Found (n : List ℕ) (t : Tree) (es : List (Entry Tree)) : Type 0 where
  pub rest : List (Entry Tree)
  pub is : es ≡ entry n t ∷ rest

module _ (n : List ℕ) (m : Mode) (k : Kind) where
  -- the members that the row takes
  abbrev taken : Members → List (Entry Tree)
  taken ms = own (row n m k) (members_list ms)

  -- if a member of the name is found, it is the first that the row takes
  pub own-found : (ms : Members) (t : Tree) → find n ms ≡ Some t
      → Found n t (own (row n m k) (members_list ms))
  own-found no_members t e = cc
  own-found (member a u ms) t e = go (λ q. own-found ms t q) (bytes_eq n a) refl e
    where
      go : (find n ms ≡ Some t → Found n t (taken ms)) → (b : Bool) → bytes_eq n a ≡ b
          → cond b (Some u) (find n ms) ≡ Some t → Found n t (taken (member a u ms))
      go more true p q =
          let s : same_text n a ≡ true = same_bytes n a ∙ p in
          let here : n ≡ a = same_text_eq n a s in
          let there : u ≡ t = cc in
          record {
            rest = taken ms;
            is = ap (λ b. cond b (entry a u ∷ taken ms) (taken ms)) s
                ∙ (λ i. entry (sym here i) (there i) ∷ taken ms);
          }
      go more false p q =
          let s : same_text n a ≡ false = same_bytes n a ∙ p in
          let r = more q in
          record {
            rest = r.rest;
            is = ap (λ b. cond b (entry a u ∷ taken ms) (taken ms)) s ∙ r.is;
          }

  -- if none is found, the row takes no member
  pub own-missing : (ms : Members) → find n ms ≡ None → own (row n m k) (members_list ms) ≡ []
  own-missing no_members e = refl
  own-missing (member a u ms) e = go (λ q. own-missing ms q) (bytes_eq n a) refl e
    where
      go : (find n ms ≡ None → taken ms ≡ []) → (b : Bool) → bytes_eq n a ≡ b
          → cond b (Some u) (find n ms) ≡ None → taken (member a u ms) ≡ []
      go more true p q = cc
      go more false p q = ap (λ b. cond b (entry a u ∷ taken ms) (taken ms)) (same_bytes n a ∙ p) ∙ more q

-- a row takes the same members, with or without the results of a function beside them
pub own-members : {X : Type 0} → (f : Shape (Seen X) → X) (w : Row) (ms : Members)
    → own w (of_members f ms) ≡ each (on_entry (see f)) (own w (members_list ms))
own-members f w ms =
    ap (λ l. own w l) (of_members_lem f ms) ∙ only-each (λ e. takes w e.name) (on_entry (see f)) (members_list ms)

-- the row of a name, if the member is present and if it is missing
module _ (T : Tables) (n : List ℕ) (m : Mode) (k : Kind) (ms : Members) where
  module _ (t : Tree) (there : find n ms ≡ Some t) where
    seen-found : {X : Type 0} → (f : Shape (Seen X) → X) → own (row n m k) (of_members f ms)
        ≡ on_entry (see f) (entry n t) ∷ each (on_entry (see f)) (own-found n m k ms t there).rest
    seen-found f =
        own-members f (row n m k) ms ∙ ap (λ l. each (on_entry (see f)) l) (own-found n m k ms t there).is

    -- the row holds if and only if the member is a null that its mode skips, or conforms to its kind
    pub conforms-found : row_conforms T (row n m k) ms ≡ (skips_null m && is_null t || conforms T k t)
    unfolding row_conforms
    conforms-found = ap (λ l. name_holds m k l) (seen-found (root_conforms T))

    -- the row reads the form of the member, or its default if the member is null
    pub form-found : row_form T (row n m k) ms ≡ cond (is_null t) (default_of m k) (form T k t)
    unfolding row_form
    form-found = ap (λ l. name_slot m k l) (seen-found (root_form T))

    -- the member contains no more values than all members that the row takes
    pub weight-found : size_of t ≤ row_weight (row n m k) ms
    unfolding row_weight
    weight-found = subst (λ l. size_of t ≤ weight l) (sym (own-found n m k ms t there).is) (omega arith)

  module _ (none : find n ms ≡ None) where
    seen-missing : {X : Type 0} → (f : Shape (Seen X) → X) → own (row n m k) (of_members f ms) ≡ []
    seen-missing f =
        own-members f (row n m k) ms ∙ ap (λ l. each (on_entry (see f)) l) (own-missing n m k ms none)

    -- without the member, the row holds if and only if its mode allows that the member is missing
    pub conforms-missing : row_conforms T (row n m k) ms ≡ may_miss m
    unfolding row_conforms
    conforms-missing = ap (λ l. name_holds m k l) (seen-missing (root_conforms T))

    -- without the member, the row reads its default
    pub form-missing : row_form T (row n m k) ms ≡ default_of m k
    unfolding row_form
    form-missing = ap (λ l. name_slot m k l) (seen-missing (root_form T))

-- an element of the first of two lists is an element of their concatenation
pub among_left : {A : Type 0} → (x : A) (xs ys : List A) → Among x xs → Among x (join xs ys)
among_left x [] ys h = absurd h
among_left x (y ∷ xs) ys (inl e) = inl e
among_left x (y ∷ xs) ys (inr h) = inr (among_left x xs ys h)

-- an element of the second of two lists is an element of their concatenation
pub among_right : {A : Type 0} → (x : A) (xs ys : List A) → Among x ys → Among x (join xs ys)
among_right x [] ys h = h
among_right x (y ∷ xs) ys h = inr (among_right x xs ys h)

-- a requirement at a location is, after `below` with a step, at the step and then that location
pub among_below : (s : Step) (p : Place) (j : Kind) (v : Tree) (as' : List Asking)
    → Among (asking p j v) as' → Among (asking (s ∷ p) j v) (below s as')
among_below s p j v [] h = absurd h
among_below s p j v (a ∷ as') (inl e) = inl (ap (λ (b : Asking). asking (s ∷ b.place) b.kind b.tree) e)
among_below s p j v (a ∷ as') (inr h) = inr (among_below s p j v as' h)

-- an element of what a function returns for the first row that passes a test is an element of what it returns for all
-- rows
pub among_flat : {A : Type 0} → (x : A) (f : Row → List A) (q : Row → Bool) (w : Row) (ws : List Row)
    → row_where q ws ≡ Some w → Among x (f w) → Among x (flat (each f ws))
among_flat x f q w [] e h = cc
among_flat x f q w (v ∷ ws) e h = go (λ p. among_flat x f q w ws p h) (q v) e
  where
    go : (row_where q ws ≡ Some w → Among x (flat (each f ws))) → (b : Bool)
        → cond b (Some v) (row_where q ws) ≡ Some w → Among x (join (f v) (flat (each f ws)))
    go more true p =
        let s : w ≡ v = cc in
        among_left x (f v) (flat (each f ws)) (subst (λ u. Among x (f u)) s h)
    go more false p = among_right x (f v) (flat (each f ws)) (more p)

-- what holds of each row holds of the first that passes a test
pub where_each : (P : Row → Type 0) (q : Row → Bool) (ws : List Row) (w : Row)
    → Each P ws → row_where q ws ≡ Some w → P w
where_each P q [] w h e = cc
where_each P q (v ∷ ws) w h e = go (λ p. where_each P q ws w h.1 p) (q v) e
  where
    go : (row_where q ws ≡ Some w → P w) → (b : Bool) → cond b (Some v) (row_where q ws) ≡ Some w → P w
    go more true p = let s : v ≡ w = cc in subst P s h.0
    go more false p = more p

-- the requirements of a kind for a root include the requirement for the root itself
head_asked : (T : Tables) (s : Shape Asks) (k : Kind) → Among (here k s) (root_asks T s k)
head_asked T s any_text = inl refl
head_asked T a_null k = inl refl
head_asked T s k = inl refl

pub root_asked : (T : Tables) (k : Kind) (t : Tree) → Among (asking [] k t) (asked T k t)
root_asked T k t =
    let s : Shape Asks = seen_root (root_asks T) t in
    let one : here k s ≡ asking [] k t = ap (λ u. asking [] k u) (tree_of_root-seen (root_asks T) t) in
    let all : root_asks T s k ≡ asked T k t =
    sym (ap (λ (f : Kind → List Asking). f k) (of_tree_lem (root_asks T) t)) in
    subst (λ a. Among a (asked T k t)) one (subst (λ l. Among (here k s) l) all (head_asked T s k))

-- a cause of a fault of a node itself is found in the node, at the empty location
pub broken_root : (T : Tables) (k : Kind) (t : Tree) (c : Cause) → Among c (causes T k t) → Broken T k t [] c
broken_root T k t c h = record { kind = k; tree = t; is_asked = root_asked T k t; breaks = h }

-- a cause that is found in a value inside is found in the node around it, one step further
pub broken_below : (T : Tables) (k l : Kind) (t u : Tree) (s : Step) (p : Place) (c : Cause)
    → StepsTo T k t s l u → Broken T l u p c → Broken T k t (s ∷ p) c
broken_below T k l t u s p c h b =
    record { kind = b.kind; tree = b.tree; is_asked = h p b.kind b.tree b.is_asked; breaks = b.breaks }

-- if a cause is found anywhere in a node, the node does not conform
pub broken_refuses : (T : Tables) (W : tables_sound T ≡ true) (k : Kind) (t : Tree) (p : Place) (c : Cause)
    → sound T k ≡ true → Broken T k t p c → conforms T k t ≡ false
broken_refuses T W k t p c s b = (faults T k t W s).0 (asking p b.kind b.tree) c b.is_asked b.breaks

-- the requirements of the rows of an object kind for the members are among those of the kind for the object
pub rows_ask : (T : Tables) (k : Kind) (ms : Members) (a : Asking)
    → Among a (asks_rows (of_members (root_asks T) ms) (rows_asked T k)) → Among a (asked T k (object ms))
unfolding checked_rows
rows_ask T (by i) ms a h = inr h
rows_ask T a_schema ms a h = inr h
rows_ask T a_schema_kind ms a h = inr h
rows_ask T k ms a h = absurd h

-- the kind of a row is required of the member at its name, unless the member is a null that the row skips
pub row_asks : (T : Tables) (o : Kind) (n : List ℕ) (m : Mode) (k : Kind) (ms : Members) (t : Tree)
    → row_where (is_named n) (rows_asked T o) ≡ Some (row n m k) → find n ms ≡ Some t
    → (skips_null m && is_null t) ≡ false → StepsTo T o (object ms) (named n) k t
row_asks T o n m k ms t e there skip p j v h =
    let w = row n m k in
    let es = of_members (root_asks T) ms in
    let one : asks_row es w ≡ below (named n) (asked T k t) =
    ap (λ l. asks_own w l) (seen-found T n m k ms t there (root_asks T))
    ∙ ap (λ b. cond b [] (below (named n) (asked T k t))) skip in
    rows_ask T o ms (asking (named n ∷ p) j v)
    (among_flat (asking (named n ∷ p) j v) (asks_row es) (is_named n) w (rows_asked T o) e
    (subst (λ l. Among (asking (named n ∷ p) j v) l) (sym one) (among_below (named n) p j v (asked T k t) h)))

-- each row that a kind requires of an object is sound
pub asked_sound : (T : Tables) (W : tables_sound T ≡ true) (o : Kind)
    → Each (λ w. row_sound T w ≡ true) (rows_asked T o)
unfolding checked_rows
asked_sound T W (by i) =
    every_each (row_sound T) (T i) (and_parts (rows_apart (T i)) (every (row_sound T) (T i)) (table_sound T W i)).1
asked_sound T W a_schema = every_each (row_sound T) (schema_rows T) (checked T W).4
asked_sound T W a_schema_kind =
    every_each (row_sound T) (each made_optional any_rows)
    (every_behind (row_sound T) (T schema_data) (each made_optional any_rows) (checked T W).4)
asked_sound T W o = tt

-- no required row is found among rows that require no member
schema_misses_none : (T : Tables) (q : Row → Bool) (n : List ℕ) (k : Kind) (ws : List Row)
    → every never_misses ws ≡ true → row_where q ws ≡ Some (row n required k) → ⊥
schema_misses_none T q n k ws h e =
    true≢false (sym (where_each (λ w. never_misses w ≡ true) q ws (row n required k) (every_each never_misses ws h) e))

-- an object that lacks the member of a required row has a fault: the name is missing
pub row_missing : (T : Tables) (W : tables_sound T ≡ true) (o : Kind) (n : List ℕ) (k : Kind) (ms : Members)
    → row_where (is_named n) (rows_asked T o) ≡ Some (row n required k) → find n ms ≡ None
    → Broken T o (object ms) [] (missing n)
unfolding checked_rows
row_missing T W (by i) n k ms e none =
    broken_root T (by i) (object ms) (missing n)
    (among_flat (missing n) (row_misses (members_list ms)) (is_named n) (row n required k) (T i) e
    (subst (λ l. Among (missing n) (misses (row n required k) l)) (sym (own-missing n required k ms none))
    (inl refl)))
row_missing T W a_schema n k ms e none =
    absurd (schema_misses_none T (is_named n) n k (schema_rows T) (checked T W).5 e)
row_missing T W a_schema_kind n k ms e none =
    absurd (schema_misses_none T (is_named n) n k (each made_optional any_rows)
    (every_behind never_misses (T schema_data) (each made_optional any_rows) (checked T W).5) e)
row_missing T W o n k ms e none = cc

-- if each row holds and reads a form (`AreRows`), the checks of all rows pass and their slots are these forms
pub rows_hold : (T : Tables) (ws : List Row) (fs : List Form) (ms : Members) → AreRows T ws fs ms
    → (every (row_holds (of_members (root_conforms T) ms)) ws ≡ true)
    × (each (slot (of_members (root_form T) ms)) ws ≡ fs)
unfolding row_conforms row_form
rows_hold T [] [] ms h = (refl, refl)
rows_hold T [] (f ∷ fs) ms h = absurd h
rows_hold T (w ∷ ws) [] ms h = absurd h
rows_hold T (w ∷ ws) (f ∷ fs) ms h =
    let r = rows_hold T ws fs ms h.1 in
    ((λ i. h.0.0 i && r.0 i), (λ i. h.0.1 i ∷ r.1 i))

-- an object conforms to a table if each row of the table holds and reads a form, and it is read as these forms
pub object_gives : (T : Tables) (i : TableName) (fs : List Form) (ms : Members) → AreRows T (T i) fs ms
    → (conforms T (by i) (object ms) ≡ true) × (form T (by i) (object ms) ≡ fields plain (forms_of fs))
unfolding checked_rows rows_of
object_gives T i fs ms h =
    let r = rows_hold T (T i) fs ms h in
    (r.0, ap (λ l. fields plain (forms_of l)) r.1)

-- the form of a node under `any_tree` is the node itself
pub any_form : (T : Tables) (t : Tree) → form T any_tree t ≡ leaf t
any_form T (list ts) = ap leaf (tree_of_root-seen (root_form T) (list ts))
any_form T (object ms) = ap leaf (tree_of_root-seen (root_form T) (object ms))
any_form T t = refl
