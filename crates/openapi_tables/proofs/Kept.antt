-- Two lists of tables that differ in some rows: nodes that conform by the first list conform by the second.
use Rattle.std.proofs.Common.{ℕ, suc, pos, Bool, true, false, not, cond, ◌&&◌, ◌||◌, List, [], ◌∷◌, Option, Some, None}
use Rattle.std.proofs.Common.{◌≡◌, refl, sym, ap, ◌∙◌, subst}
use Rattle.std.proofs.lemmas.Bool.{and_parts, and_from}
use Rattle.openapi_tables.specs.Prelude.{each, join, every, same_text, items_list, members_list, members_of, Entry}
use Rattle.openapi_tables.specs.Prelude.{Seen, an_object, of_items, of_members, Kind, any_text, any_flag, number}
use Rattle.openapi_tables.specs.Prelude.{null_or, list_of, map_of, by, tagged, ref_to, flag_or_schema, a_schema}
use Rattle.openapi_tables.specs.Prelude.{a_schema_kind, one_of, Case, Mode, optional, Row, row, either, class, constant}
use Rattle.openapi_tables.specs.Prelude.{required, takes, TableName, Tables, schema_data, any_rows, is_null, own, plain}
use Rattle.openapi_tables.specs.Prelude.{sort, sort_of, choice, checked_rows, made_optional, case_rows, skips_null}
use Rattle.openapi_tables.specs.Prelude.{name_holds, is_reference, reference_or, chosen_holds, root_conforms, conforms}
use Rattle.openapi_tables.specs.Prelude.{Asking, below, asks_items, asks_members, asks_own, asks_rows, asks_row}
use Rattle.openapi_tables.specs.Prelude.{asks_tag, words, tag_table, unless_reference, root_asks, asked, sound}
use Rattle.openapi_tables.specs.Prelude.{row_sound, rows_apart, mode_fits, may_be_null, under_ref, schema_rows}
use Rattle.openapi_tables.specs.Prelude.{tables_sound}
use Rattle.openapi_node.specs.Tree.{Tree, null, flag, whole, text, list, object, Items, no_items, item, Members}
use Rattle.openapi_node.specs.Place.{named as at_name, indexed as at_index}
use Rattle.openapi_tables.specs.Members.{tag}
use Rattle.openapi_tables.specs.Faults.{asks_inner}
use Rattle.openapi_tables.proofs.ListLaws.{Each, Each_within-only, each_under, every_each}
use Rattle.openapi_tables.proofs.again.ObjectsBack.{checked, table_sound}
use Rattle.openapi_tables.proofs.SortLaws.{Each_behind}
use Rattle.openapi_tables.proofs.SoundLaws.{sound_pick}
use Rattle.openapi_tables.proofs.TreeLaws.{Inside, by_trees, of_members_lem}
use Rattle.openapi_tables.proofs.Taken.{ref_text, reference_of}
use Rattle.openapi_tables.proofs.FaultLaws.{judged, askeds, own_judged, rows_at_tag, seen_members}
use Rattle.openapi_tables.proofs.RowWrites.{row_holds_own}
use Rattle.openapi_tables.proofs.SortHolds.{AllHold, from_all_hold}
use Rattle.openapi_tables.proofs.Writes.{object_conforms}
use Rattle.openapi_tables.proofs.AllReadProper.{held_of, of_list, from_list, tag_of}
use Rattle.openapi_tables.proofs.AskedLaws.{OfAsked, Each_parts, of_below, held_in, table_conforms}

-- The rows of the first list beside the rows of the second that hold for the same members. A row may be the same, have
-- another kind as `C` allows, be left out, or be added. It may be added if a node conforms to its kind whenever `P`
-- holds for each requirement of the second list in the node.
pub data RowsKept (U : Tables) (P : Kind → Tree → Type 0) (C : Kind → Kind → Type 0) : List Row → List Row
    → Type 0 where
  kept_none : RowsKept U P C [] []
  kept_same : (w : Row) (vs ws : List Row) → RowsKept U P C vs ws → RowsKept U P C (w ∷ vs) (w ∷ ws)
  kept_changed : (n : List ℕ) (m : Mode) (j k : Kind) (vs ws : List Row) → C j k → RowsKept U P C vs ws
      → RowsKept U P C (row n m j ∷ vs) (row n m k ∷ ws)
  kept_dropped : (w : Row) (vs ws : List Row) → RowsKept U P C vs ws → RowsKept U P C (w ∷ vs) ws
  kept_added : (n : List ℕ) (k : Kind) (vs ws : List Row)
      → ((t : Tree) → OfAsked P (asked U k t) → conforms U k t ≡ true) → RowsKept U P C vs ws
      → RowsKept U P C vs (row n optional k ∷ ws)

-- the rows of a list, beside themselves, are kept: no row has changed
pub all_same : (U : Tables) (P : Kind → Tree → Type 0) (C : Kind → Kind → Type 0) (ws : List Row) → RowsKept U P C ws ws
all_same U P C [] = kept_none
all_same U P C (w ∷ ws) = kept_same w ws ws (all_same U P C ws)

same_behind : (U : Tables) (P : Kind → Tree → Type 0) (C : Kind → Kind → Type 0) (vs ws xs : List Row)
    → RowsKept U P C vs ws → RowsKept U P C (join vs xs) (join ws xs)
same_behind U P C vs ws xs kept_none = all_same U P C xs
same_behind U P C vs ws xs (kept_same w us zs r) = kept_same w _ _ (same_behind U P C us zs xs r)
same_behind U P C vs ws xs (kept_changed n m j k us zs c r) = kept_changed n m j k _ _ c (same_behind U P C us zs xs r)
same_behind U P C vs ws xs (kept_dropped w us zs r) = kept_dropped w _ _ (same_behind U P C us zs xs r)
same_behind U P C vs ws xs (kept_added n k us zs d r) = kept_added n k _ _ d (same_behind U P C us zs xs r)

-- a node that conforms to one kind by the first list conforms to another by the second, if `P` holds for each
-- requirement of the second list in it
abbrev pub Keeps : (T U : Tables) → (Kind → Tree → Type 0) → Kind → Kind → Tree → Type 0
Keeps T U P j k t = sound U k ≡ true → conforms T j t ≡ true → OfAsked P (asked U k t) → conforms U k t ≡ true

-- the same, for the same kind and for each kind that has changed as `C` allows
abbrev pub Kept : (T U : Tables) → (Kind → Tree → Type 0) → (Kind → Kind → Type 0) → Tree → Type 0
Kept T U P C t = ((k : Kind) → Keeps T U P k k t) × ((j k : Kind) → C j k → Keeps T U P j k t)

within : (Q : Tree → Type 0) (w : Row) (es : List (Entry Tree)) → Each (λ (e : Entry Tree). Q e.value) es
    → Each (λ (e : Entry Tree). Q e.value) (own w es)
within Q w es g = Each_within-only (λ (e : Entry Tree). Q e.value) (λ e. takes w e.name) es g

-- if `P` holds for the requirements of rows, it holds for those of the first row and for those of the rows after it
asks_parts : (U : Tables) (P : Kind → Tree → Type 0) (es : List (Entry Tree)) (w : Row) (ws : List Row)
    → OfAsked P (asks_rows (askeds U es) (w ∷ ws))
    → OfAsked P (asks_own w (askeds U (own w es))) × OfAsked P (asks_rows (askeds U es) ws)
asks_parts U P es w ws o =
    let q = Each_parts (λ (a : Asking). P a.kind a.tree) (asks_row (askeds U es) w) (asks_rows (askeds U es) ws) o in
    (subst (λ l. OfAsked P (asks_own w l)) (own_judged (root_asks U) w es) q.0, q.1)

item_sound : (U : Tables) (k : Kind) → sound U (ref_to k) ≡ true → sound U k ≡ true
item_sound U k s = (and_parts (under_ref U k) (sound U k) s).1

null_or_kept : (T U : Tables) (k : Kind) (t : Tree) → may_be_null k ≡ true → conforms T (null_or k) t ≡ true
    → conforms U (null_or k) t ≡ true
null_or_kept T U any_text null s h = refl
null_or_kept T U any_text t s h = h
null_or_kept T U any_flag null s h = refl
null_or_kept T U any_flag t s h = h
null_or_kept T U (number w) null s h = refl
null_or_kept T U (number w) t s h = h
null_or_kept T U k t s h = cc

table_rows : (U : Tables) → tables_sound U ≡ true → (i : TableName) → Each (λ w. row_sound U w ≡ true) (U i)
table_rows U W i = every_each (row_sound U) (U i)
    (and_parts (rows_apart (U i)) (every (row_sound U) (U i)) (table_sound U W i)).1

schema_row_sound : (U : Tables) → tables_sound U ≡ true → Each (λ w. row_sound U w ≡ true) (schema_rows U)
schema_row_sound U W = every_each (row_sound U) (schema_rows U) (checked U W).4

module _ (T U : Tables) (W : tables_sound U ≡ true) (P : Kind → Tree → Type 0) (C : Kind → Kind → Type 0) where
  abbrev ValuesKept : List (Entry Tree) → Type 0
  ValuesKept es = Each (λ (e : Entry Tree). Kept T U P C e.value) es

  items_kept : (k : Kind) (i : ℕ) (ts : Items) → sound U k ≡ true → Each (Kept T U P C) (items_list ts)
      → every (λ (x : Seen (Kind → Bool)). x.answer k) (of_items (root_conforms T) ts) ≡ true
      → OfAsked P (asks_items k i (of_items (root_asks U) ts))
      → every (λ (x : Seen (Kind → Bool)). x.answer k) (of_items (root_conforms U) ts) ≡ true
  items_kept k i no_items s g h o = refl
  items_kept k i (item t ts) s g h o =
      let p = and_parts (conforms T k t) _ h in
      let q = Each_parts (λ (a : Asking). P a.kind a.tree) (below (at_index i) (asked U k t)) _ o in
      and_from (conforms U k t) _ (g.0.0 k s p.0 (of_below P (at_index i) (asked U k t) q.0))
      (items_kept k (suc i) ts s g.1 p.1 q.1)

  members_kept : (k : Kind) (es : List (Entry Tree)) → sound U k ≡ true → ValuesKept es
      → every (λ (e : Entry (Seen (Kind → Bool))). e.value.answer k) (judged T es) ≡ true
      → OfAsked P (asks_members k (askeds U es))
      → every (λ (e : Entry (Seen (Kind → Bool))). e.value.answer k) (judged U es) ≡ true
  members_kept k [] s g h o = refl
  members_kept k (e ∷ es) s g h o =
      let p = and_parts (conforms T k e.value) _ h in
      let q = Each_parts (λ (a : Asking). P a.kind a.tree) (below (at_name e.name) (asked U k e.value)) _ o in
      and_from (conforms U k e.value) _ (g.0.0 k s p.0 (of_below P (at_name e.name) (asked U k e.value) q.0))
      (members_kept k es s g.1 p.1 q.1)

  unless_skipped : (b c d : Bool) (l : List Asking) → (b || c) ≡ true → OfAsked P (cond b [] l)
      → (c ≡ true → OfAsked P l → d ≡ true) → (b || d) ≡ true
  unless_skipped true c d l h o g = refl
  unless_skipped false c d l h o g = g h o

  name_kept : (n : List ℕ) (m : Mode) (j k : Kind) (l : List (Entry Tree)) → sound U k ≡ true
      → Each (λ (e : Entry Tree). Keeps T U P j k e.value) l
      → name_holds m j (judged T l) ≡ true → OfAsked P (asks_own (row n m k) (askeds U l))
      → name_holds m k (judged U l) ≡ true
  name_kept n m j k [] s g h o = h
  name_kept n m j k (e ∷ l) s g h o =
      unless_skipped (skips_null m && is_null e.value) (conforms T j e.value) (conforms U k e.value)
      (below (at_name e.name) (asked U k e.value)) h o
      (λ c a. g.0 s c (of_below P (at_name e.name) (asked U k e.value) a))

  -- a row that is the same in both lists holds by the second, if it holds by the first
  row_kept : (w : Row) (l : List (Entry Tree)) → row_sound U w ≡ true → ValuesKept l
      → row_holds_own w (judged T l) ≡ true → OfAsked P (asks_own w (askeds U l))
      → row_holds_own w (judged U l) ≡ true
  row_kept (row n m k) l s g h o = name_kept n m k k l (and_parts (mode_fits m k) (sound U k) s).1
      (each_under (λ (e : Entry Tree) (x : Kept T U P C e.value). x.0 k) l g) h o
  row_kept (either a j b k) (e ∷ l) s g h o =
      let i = cond (same_text a e.name) j k in
      let p = and_parts (sound U j) (sound U k) (and_parts (sound U j && sound U k) (not (same_text a b)) s).0 in
      g.0.0 i (sound_pick U (same_text a e.name) j k p.0 p.1) h (of_below P (at_name e.name) (asked U i e.value) o)
  row_kept (class c k) l s g h o = members_kept k l s g h o
  row_kept w [] s g h o = h
  row_kept w l s g h o = h

  -- a row that was added holds
  added_holds : (n : List ℕ) (k : Kind) → ((t : Tree) → OfAsked P (asked U k t) → conforms U k t ≡ true)
      → (l : List (Entry Tree))
      → OfAsked P (asks_own (row n optional k) (askeds U l)) → name_holds optional k (judged U l) ≡ true
  added_holds n k d [] o = refl
  added_holds n k d (e ∷ l) o = at (is_null e.value) o
    where
      at : (b : Bool) → OfAsked P (cond b [] (below (at_name e.name) (asked U k e.value)))
          → (b || conforms U k e.value) ≡ true
      at true o = refl
      at false o = d e.value (of_below P (at_name e.name) (asked U k e.value) o)

  rows_kept : (es : List (Entry Tree)) (vs ws : List Row) → RowsKept U P C vs ws
      → Each (λ w. row_sound U w ≡ true) ws → ValuesKept es → AllHold T es vs → OfAsked P (asks_rows (askeds U es) ws)
      → AllHold U es ws
  rows_kept es vs ws kept_none s g h o = tt
  rows_kept es vs ws (kept_same w us zs r) s g h o =
      let q = asks_parts U P es w zs o in
      (row_kept w (own w es) s.0 (within (Kept T U P C) w es g) h.0 q.0, rows_kept es us zs r s.1 g h.1 q.1)
  rows_kept es vs ws (kept_changed n m j k us zs c r) s g h o =
      let q = asks_parts U P es (row n m k) zs o in
      let l = own (row n m k) es in (
        name_kept n m j k l (and_parts (mode_fits m k) (sound U k) s.0).1
            (each_under (λ (e : Entry Tree) (x : Kept T U P C e.value). x.1 j k c) l
            (within (Kept T U P C) (row n m k) es g)) h.0 q.0,
        rows_kept es us zs r s.1 g h.1 q.1,
      )
  rows_kept es vs ws (kept_dropped w us zs r) s g h o = rows_kept es us zs r s g h.1 o
  rows_kept es vs ws (kept_added n k us zs d r) s g h o =
      let q = asks_parts U P es (row n optional k) zs o in
      (added_holds n k d (own (row n optional k) es) q.0, rows_kept es us zs r s.1 g h q.1)

  -- the rows of the second list hold for an object, if those of the first do
  objects_kept : (vs ws : List Row) (ms : Members) → RowsKept U P C vs ws → Each (λ w. row_sound U w ≡ true) ws
      → ValuesKept (members_list ms) → AllHold T (members_list ms) vs
      → OfAsked P (asks_rows (of_members (root_asks U) ms) ws) → AllHold U (members_list ms) ws
  objects_kept vs ws ms r s g h o =
      rows_kept (members_list ms) vs ws r s g h
      (subst (λ l. OfAsked P (asks_rows l ws)) (of_members_lem (root_asks U) ms) o)

  table_kept : (i : TableName) (ms : Members) → RowsKept U P C (T i) (U i) → ValuesKept (members_list ms)
      → conforms T (by i) (object ms) ≡ true
      → OfAsked P (asks_inner U (by i) (of_members (root_asks U) ms)) → conforms U (by i) (object ms) ≡ true
  unfolding checked_rows
  table_kept i ms r g h o =
      of_list (λ t. conforms U (by i) t ≡ true) ms
      (table_conforms U i (members_list ms)
      (objects_kept (T i) (U i) ms r (table_rows U W i) g (held_in T (by i) ms plain refl h) o))

  schema_kept : (ms : Members) → RowsKept U P C (T schema_data) (U schema_data) → ValuesKept (members_list ms)
      → conforms T a_schema (object ms) ≡ true
      → OfAsked P (asks_inner U a_schema (of_members (root_asks U) ms)) → conforms U a_schema (object ms) ≡ true
  unfolding checked_rows
  schema_kept ms r g h o =
      let es = members_list ms in
      let kinds = each made_optional any_rows in
      let a = objects_kept (join (T schema_data) kinds) (join (U schema_data) kinds) ms
      (same_behind U P C (T schema_data) (U schema_data) kinds r) (schema_row_sound U W) g
      (held_in T a_schema ms (sort (sort_of es)) refl h) o in
      of_list (λ t. conforms U a_schema t ≡ true) ms
      (object_conforms U a_schema es ∙ from_all_hold U es (join (U schema_data) kinds) a)

  kind_kept : (ms : Members) → ValuesKept (members_list ms) → conforms T a_schema_kind (object ms) ≡ true
      → OfAsked P (asks_inner U a_schema_kind (of_members (root_asks U) ms))
      → conforms U a_schema_kind (object ms) ≡ true
  unfolding checked_rows
  kind_kept ms g h o =
      let es = members_list ms in
      let kinds = each made_optional any_rows in
      let a = objects_kept kinds kinds ms (all_same U P C kinds)
      (Each_behind (λ w. row_sound U w ≡ true) (U schema_data) kinds (schema_row_sound U W)) g
      (held_in T a_schema_kind ms (sort (sort_of es)) refl h) o in
      of_list (λ t. conforms U a_schema_kind t ≡ true) ms
      (object_conforms U a_schema_kind es ∙ from_all_hold U es kinds a)

  tagged_inner : (n : List ℕ) (cs : List Case) (es : List (Entry Tree))
      → ((i : TableName) → RowsKept U P C (T i) (U i)) → ValuesKept es
      → conforms T (tagged n cs) (object (members_of es)) ≡ true → OfAsked P (asks_inner U (tagged n cs) (askeds U es))
      → conforms U (tagged n cs) (object (members_of es)) ≡ true
  unfolding checked_rows
  tagged_inner n cs es r g h o =
      let t = tag_of T n cs es h in
      let i = tag_table cs t.0 in
      let rows = held_of T (tagged n cs) es (tag t.0) t.1 h in
      let a : AllHold T es (T i) = subst (λ ws. AllHold T es ws) (rows_at_tag T cs t.0 t.2) rows.1 in
      let q = Each_parts (λ (a : Asking). P a.kind a.tree)
      (asks_own (row n required (one_of (words cs))) (own (constant n []) (askeds U es))) _ o in
      let asks = subst (λ c. OfAsked P (asks_tag U n cs (askeds U es) c))
      (ap (choice (tagged n cs)) (seen_members (root_asks U) es) ∙ t.1) q.1 in
      let b : AllHold U es (case_rows U cs t.0) =
      subst (λ ws. AllHold U es ws) (sym (rows_at_tag U cs t.0 t.2))
      (rows_kept es (T i) (U i) (r i) (table_rows U W i) g a asks.1) in
      object_conforms U (tagged n cs) es
      ∙ ap (λ c. chosen_holds U (tagged n cs) (judged U es) c) t.1
      ∙ from_all_hold U es (constant n t.0 ∷ case_rows U cs t.0) (
        row_kept (constant n t.0) (own (constant n t.0) es) refl
            (within (Kept T U P C) (constant n t.0) es g) rows.0 tt,
        b,
      )

  tagged_kept : (n : List ℕ) (cs : List Case) (ms : Members) → ((i : TableName) → RowsKept U P C (T i) (U i))
      → ValuesKept (members_list ms)
      → conforms T (tagged n cs) (object ms) ≡ true
      → OfAsked P (asks_inner U (tagged n cs) (of_members (root_asks U) ms))
      → conforms U (tagged n cs) (object ms) ≡ true
  tagged_kept n cs ms r g h o =
      of_list (λ t. conforms U (tagged n cs) t ≡ true) ms
      (tagged_inner n cs (members_list ms) r g (from_list (λ t. conforms T (tagged n cs) t ≡ true) ms h)
      (subst (λ l. OfAsked P (asks_inner U (tagged n cs) l)) (of_members_lem (root_asks U) ms) o))

  pub map_kept : (k : Kind) (ms : Members) → sound U k ≡ true → ValuesKept (members_list ms)
      → every (λ (e : Entry (Seen (Kind → Bool))). e.value.answer k) (of_members (root_conforms T) ms) ≡ true
      → OfAsked P (asks_members k (of_members (root_asks U) ms))
      → every (λ (e : Entry (Seen (Kind → Bool))). e.value.answer k) (of_members (root_conforms U) ms) ≡ true
  map_kept k ms s g h o =
      subst (λ l. every (λ (e : Entry (Seen (Kind → Bool))). e.value.answer k) l ≡ true)
      (sym (of_members_lem (root_conforms U) ms))
      (members_kept k (members_list ms) s g
      (subst (λ l. every (λ (e : Entry (Seen (Kind → Bool))). e.value.answer k) l ≡ true)
      (of_members_lem (root_conforms T) ms) h)
      (subst (λ l. OfAsked P (asks_members k l)) (of_members_lem (root_asks U) ms) o))

  -- where a reference is allowed, a reference still conforms, and any other object does if the item is kept
  pub item_kept : (ms : Members) (b c : Bool) (l : List Asking)
      → reference_or (is_reference (an_object (of_members (root_conforms T) ms))) b ≡ true
      → OfAsked P (unless_reference (is_reference (an_object (of_members (root_asks U) ms))) l)
      → (b ≡ true → OfAsked P l → c ≡ true)
      → reference_or (is_reference (an_object (of_members (root_conforms U) ms))) c ≡ true
  item_kept ms b c l h o g =
      subst (λ r. reference_or r c ≡ true) (sym (reference_of (root_conforms U) ms))
      (at (ref_text (object ms)) (subst (λ r. reference_or r b ≡ true) (reference_of (root_conforms T) ms) h)
      (subst (λ r. OfAsked P (unless_reference r l)) (reference_of (root_asks U) ms) o))
    where
      at : (r : Option (List ℕ)) → reference_or r b ≡ true → OfAsked P (unless_reference r l) → reference_or r c ≡ true
      at None h o = g h o
      at (Some s) h o = refl

  step : ((i : TableName) → RowsKept U P C (T i) (U i)) → (k : Kind) (t : Tree) → Inside (Kept T U P C) t
      → Keeps T U P k k t
  step r (null_or any_text) t g s h o = null_or_kept T U any_text t refl h
  step r (null_or any_flag) t g s h o = null_or_kept T U any_flag t refl h
  step r (null_or (number w)) t g s h o = null_or_kept T U (number w) t refl h
  step r (null_or k) t g s h o = cc
  step r (ref_to k) null g s h o = step r k null g (item_sound U k s) h o.1
  step r (ref_to k) (flag b) g s h o = step r k (flag b) g (item_sound U k s) h o.1
  step r (ref_to k) (whole z) g s h o = step r k (whole z) g (item_sound U k s) h o.1
  step r (ref_to k) (text u) g s h o = step r k (text u) g (item_sound U k s) h o.1
  step r (ref_to k) (list ts) g s h o = step r k (list ts) g (item_sound U k s) h o.1
  step r (ref_to k) (object ms) g s h o =
      item_kept ms (conforms T k (object ms)) (conforms U k (object ms)) (asked U k (object ms)) h o.1
      (λ c a. step r k (object ms) g (item_sound U k s) c a)
  step r (list_of k) (list ts) g s h o = items_kept k 0 ts s g h o.1
  step r (map_of k) (object ms) g s h o = map_kept k ms s g h o.1
  step r (by i) (object ms) g s h o = table_kept i ms (r i) g h o.1
  step r (tagged n cs) (object ms) g s h o = tagged_kept n cs ms r g h o.1
  step r a_schema (object ms) g s h o = schema_kept ms (r schema_data) g h o.1
  step r a_schema_kind (object ms) g s h o = kind_kept ms g h o.1
  step r flag_or_schema (object ms) g s h o =
      item_kept ms (conforms T a_schema (object ms)) (conforms U a_schema (object ms))
      (asked U a_schema (object ms)) h o.1.1
      (λ c a. schema_kept ms (r schema_data) g c a.1)
  step r k (whole (pos n)) g s h o = h
  step r k t g s h o = h

  -- a node that conforms by the first list conforms by the second, if each change of kind keeps that whenever it is
  -- kept for the nodes inside
  pub kept : ((i : TableName) → RowsKept U P C (T i) (U i))
      → ((t : Tree) → Inside (Kept T U P C) t → (j k : Kind) → C j k → Keeps T U P j k t)
      → (t : Tree) → Kept T U P C t
  kept r c t = by_trees (Kept T U P C) (λ u g. ((λ k. step r k u g), c u g)) t
