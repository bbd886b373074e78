-- If a node is sorted by name, its normalized node is read as the same form after sorting by name: for all kinds and nodes.
use Rattle.std.proofs.Common.{◌≡◌, ℕ, List, [], ◌∷◌, Bool, true, false, ◌&&◌, Option, Some, None, codes, refl, sym, ap, subst, ◌∙◌, pos, negsuc}
use Rattle.std.proofs.lemmas.Bool.{and_parts, both_ways}
use Rattle.openapi_node.specs.Named.{items_named, lacks, members_named, well_named}
use Rattle.openapi_node.specs.Json.{items_data, items_of_data}
use Rattle.openapi_node.specs.Tree as tree
use Rattle.openapi_node.specs.Tree.{Tree, Items, Members, list, object, text, items_of}
use Rattle.serde_json.specs.Data as json
use Rattle.openapi_json.specs.Writing.{tree_by_name}
use Rattle.openapi_tables.specs.Prelude.{Case, Kind, TableName, Tables, Choice, any_flag, any_text, by, number, tagged, a_schema, a_schema_kind, flag_or_schema}
use Rattle.openapi_tables.specs.Prelude.{list_of, map_of, null_or, ref_to, conforms, form, clean, print, reference_or, reference_or_item}
use Rattle.openapi_tables.specs.Prelude.{root_conforms, root_form, named, named_of, name, sequence, forms_of, each, every, held, one}
use Rattle.openapi_tables.specs.Prelude.{may_be_null, sort, sort_of, sound, text_in, under_ref, Entry, Seen, on_entry, items_list}
use Rattle.openapi_tables.specs.Prelude.{members_list, members_of, choice, final_tables}
use Rattle.openapi_tables.proofs.AllReadProper.{from_list, of_list, read_by_kind, read_by_sort, read_by_table, read_by_tag, read_proper}
use Rattle.openapi_tables.proofs.DistinctReads.{reads_distinct}
use Rattle.openapi_tables.proofs.DistinctWrites.{writes_named}
use Rattle.openapi_tables.proofs.FaultLaws.{judged}
use Rattle.openapi_tables.proofs.ListLaws.{Each}
use Rattle.openapi_tables.proofs.OrderKept.{list_cleaned, map_cleaned}
use Rattle.openapi_tables.proofs.PlainLaws.{is_plain}
use Rattle.openapi_tables.proofs.PrintLaws.{print-flag_or_schema}
use Rattle.openapi_tables.proofs.ReadLaws.{form-item, form-list, form-map, form-reference}
use Rattle.openapi_tables.proofs.Taken.{ref_text, reference_of}
use Rattle.openapi_tables.proofs.TreeLaws.{Inside, by_trees, items_of-list, members_of-list, of_members-of}
use Rattle.openapi_tables.proofs.WellMade.{final_sound}
use Rattle.openapi_text.proofs.Kept.{keeps}
use Rattle.openapi_text.proofs.ObjectsByName.{AreReady, cleaned_object, table_same, tagged_same, written_by}
use Rattle.openapi_text.proofs.RowsByName.{flat_value, is_flat}
use Rattle.openapi_text.proofs.SameByName.{Same, every_holds, fixed_same, flat_fixed, pairs_same}
use Rattle.openapi_text.proofs.SchemasByName.{kind_same, schema_same}
use Rattle.openapi_text.proofs.Sorting.{AreSorted, Ascends, Below, data_list, held_sorted, in_turn, list_sorted, object_sorted}
use Rattle.openapi_text.proofs.Sorting.{sorted_object}

-- ---- references
text_kept : (v : Tree) → text_in (tree_by_name v) ≡ text_in v
text_kept (tree.whole (pos n)) = refl
text_kept (tree.whole (negsuc n)) = refl
text_kept v = refl

ref_kept : (v : Tree) → well_named v ≡ true → ref_text (tree_by_name v) ≡ ref_text v
ref_kept (object ms) w =
    let es = members_list ms in
    ap (λ l. text_in (held (codes "$ref") l)) (data_list ms json.no_members)
    ∙ ap text_in (held_sorted (codes "$ref") es (subst (λ x. members_named x ≡ true) (sym (members_of-list ms)) w))
    ∙ text_kept (held (codes "$ref") es)
ref_kept (tree.whole (pos n)) w = refl
ref_kept (tree.whole (negsuc n)) w = refl
ref_kept v w = refl

conforms_ref : (T : Tables) (k : Kind) (v : Tree) → conforms T (ref_to k) v ≡ reference_or (ref_text v) (conforms T k v)
conforms_ref T k (object ms) = ap (λ r. reference_or r (conforms T k (object ms))) (reference_of (root_conforms T) ms)
conforms_ref T k v = refl

form_ref : (T : Tables) (k : Kind) (v : Tree) → form T (ref_to k) v ≡ reference_or_item (ref_text v) (form T k v)
form_ref T k (object ms) = ap (λ r. reference_or_item r (form T k (object ms))) (reference_of (root_form T) ms)
form_ref T k v = refl

ref_same : (T : Tables) (k : Kind) (v : Tree) → ref_text (tree_by_name v) ≡ ref_text v → Same T k v → Same T (ref_to k) v
ref_same T k v e h = (
  form_ref T k (tree_by_name v) ∙ (λ i. reference_or_item (e i) (h.0 i)) ∙ sym (form_ref T k v),
  conforms_ref T k (tree_by_name v) ∙ (λ i. reference_or (e i) (h.1 i)) ∙ sym (conforms_ref T k v),
)

-- ---- lists and maps
sorted_items : (us : List Tree) → items_of_data (items_data (items_of us)) ≡ items_of (each tree_by_name us)
sorted_items [] = refl
sorted_items (u ∷ us) = ap (tree.item (tree_by_name u)) (sorted_items us)

conforms_list : (T : Tables) (k : Kind) (us : List Tree) → conforms T (list_of k) (list (items_of us)) ≡ every (conforms T k) us
conforms_list T k [] = refl
conforms_list T k (u ∷ us) = ap (λ b. conforms T k u && b) (conforms_list T k us)

forms_same : (T : Tables) (k : Kind) (us : List Tree) → Each (Same T k) us → each (form T k) (each tree_by_name us) ≡ each (form T k) us
forms_same T k [] h = refl
forms_same T k (u ∷ us) h = λ i. h.0.0 i ∷ forms_same T k us h.1 i

every_conforms : (T : Tables) (k : Kind) (us : List Tree) → Each (Same T k) us
    → every (conforms T k) (each tree_by_name us) ≡ every (conforms T k) us
every_conforms T k [] h = refl
every_conforms T k (u ∷ us) h = λ i. h.0.1 i && every_conforms T k us h.1 i

items_same : (T : Tables) (k : Kind) (us : List Tree) → Each (Same T k) us → Same T (list_of k) (list (items_of us))
items_same T k us h =
    let is = ap list (sorted_items us) in (
      ap (form T (list_of k)) is ∙ form-list T k (each tree_by_name us)
          ∙ ap (λ fs. sequence (forms_of fs)) (forms_same T k us h) ∙ sym (form-list T k us),
      ap (conforms T (list_of k)) is ∙ conforms_list T k (each tree_by_name us) ∙ every_conforms T k us h
          ∙ sym (conforms_list T k us),
    )

conforms_map : (T : Tables) (k : Kind) (l : List (Entry Tree)) → conforms T (map_of k) (object (members_of l))
    ≡ every (λ (e : Entry (Seen (Kind → Bool))). e.value.answer k) (judged T l)
conforms_map T k l = ap (every (λ (e : Entry (Seen (Kind → Bool))). e.value.answer k)) (of_members-of (root_conforms T) l)

entries_same : (T : Tables) (k : Kind) (l : List (Entry Tree)) → Ascends l → Each (λ (e : Entry Tree). Same T k e.value) l
    → Same T (map_of k) (object (members_of l))
entries_same T k l o h =
    let is = sorted_object l ∙ ap (λ x. object (members_of x)) (in_turn [] l o) in (
      ap (form T (map_of k)) is ∙ form-map T k (each (on_entry tree_by_name) l)
          ∙ ap (λ m. named (named_of m)) (pairs_same T name k l h) ∙ sym (form-map T k l),
      ap (conforms T (map_of k)) is ∙ conforms_map T k (each (on_entry tree_by_name) l) ∙ every_holds T k l h
          ∙ sym (conforms_map T k l),
    )

below_cleaned : (T : Tables) (k : Kind) (n : List ℕ) (es : List (Entry Tree)) → Below n es → Below n (each (on_entry (clean T k)) es)
below_cleaned T k n [] b = tt
below_cleaned T k n (e ∷ es) b = (b.0, below_cleaned T k n es b.1)

ascends_cleaned : (T : Tables) (k : Kind) (es : List (Entry Tree)) → Ascends es → Ascends (each (on_entry (clean T k)) es)
ascends_cleaned T k [] o = tt
ascends_cleaned T k (e ∷ es) o = (below_cleaned T k e.name es o.0, ascends_cleaned T k es o.1)

-- ---- the claim for the values inside
abbrev Claim : Tree → Type 0
Claim t =
    tree_by_name t ≡ t → well_named t ≡ true → (k : Kind) → sound final_tables k ≡ true → conforms final_tables k t ≡ true
    → Same final_tables k (clean final_tables k t)

values_named : (ms : Members) → members_named ms ≡ true → Each (λ (e : Entry Tree). well_named e.value ≡ true) (members_list ms)
values_named tree.no_members h = tt
values_named (tree.member n t ms) h =
    let p = and_parts (lacks n ms) (well_named t && members_named ms) h in
    let q = and_parts (well_named t) (members_named ms) p.1 in
    (q.0, values_named ms q.1)

all_ready : (es : List (Entry Tree)) → Each (λ (e : Entry Tree). Claim e.value) es → AreSorted es
    → Each (λ (e : Entry Tree). well_named e.value ≡ true) es → AreReady final_tables es
all_ready [] g o w = tt
all_ready (e ∷ es) g o w = ((o.0, λ k s c. g.0 o.0 w.0 k s c), all_ready es g.1 o.1 w.1)

items_cleaned : (k : Kind) (ts : Items) → sound final_tables k ≡ true → Each Claim (items_list ts)
    → Each (λ t. tree_by_name t ≡ t) (items_list ts) → items_named ts ≡ true → conforms final_tables (list_of k) (list ts) ≡ true
    → Each (Same final_tables k) (each (clean final_tables k) (items_list ts))
items_cleaned k tree.no_items s g o w c = tt
items_cleaned k (tree.item t ts) s g o w c =
    let p = and_parts (conforms final_tables k t) (conforms final_tables (list_of k) (list ts)) c in
    let q = and_parts (well_named t) (items_named ts) w in
    (g.0 o.0 q.0 k s p.0, items_cleaned k ts s g.1 o.1 q.1 p.1)

entries_cleaned : (k : Kind) (es : List (Entry Tree)) → sound final_tables k ≡ true → AreReady final_tables es
    → every (λ (e : Entry (Seen (Kind → Bool))). e.value.answer k) (judged final_tables es) ≡ true
    → Each (λ (e : Entry Tree). Same final_tables k e.value) (each (on_entry (clean final_tables k)) es)
entries_cleaned k [] s d c = tt
entries_cleaned k (e ∷ es) s d c =
    let p = and_parts (conforms final_tables k e.value)
    (every (λ (x : Entry (Seen (Kind → Bool))). x.value.answer k) (judged final_tables es)) c in
    (d.0.1 k s p.0, entries_cleaned k es s d.1 p.1)

named_clean : (k : Kind) (t : Tree) → sound final_tables k ≡ true → conforms final_tables k t ≡ true → well_named t ≡ true
    → well_named (clean final_tables k t) ≡ true
named_clean k t s c w =
    writes_named final_tables final_sound (form final_tables k t) k s (read_proper final_tables final_sound t k s c)
    (reads_distinct final_tables t k w)

named_object : (k : Kind) (c : Choice) (es : List (Entry Tree)) → sound final_tables k ≡ true → choice k es ≡ Some c
    → conforms final_tables k (object (members_of es)) ≡ true → well_named (object (members_of es)) ≡ true
    → members_named (members_of (written_by final_tables k c es)) ≡ true
named_object k c es s h x w =
    subst (λ v. well_named v ≡ true) (cleaned_object final_tables k c es h) (named_clean k (object (members_of es)) s x w)

-- ---- references, and flags or schemas
referred : (j : Kind) (t : Tree) → well_named t ≡ true → sound final_tables j ≡ true → conforms final_tables (ref_to j) t ≡ true
    → (conforms final_tables j t ≡ true → Same final_tables j (clean final_tables j t))
    → Same final_tables (ref_to j) (clean final_tables (ref_to j) t)
referred j t w s c inner = at (ref_text t) refl
  where
    at : (r : Option (List ℕ)) → ref_text t ≡ r → Same final_tables (ref_to j) (clean final_tables (ref_to j) t)
    at (Some u) e =
        let is : clean final_tables (ref_to j) t ≡ object (members_of (one (codes "$ref") (text u))) =
        ap (print final_tables (ref_to j)) (form-reference final_tables j t u e) in
        fixed_same final_tables (ref_to j) (clean final_tables (ref_to j) t) (subst (λ x. tree_by_name x ≡ x) (sym is) refl)
    at None e =
        let is : clean final_tables (ref_to j) t ≡ clean final_tables j t =
        ap (print final_tables (ref_to j)) (form-item final_tables j t e) in
        let h : conforms final_tables j t ≡ true =
        sym (conforms_ref final_tables j t ∙ ap (λ o. reference_or o (conforms final_tables j t)) e) ∙ c in
        subst (Same final_tables (ref_to j)) (sym is)
        (ref_same final_tables j (clean final_tables j t) (ref_kept (clean final_tables j t) (named_clean j t s h w)) (inner h))

as_flag : (v : Tree) (ms : Members) → v ≡ object ms → Same final_tables (ref_to a_schema) v → Same final_tables flag_or_schema v
as_flag v ms is =
    subst (λ u. Same final_tables (ref_to a_schema) u → Same final_tables flag_or_schema u) (sym is) (λ h. h)

pub flagged_schema : (ms : Members) → well_named (object ms) ≡ true → conforms final_tables flag_or_schema (object ms) ≡ true
    → (conforms final_tables a_schema (object ms) ≡ true → Same final_tables a_schema (clean final_tables a_schema (object ms)))
    → Same final_tables flag_or_schema (clean final_tables flag_or_schema (object ms))
flagged_schema ms w c inner =
    let f = form final_tables (ref_to a_schema) (object ms) in
    subst (Same final_tables flag_or_schema) (sym (print-flag_or_schema final_tables f)) (at (ref_text (object ms)) refl)
  where
    whole : Same final_tables (ref_to a_schema) (clean final_tables (ref_to a_schema) (object ms))
    whole = referred a_schema (object ms) w refl c inner

    es : List (Entry Tree)
    es = members_list ms

    at : (r : Option (List ℕ)) → ref_text (object ms) ≡ r
        → Same final_tables flag_or_schema (clean final_tables (ref_to a_schema) (object ms))
    at (Some u) e =
        as_flag (clean final_tables (ref_to a_schema) (object ms)) (members_of (one (codes "$ref") (text u)))
        (ap (print final_tables (ref_to a_schema)) (form-reference final_tables a_schema (object ms) u e)) whole
    at None e =
        as_flag (clean final_tables (ref_to a_schema) (object ms))
        (members_of (written_by final_tables a_schema (sort (sort_of es)) es))
        (ap (print final_tables (ref_to a_schema)) (form-item final_tables a_schema (object ms) e)
        ∙ ap (λ x. clean final_tables a_schema (object x)) (sym (members_of-list ms))
        ∙ cleaned_object final_tables a_schema (sort (sort_of es)) es refl) whole

-- ---- all kinds and nodes
may_flat : (k : Kind) → may_be_null k ≡ true → is_plain k ≡ true
may_flat any_text h = refl
may_flat any_flag h = refl
may_flat (number w) h = refl
may_flat k h = cc

flat_same : (k : Kind) (t : Tree) → tree_by_name t ≡ t → conforms final_tables k t ≡ true → is_flat k ≡ true
    → Same final_tables k (clean final_tables k t)
flat_same k t o c e = fixed_same final_tables k (clean final_tables k t) (flat_value final_tables k t e o c)

list_kind : (j : Kind) (ts : Items) → Each Claim (items_list ts) → tree_by_name (list ts) ≡ list ts → items_named ts ≡ true
    → sound final_tables j ≡ true → conforms final_tables (list_of j) (list ts) ≡ true
    → Same final_tables (list_of j) (clean final_tables (list_of j) (list ts))
list_kind j ts g o w s c =
    let us = items_list ts in
    subst (λ x. Same final_tables (list_of j) (clean final_tables (list_of j) (list x))) (items_of-list ts)
    (subst (Same final_tables (list_of j)) (sym (list_cleaned final_tables j us))
    (items_same final_tables j (each (clean final_tables j) us) (items_cleaned j ts s g (list_sorted ts o) w c)))

module _ (ms : Members) (g : Each (λ (e : Entry Tree). Claim e.value) (members_list ms))
    (o : tree_by_name (object ms) ≡ object ms) (w : well_named (object ms) ≡ true) where
  abbrev es : List (Entry Tree)
  es = members_list ms

  ready : AreReady final_tables es
  ready = all_ready es g (object_sorted ms o).1 (values_named ms w)

  map_kind : (j : Kind) → sound final_tables j ≡ true → conforms final_tables (map_of j) (object ms) ≡ true
      → Same final_tables (map_of j) (clean final_tables (map_of j) (object ms))
  map_kind j s c =
      of_list (λ t. Same final_tables (map_of j) (clean final_tables (map_of j) t)) ms
      (subst (Same final_tables (map_of j)) (sym (map_cleaned final_tables j es))
      (entries_same final_tables j (each (on_entry (clean final_tables j)) es)
      (ascends_cleaned final_tables j es (object_sorted ms o).0)
      (entries_cleaned j es s ready
      (sym (conforms_map final_tables j es) ∙ from_list (λ t. conforms final_tables (map_of j) t ≡ true) ms c))))

  table_kind : (i : TableName) → sound final_tables (by i) ≡ true → conforms final_tables (by i) (object ms) ≡ true
      → Same final_tables (by i) (clean final_tables (by i) (object ms))
  table_kind i s c =
      of_list (λ t. Same final_tables (by i) (clean final_tables (by i) t)) ms
      (table_same final_tables final_sound i es s
      (read_by_table final_tables final_sound i es (from_list (λ t. conforms final_tables (by i) t ≡ true) ms c))
      (object_sorted ms o).0 ready)

  tagged_kind : (n : List ℕ) (cs : List Case) → sound final_tables (tagged n cs) ≡ true
      → conforms final_tables (tagged n cs) (object ms) ≡ true
      → Same final_tables (tagged n cs) (clean final_tables (tagged n cs) (object ms))
  tagged_kind n cs s c =
      let x = from_list (λ t. conforms final_tables (tagged n cs) t ≡ true) ms c in
      let r = read_by_tag final_tables final_sound n cs es s x in
      of_list (λ t. Same final_tables (tagged n cs) (clean final_tables (tagged n cs) t)) ms
      (tagged_same final_tables final_sound n cs es s r (object_sorted ms o).0 ready
      (named_object (tagged n cs) r.by_choice es s r.chosen x (from_list (λ t. well_named t ≡ true) ms w)))

  schema_kind : conforms final_tables a_schema (object ms) ≡ true
      → Same final_tables a_schema (clean final_tables a_schema (object ms))
  schema_kind c =
      let x = from_list (λ t. conforms final_tables a_schema t ≡ true) ms c in
      of_list (λ t. Same final_tables a_schema (clean final_tables a_schema t)) ms
      (schema_same es (read_by_sort final_tables final_sound es x) (object_sorted ms o).0 ready
      (named_object a_schema (sort (sort_of es)) es refl refl x (from_list (λ t. well_named t ≡ true) ms w)))

  plain_kind : conforms final_tables a_schema_kind (object ms) ≡ true
      → Same final_tables a_schema_kind (clean final_tables a_schema_kind (object ms))
  plain_kind c =
      let x = from_list (λ t. conforms final_tables a_schema_kind t ≡ true) ms c in
      of_list (λ t. Same final_tables a_schema_kind (clean final_tables a_schema_kind t)) ms
      (kind_same es (read_by_kind final_tables final_sound es x) ready
      (named_object a_schema_kind (sort (sort_of es)) es refl refl x (from_list (λ t. well_named t ≡ true) ms w)))

unflat : (t : Tree) → Inside Claim t → tree_by_name t ≡ t → well_named t ≡ true → (k : Kind) → is_flat k ≡ false
    → sound final_tables k ≡ true → conforms final_tables k t ≡ true → Same final_tables k (clean final_tables k t)
unflat t g o w (null_or j) e s c =
    absurd (both_ways (is_plain j) e (may_flat j (and_parts (may_be_null j) (sound final_tables j) s).0))
unflat t g o w (ref_to j) e s c =
    let p = and_parts (under_ref final_tables j) (sound final_tables j) s in
    referred j t w p.1 c (λ h. at (is_flat j) refl h (unflat t g o w j))
  where
    at : (b : Bool) → is_flat j ≡ b → conforms final_tables j t ≡ true
        → (is_flat j ≡ false → sound final_tables j ≡ true → conforms final_tables j t ≡ true
        → Same final_tables j (clean final_tables j t))
        → Same final_tables j (clean final_tables j t)
    at true f h r = flat_same j t o h f
    at false f h r = r f (and_parts (under_ref final_tables j) (sound final_tables j) s).1 h
unflat tree.null g o w k e s c = fixed_same final_tables k (clean final_tables k tree.null) (flat_fixed _ (keeps final_tables tree.null k).0)
unflat (tree.flag b) g o w k e s c =
    fixed_same final_tables k (clean final_tables k (tree.flag b)) (flat_fixed _ (keeps final_tables (tree.flag b) k).0)
unflat (tree.whole z) g o w k e s c =
    fixed_same final_tables k (clean final_tables k (tree.whole z)) (flat_fixed _ (keeps final_tables (tree.whole z) k).0)
unflat (text u) g o w k e s c =
    fixed_same final_tables k (clean final_tables k (text u)) (flat_fixed _ (keeps final_tables (text u) k).0)
unflat (list ts) g o w (list_of j) e s c = list_kind j ts g o w s c
unflat (object ms) g o w (map_of j) e s c = map_kind ms g o w j s c
unflat (object ms) g o w (by i) e s c = table_kind ms g o w i s c
unflat (object ms) g o w (tagged n cs) e s c = tagged_kind ms g o w n cs s c
unflat (object ms) g o w a_schema e s c = schema_kind ms g o w c
unflat (object ms) g o w a_schema_kind e s c = plain_kind ms g o w c
unflat (object ms) g o w flag_or_schema e s c = flagged_schema ms w c (λ h. schema_kind ms g o w h)
unflat (list ts) g o w k e s c = cc
unflat (object ms) g o w k e s c = cc

-- if a node is sorted by name, has no name twice in an object, and conforms to a kind, its normalized node is `Same`
pub clean_same : (t : Tree) → tree_by_name t ≡ t → well_named t ≡ true → (k : Kind) → sound final_tables k ≡ true
    → conforms final_tables k t ≡ true → Same final_tables k (clean final_tables k t)
clean_same t = by_trees Claim (λ u g o w k s c. at u g o w k s c (is_flat k) refl) t
  where
    at : (u : Tree) → Inside Claim u → tree_by_name u ≡ u → well_named u ≡ true → (k : Kind) → sound final_tables k ≡ true
        → conforms final_tables k u ≡ true → (b : Bool) → is_flat k ≡ b → Same final_tables k (clean final_tables k u)
    at u g o w k s c true f = flat_same k u o c f
    at u g o w k s c false f = unflat u g o w k f s c
