-- The requirements of a kind in a node, part by part. If the node conforms, each value in it conforms to what is
-- required of it.
use Rattle.std.proofs.Common.{ℕ, suc, Bool, true, false, cond, ◌&&◌, ◌||◌, List, [], ◌∷◌, Option, Some, None, ◌≡◌, refl}
use Rattle.std.proofs.Common.{sym, ap, ◌∙◌, subst}
use Rattle.std.proofs.lemmas.Bool.{and_parts}
use Rattle.openapi_tables.specs.Prelude.{join, every, same_text, items_list, members_list, members_of, Entry, Seen}
use Rattle.openapi_tables.specs.Prelude.{an_object, of_items, of_members, Kind, list_of, map_of, by, tagged}
use Rattle.openapi_tables.specs.Prelude.{ref_to, flag_or_schema, a_schema, a_schema_kind, one_of, Case, Row, row}
use Rattle.openapi_tables.specs.Prelude.{either, class, constant, required, takes, TableName, Tables, is_null, own}
use Rattle.openapi_tables.specs.Prelude.{trees, held, first_tree, sort_of, Choice, plain, sort, any_sort, choice}
use Rattle.openapi_tables.specs.Prelude.{checked_rows, is_case, skips_null, is_reference, reference_or}
use Rattle.openapi_tables.specs.Prelude.{object_holds, root_conforms, conforms, Asking, below, asks_items}
use Rattle.openapi_tables.specs.Prelude.{asks_members, asks_own, asks_rows, asks_row, asks_tag, here, words, tag_table}
use Rattle.openapi_tables.specs.Prelude.{unless_reference, root_asks, asked}
use Rattle.openapi_node.specs.Tree.{Tree, null, text, list, object, Items, no_items, item, Members}
use Rattle.openapi_node.specs.Place.{Step, named as at_name, indexed as at_index}
use Rattle.openapi_tables.specs.Members.{tag}
use Rattle.openapi_tables.specs.Faults.{asks_inner}
use Rattle.openapi_tables.proofs.ListLaws.{Each, Each-join, Each_within-only}
use Rattle.openapi_tables.proofs.TreeLaws.{Inside, by_trees, of_members_lem, members_of-list, seen_root}
use Rattle.openapi_tables.proofs.TreeLaws.{tree_of_root-seen}
use Rattle.openapi_tables.proofs.Taken.{ref_text, reference_of}
use Rattle.openapi_tables.proofs.FaultLaws.{judged, askeds, own_judged, has_words, rows_at_tag, seen_members}
use Rattle.openapi_tables.proofs.RowWrites.{row_holds_own}
use Rattle.openapi_tables.proofs.SortHolds.{AllHold, from_all_hold}
use Rattle.openapi_tables.proofs.Writes.{object_conforms}
use Rattle.openapi_tables.proofs.AllReadProper.{held_of, from_list, tag_of}

-- `P` holds for the kind and the value of each requirement
abbrev pub OfAsked : (Kind → Tree → Type 0) → List Asking → Type 0
OfAsked P l = Each (λ (a : Asking). P a.kind a.tree) l

-- what holds for each element of a concatenation holds for each element of the first and of the second list
pub Each_parts : {A : Type 0} → (P : A → Type 0) (xs ys : List A) → Each P (join xs ys) → Each P xs × Each P ys
Each_parts P [] ys h = (tt, h)
Each_parts P (x ∷ xs) ys h = let p = Each_parts P xs ys h.1 in ((h.0, p.0), p.1)

-- `below` changes only locations: if `P` holds for requirements with one more step, it holds for them without the step.
-- `to_below` is the converse
pub of_below : (P : Kind → Tree → Type 0) (s : Step) (l : List Asking) → OfAsked P (below s l) → OfAsked P l
of_below P s [] h = tt
of_below P s (a ∷ l) h = (h.0, of_below P s l h.1)

pub to_below : (P : Kind → Tree → Type 0) (s : Step) (l : List Asking) → OfAsked P l → OfAsked P (below s l)
to_below P s [] h = tt
to_below P s (a ∷ l) h = (h.0, to_below P s l h.1)

-- the node conforms to the kind. `AllMet`: if a node conforms to a kind, each value in it conforms to what is required
-- of it
abbrev pub Meets : (T : Tables) → Kind → Tree → Type 0
Meets T k t = conforms T k t ≡ true

abbrev pub AllMet : (T : Tables) → Tree → Type 0
AllMet T t = (k : Kind) → conforms T k t ≡ true → OfAsked (Meets T) (asked T k t)

abbrev ValuesMet : (T : Tables) → List (Entry Tree) → Type 0
ValuesMet T es = Each (λ (e : Entry Tree). AllMet T e.value) es

items_met : (T : Tables) (k : Kind) (i : ℕ) (ts : Items) → Each (AllMet T) (items_list ts)
    → every (λ (x : Seen (Kind → Bool)). x.answer k) (of_items (root_conforms T) ts) ≡ true
    → OfAsked (Meets T) (asks_items k i (of_items (root_asks T) ts))
items_met T k i no_items g h = tt
items_met T k i (item t ts) g h =
    let p = and_parts (conforms T k t) _ h in
    Each-join (λ (a : Asking). Meets T a.kind a.tree) (below (at_index i) (asked T k t)) _
    (to_below (Meets T) (at_index i) (asked T k t) (g.0 k p.0)) (items_met T k (suc i) ts g.1 p.1)

members_met : (T : Tables) (k : Kind) (es : List (Entry Tree)) → ValuesMet T es
    → every (λ (e : Entry (Seen (Kind → Bool))). e.value.answer k) (judged T es) ≡ true
    → OfAsked (Meets T) (asks_members k (askeds T es))
members_met T k [] g h = tt
members_met T k (e ∷ es) g h =
    let p = and_parts (conforms T k e.value) _ h in
    Each-join (λ (a : Asking). Meets T a.kind a.tree) (below (at_name e.name) (asked T k e.value)) _
    (to_below (Meets T) (at_name e.name) (asked T k e.value) (g.0 k p.0)) (members_met T k es g.1 p.1)

unless_skipped : (T : Tables) (b c : Bool) (l : List Asking) → (b || c) ≡ true → (c ≡ true → OfAsked (Meets T) l)
    → OfAsked (Meets T) (cond b [] l)
unless_skipped T true c l h g = tt
unless_skipped T false c l h g = g h

row_met : (T : Tables) (w : Row) (l : List (Entry Tree)) → ValuesMet T l → row_holds_own w (judged T l) ≡ true
    → OfAsked (Meets T) (asks_own w (askeds T l))
row_met T (row n m k) (e ∷ l) g h =
    unless_skipped T (skips_null m && is_null e.value) (conforms T k e.value)
    (below (at_name e.name) (asked T k e.value)) h
    (λ c. to_below (Meets T) (at_name e.name) (asked T k e.value) (g.0 k c))
row_met T (either a j b k) (e ∷ l) g h =
    to_below (Meets T) (at_name e.name) (asked T (cond (same_text a e.name) j k) e.value)
    (g.0 (cond (same_text a e.name) j k) h)
row_met T (class c k) l g h = members_met T k l g h
row_met T w [] g h = tt
row_met T w l g h = tt

pub rows_met : (T : Tables) (es : List (Entry Tree)) (ws : List Row) → ValuesMet T es → AllHold T es ws
    → OfAsked (Meets T) (asks_rows (askeds T es) ws)
rows_met T es [] g h = tt
rows_met T es (w ∷ ws) g h =
    Each-join (λ (a : Asking). Meets T a.kind a.tree) (asks_row (askeds T es) w) (asks_rows (askeds T es) ws)
    (subst (λ l. OfAsked (Meets T) (asks_own w l)) (sym (own_judged (root_asks T) w es))
    (row_met T w (own w es) (Each_within-only (λ (e : Entry Tree). AllMet T e.value) (λ e. takes w e.name) es g) h.0))
    (rows_met T es ws g h.1)

-- a node that conforms to a kind conforms to the requirement of that kind for the node itself
head_met : (T : Tables) (k : Kind) (t : Tree) → conforms T k t ≡ true
    → OfAsked (Meets T) (here k (seen_root (root_asks T) t) ∷ [])
head_met T k t h = (subst (λ u. conforms T k u ≡ true) (sym (tree_of_root-seen (root_asks T) t)) h, tt)

objects_met : (T : Tables) (ms : Members) (ws : List Row) → ValuesMet T (members_list ms)
    → AllHold T (members_list ms) ws
    → OfAsked (Meets T) (asks_rows (of_members (root_asks T) ms) ws)
objects_met T ms ws g h =
    subst (λ l. OfAsked (Meets T) (asks_rows l ws)) (sym (of_members_lem (root_asks T) ms))
    (rows_met T (members_list ms) ws g h)

-- if an object conforms to an object kind, each row that must hold by its choice does, where the members are those of a
-- node
pub held_in : (T : Tables) (k : Kind) (ms : Members) (c : Choice) → choice k (members_list ms) ≡ Some c
    → object_holds T k (of_members (root_conforms T) ms) ≡ true → AllHold T (members_list ms) (checked_rows T k c)
held_in T k ms c e h =
    held_of T k (members_list ms) c e
    (subst (λ x. object_holds T k (of_members (root_conforms T) x) ≡ true) (sym (members_of-list ms)) h)

-- an object conforms to the kind of a table if each row of the table holds
pub table_conforms : (T : Tables) (i : TableName) (es : List (Entry Tree)) → AllHold T es (T i)
    → conforms T (by i) (object (members_of es)) ≡ true
unfolding checked_rows
table_conforms T i es h = object_conforms T (by i) es ∙ from_all_hold T es (T i) h

-- tagged objects: if the text of a tag is one that the tag may have, its value conforms to what is required of a tag
tag_met : (T : Tables) (n : List ℕ) (cs : List Case) (es : List (Entry Tree)) (s : List ℕ) → is_case cs s ≡ true
    → held n es ≡ text s
    → (l : List (Entry Tree)) → own (constant n []) es ≡ l
    → OfAsked (Meets T) (asks_own (row n required (one_of (words cs))) (askeds T l))
tag_met T n cs es s c e [] q = tt
tag_met T n cs es s c e (x ∷ l) q =
    subst (λ t. OfAsked (Meets T) (below (at_name x.name) (asked T (one_of (words cs)) t))) (sym e ∙ ap first_tree q)
    (has_words cs s ∙ c, tt)

tagged_inner : (T : Tables) (n : List ℕ) (cs : List Case) (es : List (Entry Tree)) → ValuesMet T es
    → conforms T (tagged n cs) (object (members_of es)) ≡ true
    → OfAsked (Meets T) (asks_inner T (tagged n cs) (askeds T es))
unfolding checked_rows
tagged_inner T n cs es g h =
    let t = tag_of T n cs es h in
    let i = tag_table cs t.0 in
    let rows = held_of T (tagged n cs) es (tag t.0) t.1 h in
    let a : AllHold T es (T i) = subst (λ ws. AllHold T es ws) (rows_at_tag T cs t.0 t.2) rows.1 in
    let head : conforms T (by i) (object (members_of (trees (askeds T es)))) ≡ true =
    subst (λ l. conforms T (by i) (object (members_of l)) ≡ true) (sym (seen_members (root_asks T) es))
    (table_conforms T i es a) in
    Each-join (λ (a : Asking). Meets T a.kind a.tree)
    (asks_own (row n required (one_of (words cs))) (own (constant n []) (askeds T es))) _
    (subst (λ l. OfAsked (Meets T) (asks_own (row n required (one_of (words cs))) l))
    (sym (own_judged (root_asks T) (constant n []) es))
    (tag_met T n cs es t.0 t.2 t.3 (own (constant n []) es) refl))
    (subst (λ o. OfAsked (Meets T) (asks_tag T n cs (askeds T es) o))
    (sym (ap (choice (tagged n cs)) (seen_members (root_asks T) es) ∙ t.1))
    (head, rows_met T es (T i) g a))

tagged_met : (T : Tables) (n : List ℕ) (cs : List Case) (ms : Members) → ValuesMet T (members_list ms)
    → conforms T (tagged n cs) (object ms) ≡ true
    → OfAsked (Meets T) (asks_inner T (tagged n cs) (of_members (root_asks T) ms))
tagged_met T n cs ms g h =
    subst (λ l. OfAsked (Meets T) (asks_inner T (tagged n cs) l)) (sym (of_members_lem (root_asks T) ms))
    (tagged_inner T n cs (members_list ms) g (from_list (λ t. conforms T (tagged n cs) t ≡ true) ms h))

table_met : (T : Tables) (i : TableName) (ms : Members) → ValuesMet T (members_list ms)
    → conforms T (by i) (object ms) ≡ true
    → OfAsked (Meets T) (asks_inner T (by i) (of_members (root_asks T) ms))
table_met T i ms g h = objects_met T ms (checked_rows T (by i) plain) g (held_in T (by i) ms plain refl h)

schema_met : (T : Tables) (ms : Members) → ValuesMet T (members_list ms) → conforms T a_schema (object ms) ≡ true
    → OfAsked (Meets T) (asks_inner T a_schema (of_members (root_asks T) ms))
unfolding checked_rows
schema_met T ms g h =
    objects_met T ms (checked_rows T a_schema (sort any_sort)) g
    (held_in T a_schema ms (sort (sort_of (members_list ms))) refl h)

kind_met : (T : Tables) (ms : Members) → ValuesMet T (members_list ms) → conforms T a_schema_kind (object ms) ≡ true
    → OfAsked (Meets T) (asks_inner T a_schema_kind (of_members (root_asks T) ms))
unfolding checked_rows
kind_met T ms g h =
    objects_met T ms (checked_rows T a_schema_kind (sort any_sort)) g
    (held_in T a_schema_kind ms (sort (sort_of (members_list ms))) refl h)

map_met : (T : Tables) (k : Kind) (ms : Members) → ValuesMet T (members_list ms)
    → every (λ (e : Entry (Seen (Kind → Bool))). e.value.answer k) (of_members (root_conforms T) ms) ≡ true
    → OfAsked (Meets T) (asks_members k (of_members (root_asks T) ms))
map_met T k ms g h =
    subst (λ l. OfAsked (Meets T) (asks_members k l)) (sym (of_members_lem (root_asks T) ms))
    (members_met T k (members_list ms) g
    (subst (λ l. every (λ (e : Entry (Seen (Kind → Bool))). e.value.answer k) l ≡ true)
    (of_members_lem (root_conforms T) ms) h))

pub unless_met : (P : Kind → Tree → Type 0) (r : Option (List ℕ)) (b : Bool) (l : List Asking)
    → reference_or r b ≡ true → (b ≡ true → OfAsked P l)
    → OfAsked P (unless_reference r l)
unless_met P None b l h g = g h
unless_met P (Some s) b l h g = tt

item_met : (T : Tables) (ms : Members) (b : Bool) (l : List Asking)
    → reference_or (is_reference (an_object (of_members (root_conforms T) ms))) b ≡ true
    → (b ≡ true → OfAsked (Meets T) l)
    → OfAsked (Meets T) (unless_reference (is_reference (an_object (of_members (root_asks T) ms))) l)
item_met T ms b l h g =
    subst (λ r. OfAsked (Meets T) (unless_reference r l)) (sym (reference_of (root_asks T) ms))
    (unless_met (Meets T) (ref_text (object ms)) b l
    (subst (λ r. reference_or r b ≡ true) (reference_of (root_conforms T) ms) h) g)

step : (T : Tables) (k : Kind) (t : Tree) → Inside (AllMet T) t → conforms T k t ≡ true
    → OfAsked (Meets T) (asked T k t)
step T (ref_to k) (object ms) g h = (
  (head_met T (ref_to k) (object ms) h).0,
  item_met T ms (conforms T k (object ms)) (asked T k (object ms)) h
      (λ c. step T k (object ms) g c),
)
step T (ref_to k) t g h = ((head_met T (ref_to k) t h).0, step T k t g h)
step T (list_of k) (list ts) g h = ((head_met T (list_of k) (list ts) h).0, items_met T k 0 ts g h)
step T (map_of k) (object ms) g h = ((head_met T (map_of k) (object ms) h).0, map_met T k ms g h)
step T (by i) (object ms) g h = ((head_met T (by i) (object ms) h).0, table_met T i ms g h)
step T (tagged n cs) (object ms) g h = ((head_met T (tagged n cs) (object ms) h).0, tagged_met T n cs ms g h)
step T a_schema (object ms) g h = ((head_met T a_schema (object ms) h).0, schema_met T ms g h)
step T a_schema_kind (object ms) g h = ((head_met T a_schema_kind (object ms) h).0, kind_met T ms g h)
step T flag_or_schema (object ms) g h = (
  (head_met T flag_or_schema (object ms) h).0,
  (
    (head_met T (ref_to a_schema) (object ms) h).0,
    item_met T ms (conforms T a_schema (object ms)) _ h
        (λ c. ((head_met T a_schema (object ms) c).0, schema_met T ms g c)),
  ),
)
step T k null g h = head_met T k null h
step T k t g h = head_met T k t h

-- in every node that conforms to a kind, each value conforms to what is required of it
pub all_met : (T : Tables) (t : Tree) → AllMet T t
all_met T t = by_trees (AllMet T) (λ u g k h. step T k u g h) t
