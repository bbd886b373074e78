-- Nodes that conform by one list of tables, and by a later one.
use Rattle.std.proofs.Common.{ℕ, Bool, true, List, [], ◌∷◌, Option, Some, None, ◌≡◌, refl, sym, subst, inl, inr}
use Rattle.std.proofs.lemmas.Bool.{and_parts, and_from}
use Rattle.openapi_tables.proofs.KindsHold.{any_conforms}
use Rattle.openapi_tables.specs.Prelude.{every, members_list, Entry, Seen, Kind, map_of, by, ref_to, any_tree, Row}
use Rattle.openapi_tables.specs.Prelude.{class, callback_names, extensions, takes, TableName, Tables, operation}
use Rattle.openapi_tables.specs.Prelude.{path_item, schema_data, callback_object, tables_with, final_tables, own}
use Rattle.openapi_tables.specs.Prelude.{reference_or, root_conforms, conforms, Asking, root_asks, asked, sound, Among}
use Rattle.openapi_node.specs.Tree.{Tree, list, object, Members}
use Rattle.openapi_tables.specs.Kind.{components}
use Rattle.openapi_tables.specs.Kind.{xml_object}
use Rattle.openapi_tables.specs.Tables.{tables_before_callbacks, tables_before_xml}
use Rattle.openapi_tables.specs.Tables.{callback_map}
use Rattle.openapi_tables.specs.Laws.{CallbacksKept, XmlKept}
use Rattle.openapi_tables.proofs.ListLaws.{Each, each_all, Each_within-only}
use Rattle.openapi_tables.proofs.TreeLaws.{Inside, of_members_lem, tree_of_root-seen}
use Rattle.openapi_tables.proofs.FaultLaws.{judged}
use Rattle.openapi_tables.proofs.WellMade.{second_sound, final_sound}
use Rattle.openapi_tables.proofs.AllReadProper.{of_list}
use Rattle.openapi_tables.proofs.AskedLaws.{OfAsked, Meets, all_met, table_conforms}
use Rattle.openapi_tables.proofs.Kept.{RowsKept, kept_same, kept_changed, kept_dropped, kept_added, all_same, Keeps}
use Rattle.openapi_tables.proofs.Kept.{Kept, item_kept, kept}

-- the condition on requirements that always holds
abbrev Free : Kind → Tree → Type 0
Free k t = Unit {0}

free : (l : List Asking) → OfAsked Free l
free l = each_all (λ a. tt) l

-- if the check of the entries of a map passes, each of them conforms
judged_each : (T : Tables) (k : Kind) (es : List (Entry Tree))
    → every (λ (e : Entry (Seen (Kind → Bool))). e.value.answer k) (judged T es) ≡ true
    → Each (λ (e : Entry Tree). conforms T k e.value ≡ true) es
judged_each T k [] h = tt
judged_each T k (e ∷ es) h = let p = and_parts (conforms T k e.value) _ h in (p.0, judged_each T k es p.1)

each_judged : (T : Tables) (k : Kind) (es : List (Entry Tree))
    → Each (λ (e : Entry Tree). conforms T k e.value ≡ true) es
    → every (λ (e : Entry (Seen (Kind → Bool))). e.value.answer k) (judged T es) ≡ true
each_judged T k [] h = refl
each_judged T k (e ∷ es) h = and_from (conforms T k e.value) _ h.0 (each_judged T k es h.1)

-- the kinds of callbacks before they have a table, and after
data Widened : Kind → Kind → Type 0 where
  of_map : Widened callback_map (ref_to (by callback_object))
  of_reference : Widened (ref_to callback_map) (ref_to (by callback_object))
  of_each : (j k : Kind) → Widened j k → Widened (map_of j) (map_of k)

abbrev Callbacks : Tree → Type 0
Callbacks t = Kept tables_before_callbacks tables_before_xml Free Widened t

callback_rows : (i : TableName) → RowsKept tables_before_xml Free Widened (tables_before_callbacks i)
    (tables_before_xml i)
unfolding tables_before_callbacks tables_before_xml tables_with
callback_rows operation =
    kept_same _ _ _
    (kept_same _ _ _
    (kept_same _ _ _ (kept_same _ _ _ (kept_same _ _ _ (kept_same _ _ _ (kept_same _ _ _ (kept_same _ _ _
    (kept_changed _ _ _ _ _ _ (of_each _ _ of_map) (all_same _ _ _ _)))))))))
callback_rows components =
    kept_same _ _ _
    (kept_same _ _ _
    (kept_same _ _ _ (kept_same _ _ _ (kept_same _ _ _ (kept_same _ _ _ (kept_same _ _ _ (kept_same _ _ _
    (kept_changed _ _ _ _ _ _ (of_each _ _ of_reference) (all_same _ _ _ _)))))))))
callback_rows i = all_same tables_before_xml Free Widened (tables_before_xml i)

all_widened : (j k : Kind) (es : List (Entry Tree))
    → ((t : Tree) → Callbacks t → Keeps tables_before_callbacks tables_before_xml Free j k t)
    → sound tables_before_xml k ≡ true
    → Each (λ (e : Entry Tree). Callbacks e.value) es
    → Each (λ (e : Entry Tree). conforms tables_before_callbacks j e.value ≡ true) es
    → Each (λ (e : Entry Tree). conforms tables_before_xml k e.value ≡ true) es
all_widened j k [] c s g h = tt
all_widened j k (e ∷ es) c s g h = (c e.value g.0 s h.0 (free _), all_widened j k es c s g.1 h.1)

-- a node that conforms as a map of path items conforms as a Callback Object, where names that begin with `x-` are
-- extensions
map_is_object : (ms : Members) → Each (λ (e : Entry Tree). Callbacks e.value) (members_list ms)
    → conforms tables_before_callbacks callback_map (object ms) ≡ true
    → conforms tables_before_xml (by callback_object) (object ms) ≡ true
unfolding tables_before_xml tables_with
map_is_object ms g h =
    of_list (λ t. conforms tables_before_xml (by callback_object) t ≡ true) ms
    (table_conforms tables_before_xml callback_object es (
      each_judged tables_before_xml (by path_item) (own items es)
          (Each_within-only (λ (e : Entry Tree). conforms tables_before_xml (by path_item) e.value ≡ true)
          (λ e. takes items e.name) es all),
      (
        each_judged tables_before_xml any_tree (own others es)
            (each_all (λ e. any_conforms tables_before_xml e.value) (own others es)),
        tt,
      ),
    ))
  where
    es : List (Entry Tree)
    es = members_list ms

    items : Row
    items = class callback_names (by path_item)

    others : Row
    others = class extensions any_tree

    all : Each (λ (e : Entry Tree). conforms tables_before_xml (by path_item) e.value ≡ true) (members_list ms)
    all = all_widened (by path_item) (by path_item) (members_list ms)
        (λ (t : Tree) (c : Callbacks t). c.0 (by path_item)) refl g
        (judged_each tables_before_callbacks (by path_item) (members_list ms)
        (subst (λ l. every (λ (e : Entry (Seen (Kind → Bool))). e.value.answer (by path_item)) l ≡ true)
        (of_members_lem (root_conforms tables_before_callbacks) ms) h))

reference_or_true : (r : Option (List ℕ)) (b : Bool) → b ≡ true → reference_or r b ≡ true
reference_or_true None b h = h
reference_or_true (Some s) b h = refl

widened : (t : Tree) → Inside Callbacks t → (j k : Kind) → Widened j k
    → Keeps tables_before_callbacks tables_before_xml Free j k t
widened (object ms) g j k of_map s h o = reference_or_true _ _ (map_is_object ms g h)
widened (object ms) g j k of_reference s h o =
    item_kept tables_before_callbacks tables_before_xml second_sound Free Widened ms _ _ _ h o.1
    (λ c a. map_is_object ms g c)
widened (object ms) g j k (of_each i l c) s h o =
    subst (λ es. every (λ (e : Entry (Seen (Kind → Bool))). e.value.answer l) es ≡ true)
    (sym (of_members_lem (root_conforms tables_before_xml) ms))
    (each_judged tables_before_xml l (members_list ms)
    (all_widened i l (members_list ms) (λ (t : Tree) (x : Callbacks t). x.1 i l c) s g
    (judged_each tables_before_callbacks i (members_list ms)
    (subst (λ es. every (λ (e : Entry (Seen (Kind → Bool))). e.value.answer i) es ≡ true)
    (of_members_lem (root_conforms tables_before_callbacks) ms) h))))
widened t g j k of_map s h o = cc
widened t g j k x s h o = cc

-- a node that conforms before callbacks have a table conforms when they have one: the law `CallbacksKept`
pub callbacks_kept : CallbacksKept
callbacks_kept k t s h =
    (kept tables_before_callbacks tables_before_xml second_sound Free Widened callback_rows widened t).0 k s h (free _)

-- no kind changes
abbrev Unchanged : Kind → Kind → Type 0
Unchanged j k = ⊥

-- the rows of the tables without `xml` are those of the final tables, where the row of `xml` is left out
rows_without : (i : TableName) → RowsKept tables_before_xml Free Unchanged (final_tables i) (tables_before_xml i)
unfolding final_tables tables_before_xml tables_with
rows_without schema_data =
    kept_same _ _ _
    (kept_same _ _ _
    (kept_same _ _ _ (kept_same _ _ _ (kept_same _ _ _ (kept_same _ _ _ (kept_same _ _ _ (kept_same _ _ _
    (kept_same _ _ _ (kept_same _ _ _ (kept_dropped _ _ _ (all_same _ _ _ _)))))))))))
rows_without i = all_same tables_before_xml Free Unchanged (tables_before_xml i)

-- the value conforms, if it must be an XML Object
abbrev XmlConforms : Kind → Tree → Type 0
XmlConforms k t = k ≡ by xml_object → conforms final_tables (by xml_object) t ≡ true

root_asked : (T : Tables) (P : Kind → Tree → Type 0) (i : TableName) (t : Tree) → OfAsked P (asked T (by i) t)
    → P (by i) t
root_asked T P i (list ts) o = subst (λ u. P (by i) u) (tree_of_root-seen (root_asks T) (list ts)) o.0
root_asked T P i (object ms) o = subst (λ u. P (by i) u) (tree_of_root-seen (root_asks T) (object ms)) o.0
root_asked T P i t o = o.0

xml_conforms : (t : Tree) → OfAsked XmlConforms (asked final_tables (by xml_object) t)
    → conforms final_tables (by xml_object) t ≡ true
xml_conforms t o = root_asked final_tables XmlConforms xml_object t o refl

rows_with : (i : TableName) → RowsKept final_tables XmlConforms Unchanged (tables_before_xml i) (final_tables i)
unfolding final_tables tables_before_xml tables_with
rows_with schema_data =
    kept_same _ _ _
    (kept_same _ _ _
    (kept_same _ _ _ (kept_same _ _ _ (kept_same _ _ _ (kept_same _ _ _ (kept_same _ _ _ (kept_same _ _ _
    (kept_same _ _ _ (kept_same _ _ _ (kept_added _ _ _ _ xml_conforms (all_same _ _ _ _)))))))))))
rows_with i = all_same final_tables XmlConforms Unchanged (final_tables i)

among_each : {A : Type 0} → (P : A → Type 0) (l : List A) → Each P l → (a : A) → Among a l → P a
among_each P [] h a m = absurd m
among_each P (x ∷ l) h a (inl e) = subst (λ y. P y) (sym e) h.0
among_each P (x ∷ l) h a (inr m) = among_each P l h.1 a m

each_among : {A : Type 0} → (P : A → Type 0) (l : List A) → ((a : A) → Among a l → P a) → Each P l
each_among P [] h = tt
each_among P (x ∷ l) h = (h x (inl refl), each_among P l (λ a m. h a (inr m)))

-- a node conforms if and only if it conforms without `xml`, and each value that must be an XML Object conforms: the law
-- `XmlKept`
pub xml_kept : XmlKept
xml_kept k t s f = (
  (λ h. (
    (kept final_tables tables_before_xml second_sound Free Unchanged rows_without (λ u g i j c. absurd c) t).0 k
        s h (free _),
    (λ a m e. subst (λ i. conforms final_tables i a.tree ≡ true) e
        (among_each (λ (a : Asking). Meets final_tables a.kind a.tree) (asked final_tables k t)
        (all_met final_tables t k h) a m)),
  )),
  (λ h. (kept tables_before_xml final_tables final_sound XmlConforms Unchanged rows_with (λ u g i j c. absurd c) t).0
      k f h.0
      (each_among (λ (a : Asking). XmlConforms a.kind a.tree) (asked final_tables k t) h.1)),
)
