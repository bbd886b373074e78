-- A node conforms to a kind if and only if each requirement of the kind in it is met: for all kinds and nodes.
use Rattle.openapi_tables.proofs.ListLaws.{every_behind}
use Rattle.std.proofs.Common.{ℕ, pos, Bool, true, false, cond, ◌&&◌, nat_le, List, [], ◌∷◌, Option, Some, None, ◌≡◌}
use Rattle.std.proofs.Common.{refl, sym, ap, ◌∙◌, codes}
use Rattle.std.proofs.lemmas.Bool.{and_parts}
use Rattle.openapi_tables.specs.Lists.{each, join, flat, every, same_text, has, is_empty}
use Rattle.openapi_node.specs.Tree.{Tree, null, whole, text, list, object, Members}
use Rattle.openapi_tables.specs.Tree.{members_list, Entry, Seen, an_object, of_members}
use Rattle.openapi_tables.specs.Kind.{Kind, number, one_of, format, null_or, list_of, map_of, by, tagged, ref_to}
use Rattle.openapi_tables.specs.Kind.{flag_or_schema, a_schema, a_schema_kind, status_code, within, Case, code_of}
use Rattle.openapi_tables.specs.Kind.{is_code, required, Row, row, constant, Tables, TableName, schema_data}
use Rattle.openapi_tables.specs.Tables.{any_rows}
use Rattle.openapi_tables.specs.Members.{own, trees, held, first_tree, is_case, case_rows, tag_choice, tag, choice}
use Rattle.openapi_tables.specs.Members.{checked_rows, made_optional}
use Rattle.openapi_tables.specs.Conforms.{is_text, constant_holds, row_holds, chosen_holds, object_holds, text_in}
use Rattle.openapi_tables.specs.Conforms.{is_reference, reference_or, root_conforms, conforms}
use Rattle.openapi_tables.specs.Sound.{sound, row_sound, never_misses, under_ref, tables_sound}
use Rattle.openapi_node.specs.Place.{named as at_name}
use Rattle.openapi_tables.specs.Faults.{Cause, Asking, unless, row_misses, tag_misses, causes, Asks, below, asks_own}
use Rattle.openapi_tables.specs.Faults.{here, asks_rows, words, tag_table, asks_tag, unless_reference, root_asks, asked}
use Rattle.openapi_tables.specs.Faults.{is_met, asks_members}
use Rattle.openapi_tables.proofs.ListLaws.{Each, Each_within-only, same_text-refl}
use Rattle.openapi_tables.proofs.TreeLaws.{Inside, by_trees, of_members_lem, members_list-of, tree_of_root-seen}
use Rattle.openapi_tables.proofs.Taken.{trees_of-members}
use Rattle.openapi_tables.proofs.again.ObjectsBack.{checked}
use Rattle.openapi_tables.proofs.FaultLaws.{every-join, every-below, Judged_by, judged, askeds, items_judged}
use Rattle.openapi_tables.proofs.FaultLaws.{members_judged, own_judged, table_judged, open_judged, has_words}
use Rattle.openapi_tables.proofs.FaultLaws.{rows_at_tag, seen_members}

unless_met : (b : Bool) (c : Cause) → b ≡ (is_empty (unless b c) && true)
unless_met true c = refl
unless_met false c = refl

map_met : (T : Tables) (k : Kind) (ms : Members) → sound T k ≡ true
    → Each (λ (e : Entry Tree). Judged_by T e.value) (members_list ms)
    → conforms T (map_of k) (object ms) ≡ every (is_met T) (asked T (map_of k) (object ms))
map_met T k ms s g =
    ap (every (λ (e : Entry (Seen (Kind → Bool))). e.value.answer k)) (of_members_lem (root_conforms T) ms)
    ∙ members_judged T k (members_list ms) s g
    ∙ ap (λ l. every (is_met T) (asks_members k l)) (sym (of_members_lem (root_asks T) ms))

table_met : (T : Tables) (W : tables_sound T ≡ true) (i : TableName) (ms : Members)
    → Each (λ (e : Entry Tree). Judged_by T e.value) (members_list ms)
    → conforms T (by i) (object ms) ≡ every (is_met T) (asked T (by i) (object ms))
unfolding checked_rows
table_met T W i ms g =
    ap (λ l. every (row_holds l) (T i)) (of_members_lem (root_conforms T) ms)
    ∙ table_judged T W i (members_list ms) g
    ∙ ap (λ t. is_empty (causes T (by i) t) && every (is_met T) (asks_rows (askeds T (members_list ms)) (T i)))
    (sym (tree_of_root-seen (root_asks T) (object ms)))
    ∙ ap (λ l. is_met T (here (by i) (an_object (of_members (root_asks T) ms)))
    && every (is_met T) (asks_rows l (T i))) (sym (of_members_lem (root_asks T) ms))

schema_met : (T : Tables) (W : tables_sound T ≡ true) (ms : Members)
    → Each (λ (e : Entry Tree). Judged_by T e.value) (members_list ms)
    → conforms T a_schema (object ms) ≡ every (is_met T) (asked T a_schema (object ms))
unfolding checked_rows
schema_met T W ms g =
    ap (λ l. every (row_holds l) (join (T schema_data) (each made_optional any_rows)))
    (of_members_lem (root_conforms T) ms)
    ∙ open_judged T (join (T schema_data) (each made_optional any_rows)) (members_list ms) (checked T W).4
    (checked T W).5 g
    ∙ ap (λ l. every (is_met T) (asks_rows l (join (T schema_data) (each made_optional any_rows))))
    (sym (of_members_lem (root_asks T) ms))

schema_kind_met : (T : Tables) (W : tables_sound T ≡ true) (ms : Members)
    → Each (λ (e : Entry Tree). Judged_by T e.value) (members_list ms)
    → conforms T a_schema_kind (object ms) ≡ every (is_met T) (asked T a_schema_kind (object ms))
unfolding checked_rows
schema_kind_met T W ms g =
    ap (λ l. every (row_holds l) (each made_optional any_rows)) (of_members_lem (root_conforms T) ms)
    ∙ open_judged T (each made_optional any_rows) (members_list ms)
    (every_behind (row_sound T) (T schema_data) (each made_optional any_rows) (checked T W).4)
    (every_behind never_misses (T schema_data) (each made_optional any_rows) (checked T W).5) g
    ∙ ap (λ l. every (is_met T) (asks_rows l (each made_optional any_rows))) (sym (of_members_lem (root_asks T) ms))

-- an object with a given text at its tag conforms if and only if the tag may have the text and the requirements of its
-- table are met
tag_text : (T : Tables) (W : tables_sound T ≡ true) (n : List ℕ) (cs : List Case) (es : List (Entry Tree))
    (s : List ℕ) → Each (λ (e : Entry Tree). Judged_by T e.value) es
    → constant_holds s (own (constant n s) (judged T es)) ≡ true → (b : Bool) → is_case cs s ≡ b
    → chosen_holds T (tagged n cs) (judged T es) (cond b (Some (tag s)) None)
    ≡ (b && every (is_met T) (asks_tag T n cs (askeds T es) (cond b (Some (tag s)) None)))
unfolding checked_rows
tag_text T W n cs es s g c true e =
    ap (λ b. b && every (row_holds (judged T es)) (case_rows T cs s)) c
    ∙ ap (every (row_holds (judged T es))) (rows_at_tag T cs s e)
    ∙ table_judged T W (tag_table cs s) es g
    ∙ ap (λ l. is_empty (flat (each (row_misses l) (T (tag_table cs s))))
    && every (is_met T) (asks_rows (askeds T es) (T (tag_table cs s))))
    (sym (members_list-of (trees (askeds T es)) ∙ seen_members (root_asks T) es))
tag_text T W n cs es s g c false e = refl

tag_value : (T : Tables) (W : tables_sound T ≡ true) (n : List ℕ) (cs : List Case) (es : List (Entry Tree))
    (t : Tree) → Each (λ (e : Entry Tree). Judged_by T e.value) es
    → ((s : List ℕ) → t ≡ text s → constant_holds s (own (constant n s) (judged T es)) ≡ true)
    → chosen_holds T (tagged n cs) (judged T es) (tag_choice cs t)
    ≡ (conforms T (one_of (words cs)) t && every (is_met T) (asks_tag T n cs (askeds T es) (tag_choice cs t)))
tag_value T W n cs es (text s) g c =
    tag_text T W n cs es s g (c s refl) (is_case cs s) refl
    ∙ ap (λ b. b && every (is_met T) (asks_tag T n cs (askeds T es) (tag_choice cs (text s))))
    (sym (has_words cs s))
tag_value T W n cs es t g c = refl

tag_members : (T : Tables) (W : tables_sound T ≡ true) (n : List ℕ) (cs : List Case) (es l : List (Entry Tree))
    → Each (λ (e : Entry Tree). Judged_by T e.value) es → Each (λ (e : Entry Tree). Judged_by T e.value) l
    → own (constant n []) es ≡ l
    → chosen_holds T (tagged n cs) (judged T es) (tag_choice cs (first_tree l))
    ≡ (is_empty (tag_misses n l) && every (is_met T)
    (join (asks_own (row n required (one_of (words cs))) (askeds T l))
    (asks_tag T n cs (askeds T es) (tag_choice cs (first_tree l)))))
tag_members T W n cs es [] g h e = refl
tag_members T W n cs es (x ∷ l) g h e =
    tag_value T W n cs es x.value g
    (λ s q. ap (constant_holds s) (own_judged (root_conforms T) (constant n s) es ∙ ap (judged T) e)
    ∙ ap (λ t. is_text s t) q ∙ same_text-refl s)
    ∙ ap (λ b. b && every (is_met T) (asks_tag T n cs (askeds T es) (tag_choice cs x.value)))
    (h.0 (one_of (words cs)) refl ∙ sym (every-below T (at_name x.name) (asked T (one_of (words cs)) x.value)))
    ∙ sym (every-join (is_met T) (below (at_name x.name) (asked T (one_of (words cs)) x.value))
    (asks_tag T n cs (askeds T es) (tag_choice cs x.value)))

tagged_met : (T : Tables) (W : tables_sound T ≡ true) (n : List ℕ) (cs : List Case) (ms : Members)
    → Each (λ (e : Entry Tree). Judged_by T e.value) (members_list ms)
    → conforms T (tagged n cs) (object ms) ≡ every (is_met T) (asked T (tagged n cs) (object ms))
tagged_met T W n cs ms g =
    ap (λ l. object_holds T (tagged n cs) l) (of_members_lem (root_conforms T) ms)
    ∙ ap (λ x. chosen_holds T (tagged n cs) (judged T es) (choice (tagged n cs) x)) (seen_members (root_conforms T) es)
    ∙ tag_members T W n cs es (own (constant n []) es) g
    (Each_within-only (λ (e : Entry Tree). Judged_by T e.value) (λ e. same_text n e.name) es g) refl
    ∙ ap (λ l. m && every (is_met T)
    (join (asks_own tag_row l) (asks_tag T n cs (askeds T es) (tag_choice cs (held n es)))))
    (sym (own_judged (root_asks T) (constant n []) es))
    ∙ ap (λ x. m && every (is_met T)
    (join (asks_own tag_row (own (constant n []) (askeds T es)))
    (asks_tag T n cs (askeds T es) (tag_choice cs (held n x))))) (sym (seen_members (root_asks T) es))
    ∙ ap (λ l. m && every (is_met T) (asks_of l)) (sym (of_members_lem (root_asks T) ms))
    ∙ ap (λ t. is_empty (causes T (tagged n cs) t) && every (is_met T) (asks_of (of_members (root_asks T) ms)))
    (sym (tree_of_root-seen (root_asks T) (object ms)))
  where
    es : List (Entry Tree)
    es = members_list ms

    tag_row : Row
    tag_row = row n required (one_of (words cs))

    m : Bool
    m = is_empty (tag_misses n (own (constant n []) (members_list ms)))

    asks_of : List (Entry Asks) → List Asking
    asks_of l = join (asks_own (row n required (one_of (words cs))) (own (constant n []) l))
        (asks_tag T n cs l (tag_choice cs (held n (trees l))))

-- the text of a reference is the same, whether conformance or requirements are beside the values of an object
is_reference_same : (T : Tables) (ms : Members)
    → is_reference (an_object (of_members (root_conforms T) ms))
    ≡ is_reference (an_object (of_members (root_asks T) ms))
is_reference_same T ms = ap (λ l. text_in (held (codes "$ref") l))
    (trees_of-members (root_conforms T) ms ∙ sym (trees_of-members (root_asks T) ms))

reference_met : (T : Tables) (r : Option (List ℕ)) (b : Bool) (l : List Asking) → b ≡ every (is_met T) l
    → reference_or r b ≡ every (is_met T) (unless_reference r l)
reference_met T None b l h = h
reference_met T (Some s) b l h = refl

pub met : (T : Tables) (W : tables_sound T ≡ true) (k : Kind) (t : Tree) → Inside (Judged_by T) t → sound T k ≡ true
    → conforms T k t ≡ every (is_met T) (asked T k t)
met T W (number w) (whole z) g s = unless_met (within w z) _
met T W (one_of ws) (text u) g s = unless_met (has ws u) _
met T W (format ws b) null g s = unless_met b _
met T W (null_or (number w)) (whole z) g s = unless_met (within w z) _
met T W (null_or k) null g s = cc
met T W (null_or k) t g s = cc
met T W (list_of k) (list ts) g s = items_judged T k 0 ts s g
met T W (map_of k) (object ms) g s = map_met T k ms s g
met T W (by i) (object ms) g s = table_met T W i ms g
met T W (tagged n cs) (object ms) g s = tagged_met T W n cs ms g
met T W (ref_to k) (object ms) g s = ap (λ r. reference_or r (conforms T k (object ms))) (is_reference_same T ms)
    ∙ reference_met T (is_reference (an_object (of_members (root_asks T) ms))) (conforms T k (object ms))
    (asked T k (object ms)) (met T W k (object ms) g (and_parts (under_ref T k) (sound T k) s).1)
met T W (ref_to k) t g s = met T W k t g (and_parts (under_ref T k) (sound T k) s).1
met T W flag_or_schema (object ms) g s =
    ap (λ r. reference_or r (conforms T a_schema (object ms))) (is_reference_same T ms)
    ∙ reference_met T (is_reference (an_object (of_members (root_asks T) ms))) (conforms T a_schema (object ms))
    (asked T a_schema (object ms)) (schema_met T W ms g)
met T W a_schema (object ms) g s = schema_met T W ms g
met T W a_schema_kind (object ms) g s = schema_kind_met T W ms g
met T W status_code (whole (pos n)) g s = unless_met (nat_le 100 n && nat_le n 999) _
met T W status_code (text u) g s = unless_met (is_code (code_of u)) _
met T W k null g s = refl
met T W k t g s = refl

-- a node conforms to a sound kind if and only if each requirement of the kind in it is met
pub conforms-asked : (T : Tables) (W : tables_sound T ≡ true) (t : Tree) → Judged_by T t
conforms-asked T W t = by_trees (Judged_by T) (λ u g k s. met T W k u g s) t
