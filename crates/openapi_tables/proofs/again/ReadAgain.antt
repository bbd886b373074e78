-- A form that is read from a node and stays is unchanged when it is written and read again: for all kinds and nodes.
use Rattle.std.proofs.Common.{ℕ, Bool, true, false, not, cond, List, [], ◌∷◌, Some, None, ◌≡◌, refl, sym, ap, ◌∙◌}
use Rattle.std.proofs.Common.{subst, codes}
use Rattle.std.proofs.lemmas.Bool.{and_parts, and_from, both_ways, not-true}
use Rattle.openapi_tables.specs.Prelude.{each, join, only, every, same_text, members_list, of_members, Entry, class}
use Rattle.openapi_tables.specs.Prelude.{callback_names, in_class, Kind, map_of, by, tagged, a_schema, a_schema_kind}
use Rattle.openapi_tables.specs.Prelude.{Case, Row, constant, takes, Tables, TableName, schema_data, own, first_tree}
use Rattle.openapi_tables.specs.Prelude.{held, Sort, any_sort, sort_rows, sort_of, Choice, sort, is_case, case_rows}
use Rattle.openapi_tables.specs.Prelude.{tag_choice, choice, rows_of, text_in, Form, fields, forms_of, name, root_form}
use Rattle.openapi_tables.specs.Prelude.{slot, form, map_form, print, members_in, row_print, sound, sorts, rows_apart}
use Rattle.openapi_tables.specs.Prelude.{row_sound, under_ref, names_fit, tables_sound, stays, is_any}
use Rattle.openapi_tables.specs.Prelude.{choice_stays}
use Rattle.openapi_node.specs.Tree.{Tree}
use Rattle.openapi_tables.specs.Members.{tag}
use Rattle.openapi_tables.specs.Sound.{spares_ref}
use Rattle.openapi_tables.specs.Sound.{keeps_ref}
use Rattle.openapi_tables.proofs.ListLaws.{Each, each-each, only-each, every_each, only-join, same_text_eq, only_none}
use Rattle.openapi_tables.proofs.ListLaws.{each_under}
use Rattle.openapi_tables.proofs.TreeLaws.{by_trees, members_list-of, of_members_lem}
use Rattle.openapi_tables.proofs.Taken.{Taken, as_leaf, as_map, as_fields, taken, ref_text}
use Rattle.openapi_tables.proofs.ReadLaws.{slot_in, slots-reads, pair_of, map_form-reads, class_form-reads}
use Rattle.openapi_tables.proofs.PrintLaws.{printed, members_for, entry_of, print-fields, print-map}
use Rattle.openapi_tables.proofs.RowLaws.{OwnWrites, found, TakesAll, not_both}
use Rattle.openapi_tables.proofs.SlotLaws.{Good}
use Rattle.openapi_tables.proofs.again.RowsStay.{writes_own}
use Rattle.openapi_tables.proofs.again.ObjectsBack.{each_sort, schema_sound, sort_sound}
use Rattle.openapi_tables.proofs.again.ObjectsBack.{rows_of_sound, tag_case, schema_spares_ref, checked}
use Rattle.openapi_tables.proofs.SortLaws.{rewrites, Each_behind, names_fit_none}
use Rattle.openapi_tables.proofs.again.SortsBack.{sort_again}
use Rattle.openapi_tables.proofs.again.KindsBack.{ChosenAgain, NoReference, taken_back}

is_any_eq : (s : Sort) → is_any s ≡ true → s ≡ any_sort
is_any_eq any_sort h = refl
is_any_eq s h = cc

-- a test that all sorts in the list of sorts pass is passed by every sort
pub sort_in : (p : Sort → Bool) → every p sorts ≡ true → (s : Sort) → p s ≡ true
sort_in p h s = each_sort p (every_each p sorts h) s

-- for what the rows of a tag write, the same rows are chosen again
pub tag_again : (T : Tables) (n : List ℕ) (cs : List Case) (u : List ℕ) (fs : List Form) → is_case cs u ≡ true
    → rows_apart (rows_of T (tagged n cs) (tag u)) ≡ true → OwnWrites T (rows_of T (tagged n cs) (tag u)) fs
    → choice (tagged n cs) (members_for T (rows_of T (tagged n cs) (tag u)) fs) ≡ Some (tag u)
unfolding rows_of
tag_again T n cs u [] h a g = absurd g
tag_again T n cs u (f ∷ fs) h a g =
    let p = found T (constant n u ∷ case_rows T cs u) (f ∷ fs) a g in
    ap (λ l. tag_choice cs (first_tree l)) p.0 ∙ ap (λ b. cond b (Some (tag u)) None) h

-- what a schema is written as has the sort of the schema. For `any_sort`, this is assumed
sort_kept : (T : Tables) (pre : List Row) (s : Sort) (es : List (Entry Tree)) → names_fit pre s ≡ true
    → rows_apart (join pre (sort_rows s)) ≡ true
    → OwnWrites T (join pre (sort_rows s)) (each (slot_in T es) (join pre (sort_rows s)))
    → (b : Bool) → is_any s ≡ b → sort_of es ≡ s
    → (is_any s ≡ true
    → is_any (sort_of (members_for T (join pre (sort_rows s)) (each (slot_in T es) (join pre (sort_rows s)))))
    ≡ true)
    → sort_of (members_for T (join pre (sort_rows s)) (each (slot_in T es) (join pre (sort_rows s)))) ≡ s
sort_kept T pre s es n a g true e h st = is_any_eq _ (st e) ∙ sym (is_any_eq s e)
sort_kept T pre s es n a g false e h st =
    let ws = join pre (sort_rows s) in
    let fs = each (slot_in T es) ws in
    let l = members_for T ws fs in
    sort_again T pre s es fs n g
    (Each_behind (λ w. own w l ≡ row_print w (printed T (slot_in T es w))) pre (sort_rows s)
    (rewrites T es l ws (found T ws fs a g))) e h

-- a schema of `any_sort` that stays is written as a schema of `any_sort`
any_kept : (T : Tables) (k : Kind) (s : Sort) (es : List (Entry Tree)) (fs : List Form) → choice k es ≡ Some (sort s)
    → choice_stays T k (sort s) fs ≡ true → is_any s ≡ true
    → is_any (sort_of (members_for T (rows_of T k (sort s)) fs)) ≡ true
any_kept T k s es fs h st e =
    let q : s ≡ any_sort = is_any_eq s e in
    let st' : choice_stays T k (sort any_sort) fs ≡ true = subst (λ x. choice_stays T k (sort x) fs ≡ true) q st in
    let h' : choice k es ≡ Some (sort any_sort) = h ∙ ap (λ x. Some (sort x)) q in
    subst (λ x. is_any (sort_of (members_for T (rows_of T k (sort x)) fs)) ≡ true) (sym q)
    (ap (λ l. is_any (sort_of l))
    (sym (ap members_in (print-fields T k (sort any_sort) es fs h')
    ∙ members_list-of (members_for T (rows_of T k (sort any_sort)) fs))) ∙ st')

-- no row of a schema takes a kind name that the sort of the schema does not allow
pub names_of_data : (T : Tables) (W : tables_sound T ≡ true) (s : Sort) → names_fit (T schema_data) s ≡ true
names_of_data T W s = sort_in (names_fit (T schema_data)) (checked T W).6 s

-- no row of a sort takes a kind name that the sort does not allow
pub names_of_none : (s : Sort) → names_fit [] s ≡ true
names_of_none s = sort_in (names_fit []) names_fit_none s

schema_again : (T : Tables) (W : tables_sound T ≡ true) (s : Sort) (es : List (Entry Tree)) → sort_of es ≡ s
    → OwnWrites T (rows_of T a_schema (sort s)) (each (slot_in T es) (rows_of T a_schema (sort s)))
    → choice_stays T a_schema (sort s) (each (slot_in T es) (rows_of T a_schema (sort s))) ≡ true
    → choice a_schema
    (members_for T (rows_of T a_schema (sort s)) (each (slot_in T es) (rows_of T a_schema (sort s))))
    ≡ Some (sort s)
unfolding rows_of
schema_again T W s es h g st =
    let a = and_parts (rows_apart (join (T schema_data) (sort_rows s)))
    (every (row_sound T) (join (T schema_data) (sort_rows s))) (schema_sound T W s) in
    ap (λ x. Some (sort x)) (sort_kept T (T schema_data) s es (names_of_data T W s) a.0 g (is_any s) refl h
    (any_kept T a_schema s es (each (slot_in T es) (join (T schema_data) (sort_rows s)))
    (ap (λ x. Some (sort x)) h) st))

schema_kind_again : (T : Tables) (W : tables_sound T ≡ true) (s : Sort) (es : List (Entry Tree)) → sort_of es ≡ s
    → OwnWrites T (rows_of T a_schema_kind (sort s)) (each (slot_in T es) (rows_of T a_schema_kind (sort s)))
    → choice_stays T a_schema_kind (sort s) (each (slot_in T es) (rows_of T a_schema_kind (sort s))) ≡ true
    → choice a_schema_kind
    (members_for T (rows_of T a_schema_kind (sort s)) (each (slot_in T es) (rows_of T a_schema_kind (sort s))))
    ≡ Some (sort s)
unfolding rows_of
schema_kind_again T W s es h g st =
    let a = and_parts (rows_apart (sort_rows s)) (every (row_sound T) (sort_rows s)) (sort_sound T W s) in
    ap (λ x. Some (sort x)) (sort_kept T [] s es (names_of_none s) a.0 g (is_any s) refl h
    (any_kept T a_schema_kind s es (each (slot_in T es) (sort_rows s)) (ap (λ x. Some (sort x)) h) st))

chosen_again : (T : Tables) (W : tables_sound T ≡ true) → ChosenAgain T
chosen_again T W (by i) c es s h g w st = h
chosen_again T W (tagged n cs) c es s h g w st =
    let t = tag_case cs (held n es) c h in
    let ws : Choice → List Row = λ d. rows_of T (tagged n cs) d in
    let h' : choice (tagged n cs) es ≡ Some (tag t.0) = h ∙ ap (λ d. Some d) t.1 in
    let a = and_parts (rows_apart (ws (tag t.0))) (every (row_sound T) (ws (tag t.0)))
    (rows_of_sound T W (tagged n cs) (tag t.0) es s h') in
    subst (λ d. choice (tagged n cs) (members_for T (ws d) (each (slot_in T es) (ws d))) ≡ Some d) (sym t.1)
    (tag_again T n cs t.0 (each (slot_in T es) (ws (tag t.0))) t.2 a.0
    (subst (λ d. OwnWrites T (ws d) (each (slot_in T es) (ws d))) t.1 w))
chosen_again T W a_schema c es s h g w st =
    let p : sort (sort_of es) ≡ c = cc in
    subst (λ d. choice a_schema (members_for T (rows_of T a_schema d) (each (slot_in T es) (rows_of T a_schema d)))
    ≡ Some d) p
    (schema_again T W (sort_of es) es refl
    (subst (λ d. OwnWrites T (rows_of T a_schema d) (each (slot_in T es) (rows_of T a_schema d))) (sym p) w)
    (subst (λ d. choice_stays T a_schema d (each (slot_in T es) (rows_of T a_schema d)) ≡ true) (sym p) st))
chosen_again T W a_schema_kind c es s h g w st =
    let p : sort (sort_of es) ≡ c = cc in
    subst (λ d. choice a_schema_kind
    (members_for T (rows_of T a_schema_kind d) (each (slot_in T es) (rows_of T a_schema_kind d))) ≡ Some d) p
    (schema_kind_again T W (sort_of es) es refl
    (subst (λ d. OwnWrites T (rows_of T a_schema_kind d) (each (slot_in T es) (rows_of T a_schema_kind d)))
    (sym p) w)
    (subst (λ d. choice_stays T a_schema_kind d (each (slot_in T es) (rows_of T a_schema_kind d)) ≡ true) (sym p) st))
chosen_again T W x c es s h g w st = cc

-- no row that the text of a tag selects takes `$ref`, if no row of the tables of the tag does
spare_cases : (T : Tables) (cs : List Case) (u : List ℕ) → every (λ c. spares_ref (T c.table)) cs ≡ true
    → spares_ref (case_rows T cs u) ≡ true
spare_cases T [] u h = refl
spare_cases T (c ∷ cs) u h =
    let p = and_parts (spares_ref (T c.table)) (every (λ d. spares_ref (T d.table)) cs) h in
    one_way (same_text c.word u) (T c.table) (case_rows T cs u) p.0 (spare_cases T cs u p.1)
  where
    one_way : (b : Bool) (x y : List Row) → spares_ref x ≡ true → spares_ref y ≡ true → spares_ref (cond b x y) ≡ true
    one_way true x y f g = f
    one_way false x y f g = g

keeps_of : (w : Row) → not (takes w (codes "$ref")) ≡ true → keeps_ref w ≡ true
keeps_of (class callback_names (by i)) h = refl
keeps_of w h = h

spares_keeps : (ws : List Row) → spares_ref ws ≡ true → every keeps_ref ws ≡ true
spares_keeps [] h = refl
spares_keeps (w ∷ ws) h =
    let p = and_parts (not (takes w (codes "$ref"))) (spares_ref ws) h in
    and_from (keeps_ref w) (every keeps_ref ws) (keeps_of w p.0) (spares_keeps ws p.1)

rows_keep : (T : Tables) (W : tables_sound T ≡ true) (k : Kind) (c : Choice) (es : List (Entry Tree))
    → under_ref T k ≡ true → choice k es ≡ Some c → every keeps_ref (rows_of T k c) ≡ true
unfolding rows_of
rows_keep T W (by i) c es u h = u
rows_keep T W (tagged n cs) c es u h =
    let t = tag_case cs (held n es) c h in
    let p = and_parts (not (same_text n (codes "$ref"))) (every (λ x. spares_ref (T x.table)) cs) u in
    subst (λ d. every keeps_ref (rows_of T (tagged n cs) d) ≡ true) (sym t.1)
    (spares_keeps (rows_of T (tagged n cs) (tag t.0))
    (and_from (not (same_text n (codes "$ref"))) (spares_ref (case_rows T cs t.0)) p.0 (spare_cases T cs t.0 p.1)))
rows_keep T W a_schema c es u h = let p : sort (sort_of es) ≡ c = cc in
    subst (λ d. every keeps_ref (rows_of T a_schema d) ≡ true) p
    (spares_keeps (rows_of T a_schema (sort (sort_of es))) (schema_spares_ref T W (sort_of es)))
rows_keep T W k c es u h = cc

-- under the kind of a table, a node that is not a string is not written as a string
text_of_object : (T : Tables) (i : TableName) (t : Tree) (f : Form) → Taken T (by i) t f → text_in t ≡ None
    → text_in (print T (by i) f) ≡ None
text_of_object T i t f (as_leaf j u e) h = h
text_of_object T i t f (as_fields j c ms e) h =
    ap text_in (print-fields T j c (members_list ms) (each (slot (of_members (root_form T) ms)) (rows_of T j c)) e)

abbrev cleaned : (T : Tables) → Kind → Entry Tree → Entry Tree
cleaned T k e = entry_of T k (pair_of T name k e)

first_cleaned : (T : Tables) (i : TableName) (es : List (Entry Tree)) → text_in (first_tree es) ≡ None
    → text_in (first_tree (each (cleaned T (by i)) es)) ≡ None
first_cleaned T i [] h = refl
first_cleaned T i (e ∷ es) h = text_of_object T i e.value (form T (by i) e.value) (taken T (by i) e.value) h

map_no_reference : (T : Tables) (i : TableName) (es : List (Entry Tree)) → text_in (held (codes "$ref") es) ≡ None
    → text_in (held (codes "$ref") (each (cleaned T (by i)) es)) ≡ None
map_no_reference T i es h =
    ap (λ l. text_in (first_tree l))
    (only-each (λ (e : Entry Tree). same_text (codes "$ref") e.name) (cleaned T (by i)) es)
    ∙ first_cleaned T i (only (λ (e : Entry Tree). same_text (codes "$ref") e.name) es) h

only_within : {A : Type 0} → (p q : A → Bool) (xs : List A) → ((x : A) → p x ≡ true → q x ≡ true)
    → only p (only q xs) ≡ only p xs
only_within p q [] h = refl
only_within p q (x ∷ xs) h = at (q x) (p x) refl refl (only_within p q xs h)
  where
    at : (b c : Bool) → q x ≡ b → p x ≡ c → only p (only q xs) ≡ only p xs
        → only p (cond b (x ∷ only q xs) (only q xs)) ≡ cond c (x ∷ only p xs) (only p xs)
    at true c e f g = ap (λ d. cond d (x ∷ only p (only q xs)) (only p (only q xs))) f ∙ ap (λ l. cond c (x ∷ l) l) g
    at false true e f g = absurd (both_ways (q x) e (h x f))
    at false false e f g = g

first_none : (xs ys : List (Entry Tree)) → text_in (first_tree xs) ≡ None → text_in (first_tree ys) ≡ None
    → text_in (first_tree (join xs ys)) ≡ None
first_none [] ys h g = g
first_none (x ∷ xs) ys h g = h

-- members that a row takes have no string at `$ref`, if the row does not take that name
untaken_none : (w : Row) (xs : List (Entry Tree)) → not (takes w (codes "$ref")) ≡ true → TakesAll w xs
    → text_in (held (codes "$ref") xs) ≡ None
untaken_none w xs h g = ap (λ l. text_in (first_tree l))
    (only_none (λ (e : Entry Tree). same_text (codes "$ref") e.name) xs (each_under other xs g))
  where
    other : (e : Entry Tree) → takes w e.name ≡ true → same_text (codes "$ref") e.name ≡ false
    other e x = not_both (same_text (codes "$ref") e.name)
        (λ y. both_ways (takes w e.name)
        (subst (λ m. takes w m ≡ false) (same_text_eq (codes "$ref") e.name y)
        (not-true (takes w (codes "$ref")) h)) x)

row_none : (T : Tables) (w : Row) (es : List (Entry Tree)) → keeps_ref w ≡ true
    → TakesAll w (row_print w (printed T (slot_in T es w))) → text_in (held (codes "$ref") es) ≡ None
    → text_in (held (codes "$ref") (row_print w (printed T (slot_in T es w)))) ≡ None
row_none T (class callback_names (by i)) es h g r =
    ap (λ l. text_in (held (codes "$ref") l)) written
    ∙ map_no_reference T i os
    (ap (λ l. text_in (first_tree l))
    (only_within (λ (e : Entry Tree). same_text (codes "$ref") e.name)
    (λ (e : Entry Tree). in_class callback_names e.name) es other) ∙ r)
  where
    os : List (Entry Tree)
    os = own (class callback_names (by i)) es

    written : row_print (class callback_names (by i)) (printed T (slot_in T es (class callback_names (by i))))
        ≡ each (cleaned T (by i)) (own (class callback_names (by i)) es)
    written =
        ap (λ f. row_print (class callback_names (by i)) (printed T f)) (class_form-reads T callback_names (by i) os)
        ∙ ap members_in (print-map T (by i) (each (pair_of T name (by i)) os))
        ∙ members_list-of (each (entry_of T (by i)) (each (pair_of T name (by i)) os))
        ∙ each-each (entry_of T (by i)) (pair_of T name (by i)) os

    other : (e : Entry Tree) → same_text (codes "$ref") e.name ≡ true → in_class callback_names e.name ≡ true
    other e x = subst (λ m. in_class callback_names m ≡ true) (same_text_eq (codes "$ref") e.name x) refl
row_none T w es h g r = untaken_none w (row_print w (printed T (slot_in T es w))) h g

rows_none : (T : Tables) (ws : List Row) (es : List (Entry Tree)) → Each (λ w. keeps_ref w ≡ true) ws
    → OwnWrites T ws (each (slot_in T es) ws) → text_in (held (codes "$ref") es) ≡ None
    → text_in (held (codes "$ref") (members_for T ws (each (slot_in T es) ws))) ≡ None
rows_none T [] es h g r = refl
rows_none T (w ∷ ws) es h g r =
    ap (λ l. text_in (first_tree l))
    (only-join (λ (e : Entry Tree). same_text (codes "$ref") e.name) (row_print w (printed T (slot_in T es w)))
    (members_for T ws (each (slot_in T es) ws)))
    ∙ first_none (only (λ (e : Entry Tree). same_text (codes "$ref") e.name) (row_print w (printed T (slot_in T es w))))
    (only (λ (e : Entry Tree). same_text (codes "$ref") e.name) (members_for T ws (each (slot_in T es) ws)))
    (row_none T w es h.0 g.0 r) (rows_none T ws es h.1 g.1 r)

object_no_reference : (T : Tables) (W : tables_sound T ≡ true) (k : Kind) (c : Choice) (es : List (Entry Tree))
    → sound T k ≡ true → choice k es ≡ Some c → under_ref T k ≡ true → Each (λ (e : Entry Tree). Good T e.value) es
    → stays T k (fields c (forms_of (each (slot_in T es) (rows_of T k c)))) ≡ true
    → text_in (held (codes "$ref") es) ≡ None
    → ref_text (print T k (fields c (forms_of (each (slot_in T es) (rows_of T k c))))) ≡ None
object_no_reference T W k c es s h u g st r =
    let ws = rows_of T k c in
    let fs = each (slot_in T es) (rows_of T k c) in
    let w : OwnWrites T (rows_of T k c) fs = writes_own T (rows_of T k c) es in
    ap ref_text (print-fields T k c es fs h)
    ∙ ap (λ l. text_in (held (codes "$ref") l)) (members_list-of (members_for T (rows_of T k c) fs))
    ∙ rows_none T (rows_of T k c) es (every_each keeps_ref (rows_of T k c) (rows_keep T W k c es u h)) w r

-- a map that may be used in `ref_to` and has no string at `$ref` is also written without one
map_under_ref : (T : Tables) (k : Kind) (es : List (Entry Tree)) → under_ref T (map_of k) ≡ true
    → text_in (held (codes "$ref") es) ≡ None → text_in (held (codes "$ref") (each (cleaned T k) es)) ≡ None
map_under_ref T (by i) es u h = map_no_reference T i es h
map_under_ref T k es u h = cc

no_reference : (T : Tables) (W : tables_sound T ≡ true) → NoReference T
no_reference T W k t f (as_leaf j u e) g s st r h = h
no_reference T W k t f (as_map j ms) g s st r h =
    let es = members_list ms in
    ap (λ x. ref_text (print T (map_of j) x))
    (ap (map_form j) (of_members_lem (root_form T) ms) ∙ map_form-reads T j es)
    ∙ ap ref_text (print-map T j (each (pair_of T name j) es))
    ∙ ap (λ l. text_in (held (codes "$ref") l))
    (members_list-of (each (entry_of T j) (each (pair_of T name j) es))
    ∙ each-each (entry_of T j) (pair_of T name j) es)
    ∙ map_under_ref T j es r h
no_reference T W k t f (as_fields j c ms e) g s st r h =
    let es = members_list ms in
    let p : fields c (forms_of (each (slot (of_members (root_form T) ms)) (rows_of T j c)))
    ≡ fields c (forms_of (each (slot_in T es) (rows_of T j c))) =
    ap (λ l. fields c (forms_of (each (slot l) (rows_of T j c)))) (of_members_lem (root_form T) ms)
    ∙ ap (λ l. fields c (forms_of l)) (slots-reads T (rows_of T j c) es) in
    subst (λ x. ref_text (print T j x) ≡ None) (sym p)
    (object_no_reference T W j c es s e r g (subst (λ x. stays T j x ≡ true) p st) h)
no_reference T W k t f x g s st r h = cc

-- if the form of a node under a sound kind stays, it is unchanged when it is written and read again
pub read_again : (T : Tables) (W : tables_sound T ≡ true) (t : Tree) → Good T t
read_again T W t =
    by_trees (Good T)
    (λ u g k s st. taken_back T W (chosen_again T W) (no_reference T W) k u (form T k u) (taken T k u) g s st) t
