-- A form that is read from a node, and is unchanged when it is written and read again, stays: for all kinds and nodes.
use Rattle.std.proofs.Common.{ℕ, true, List, [], ◌∷◌, Option, Some, None, ◌≡◌, refl, sym, ap, ◌∙◌, subst}
use Rattle.std.proofs.lemmas.Bool.{and_parts, and_from}
use Rattle.openapi_tables.specs.Prelude.{each, every, items_list, members_list, of_members, Entry, Kind, null_or}
use Rattle.openapi_tables.specs.Prelude.{list_of, map_of, by, tagged, ref_to, flag_or_schema, a_schema, a_schema_kind}
use Rattle.openapi_tables.specs.Prelude.{Row, Tables, own, held, string_sort, any_sort, sort_of, Choice, plain, sort}
use Rattle.openapi_tables.specs.Prelude.{choice, rows_of, Form, reference, an_item, sequence, named, fields, Forms}
use Rattle.openapi_tables.specs.Prelude.{forms_list, forms_of, named_list, named_of, name, Pair, root_form, slot, form}
use Rattle.openapi_tables.specs.Prelude.{map_form, slot_of_own, print, again, members_in, may_be_null, sound}
use Rattle.openapi_tables.specs.Prelude.{rows_apart, row_sound, under_ref, tables_sound, stays, face_stays, is_any}
use Rattle.openapi_tables.specs.Prelude.{choice_stays, rows_stay, Checks}
use Rattle.openapi_node.specs.Tree.{Tree}
use Rattle.openapi_tables.specs.Members.{tag}
use Rattle.openapi_tables.proofs.ListLaws.{Each, each-each, every_each, Each-only, Each_within-only}
use Rattle.openapi_tables.proofs.TreeLaws.{Inside, by_trees, members_list-of, of_members_lem}
use Rattle.openapi_tables.proofs.FormLaws.{named_list-of, show, forms_list-of, of_forms-of}
use Rattle.openapi_tables.proofs.Taken.{Taken, as_list, as_map, as_fields, as_item, as_schema, as_inner, taken}
use Rattle.openapi_tables.proofs.Taken.{ref_text}
use Rattle.openapi_tables.proofs.ReadLaws.{reads, slot_in, slots-reads, form-list, form-map, form-fields, form-item}
use Rattle.openapi_tables.proofs.ReadLaws.{form-reference, form-null_or, form-flag_or_schema, pair_of, map_form-reads}
use Rattle.openapi_tables.proofs.PrintLaws.{members_for, entry_of, print-list, print-map, print-fields, print-null_or}
use Rattle.openapi_tables.proofs.PrintLaws.{print-flag_or_schema}
use Rattle.openapi_tables.proofs.RowLaws.{Found, found}
use Rattle.openapi_tables.proofs.again.ObjectsBack.{stays-fields, rows_of_sound, tag_case}
use Rattle.openapi_tables.proofs.again.KindsBack.{not_flag, stays-null_or, stays-flag_or_schema}
use Rattle.openapi_tables.proofs.again.ReadAgain.{tag_again}
use Rattle.openapi_tables.proofs.again.RowsStay.{Firm, firm_row, writes_own, values_back, stays_values}

-- two functions with the same results for a list agree on each element
each_equal : {A B : Type 0} → (f g : A → B) (xs : List A) → each f xs ≡ each g xs → Each (λ x. f x ≡ g x) xs
each_equal f g [] h = tt
each_equal f g (x ∷ xs) h = (cc, each_equal f g xs cc)

-- if each form of a list stays, the check of all of them passes
pub every_stays : (T : Tables) (k : Kind) (fs : List Form) → Each (λ f. stays T k f ≡ true) fs
    → every (λ (p : Checks). p.answer k) (each (show (face_stays T)) fs) ≡ true
every_stays T k [] h = refl
every_stays T k (f ∷ fs) h = and_from _ _ h.0 (every_stays T k fs h.1)

firm_each : (T : Tables) (k : Kind) (ts : List Tree) → sound T k ≡ true → Each (Firm T) ts
    → Each (λ t. again T k (form T k t) ≡ form T k t) ts → Each (λ f. stays T k f ≡ true) (each (form T k) ts)
firm_each T k [] s g h = tt
firm_each T k (t ∷ ts) s g h = (g.0 k s h.0, firm_each T k ts s g.1 h.1)

forms_in : Form → List Form
forms_in (sequence fs) = forms_list fs
forms_in (fields c fs) = forms_list fs
forms_in f = []

pairs_in : Form → List (Pair Form)
pairs_in (named es) = named_list es
pairs_in f = []

firm_list : (T : Tables) (k : Kind) (ts : List Tree) → sound T k ≡ true → Each (Firm T) ts
    → again T (list_of k) (sequence (forms_of (each (form T k) ts))) ≡ sequence (forms_of (each (form T k) ts))
    → stays T (list_of k) (sequence (forms_of (each (form T k) ts))) ≡ true
unfolding forms_in
firm_list T k ts s g h =
    let p : sequence (forms_of (each (λ t. again T k (form T k t)) ts)) ≡ sequence (forms_of (each (form T k) ts)) =
    sym (ap (form T (list_of k)) (print-list T k (each (form T k) ts))
    ∙ form-list T k (each (print T k) (each (form T k) ts))
    ∙ ap (λ l. sequence (forms_of l))
    (each-each (form T k) (print T k) (each (form T k) ts) ∙ each-each (again T k) (form T k) ts)) ∙ h in
    let q : each (λ t. again T k (form T k t)) ts ≡ each (form T k) ts =
    sym (forms_list-of (each (λ t. again T k (form T k t)) ts)) ∙ ap forms_in p
    ∙ forms_list-of (each (form T k) ts) in
    ap (λ (l : List Checks). every (λ (x : Checks). x.answer k) l) (of_forms-of (face_stays T) (each (form T k) ts))
    ∙ every_stays T k (each (form T k) ts)
    (firm_each T k ts s g (each_equal (λ t. again T k (form T k t)) (form T k) ts q))

firm_pairs : (T : Tables) (k : Kind) (es : List (Entry Tree)) → sound T k ≡ true
    → Each (λ (e : Entry Tree). Firm T e.value) es
    → Each (λ (e : Pair Form). again T k e.value ≡ e.value) (each (pair_of T name k) es)
    → Each (λ (e : Pair Form). stays T k e.value ≡ true) (each (pair_of T name k) es)
firm_pairs T k [] s g h = tt
firm_pairs T k (e ∷ es) s g h = (g.0 k s h.0, firm_pairs T k es s g.1 h.1)

firm_map : (T : Tables) (k : Kind) (es : List (Entry Tree)) → sound T k ≡ true
    → Each (λ (e : Entry Tree). Firm T e.value) es
    → again T (map_of k) (named (named_of (each (pair_of T name k) es)))
    ≡ named (named_of (each (pair_of T name k) es))
    → stays T (map_of k) (named (named_of (each (pair_of T name k) es))) ≡ true
unfolding pairs_in
firm_map T k es s g h =
    let m = each (pair_of T name k) es in
    let p : named (named_of (each (pair_of T name k) (each (entry_of T k) m))) ≡ named (named_of m) =
    sym (ap (form T (map_of k)) (print-map T k m) ∙ form-map T k (each (entry_of T k) m)) ∙ h in
    let q : each (pair_of T name k) (each (entry_of T k) m) ≡ m =
    sym (named_list-of (each (pair_of T name k) (each (entry_of T k) m))) ∙ ap pairs_in p ∙ named_list-of m in
    stays_values T k m (firm_pairs T k es s g (values_back T k name m q))

-- if an object has a choice of rows, the members that it is written as have one too
some_choice : (T : Tables) (W : tables_sound T ≡ true) (k : Kind) (c : Choice) (es : List (Entry Tree))
    → sound T k ≡ true → choice k es ≡ Some c → (d : Choice)
    × (choice k (members_for T (rows_of T k c) (each (slot_in T es) (rows_of T k c))) ≡ Some d)
some_choice T W (by i) c es s h = (plain, refl)
some_choice T W (tagged n cs) c es s h =
    let t = tag_case cs (held n es) c h in
    let ws : Choice → List Row = λ d. rows_of T (tagged n cs) d in
    let h' : choice (tagged n cs) es ≡ Some (tag t.0) = h ∙ ap (λ d. Some d) t.1 in
    let a = and_parts (rows_apart (ws (tag t.0))) (every (row_sound T) (ws (tag t.0)))
    (rows_of_sound T W (tagged n cs) (tag t.0) es s h') in (
      tag t.0,
      subst (λ d. choice (tagged n cs) (members_for T (ws d) (each (slot_in T es) (ws d))) ≡ Some (tag t.0)) (sym t.1)
          (tag_again T n cs t.0 (each (slot_in T es) (ws (tag t.0))) t.2 a.0 (writes_own T (ws (tag t.0)) es)),
    )
some_choice T W a_schema c es s h =
    (sort (sort_of (members_for T (rows_of T a_schema c) (each (slot_in T es) (rows_of T a_schema c)))), refl)
some_choice T W a_schema_kind c es s h =
    (sort (sort_of (members_for T (rows_of T a_schema_kind c) (each (slot_in T es) (rows_of T a_schema_kind c)))), refl)
some_choice T W k c es s h = cc

any_of_choice : (k : Kind) (l : List (Entry Tree)) → choice k l ≡ Some (sort any_sort) → is_any (sort_of l) ≡ true
any_of_choice (tagged n cs) l h = let t = tag_case cs (held n l) (sort any_sort) h in
    let p : sort any_sort ≡ tag t.0 = t.1 in cc
any_of_choice a_schema l h = let p : sort_of l ≡ any_sort = cc in ap is_any p
any_of_choice a_schema_kind l h = let p : sort_of l ≡ any_sort = cc in ap is_any p
any_of_choice k l h = cc

choice_kept : (T : Tables) (k : Kind) (c : Choice) (es : List (Entry Tree)) (fs : List Form) → choice k es ≡ Some c
    → choice k (members_for T (rows_of T k c) fs) ≡ Some c → choice_stays T k c fs ≡ true
choice_kept T k (sort any_sort) es fs h g =
    ap (λ l. is_any (sort_of l))
    (ap members_in (print-fields T k (sort any_sort) es fs h)
    ∙ members_list-of (members_for T (rows_of T k (sort any_sort)) fs))
    ∙ any_of_choice k (members_for T (rows_of T k (sort any_sort)) fs) g
choice_kept T k (sort string_sort) es fs h g = refl
choice_kept T k c es fs h g = refl

slots_apart : (T : Tables) (l es : List (Entry Tree)) (ws : List Row) → Found T l ws (each (slot_in T es) ws)
    → each (slot_in T l) ws ≡ each (slot_in T es) ws → Each (λ w. row_sound T w ≡ true) ws
    → Each (λ (e : Entry Tree). Firm T e.value) es
    → rows_stay ws (each (show (face_stays T)) (each (slot_in T es) ws)) ≡ true
slots_apart T l es [] f h s g = refl
slots_apart T l es (w ∷ ws) f h s g =
    let p : slot_in T l w ≡ slot_in T es w = cc in
    and_from _ _
    (firm_row T w (own w es) s.0 (Each-only _ es) (Each_within-only (λ (e : Entry Tree). Firm T e.value) _ es g)
    (sym (ap (λ x. slot_of_own w (reads T x)) f.0) ∙ p))
    (slots_apart T l es ws f.1 (cc) s.1 g)

same_fields : (c d : Choice) (x y : Forms) → fields c x ≡ fields d y → (c ≡ d) × (x ≡ y)
same_fields c d x y h = (cc, cc)

firm_fields : (T : Tables) (W : tables_sound T ≡ true) (k : Kind) (c : Choice) (es : List (Entry Tree))
    → sound T k ≡ true → choice k es ≡ Some c → Each (λ (e : Entry Tree). Firm T e.value) es
    → again T k (fields c (forms_of (each (slot_in T es) (rows_of T k c))))
    ≡ fields c (forms_of (each (slot_in T es) (rows_of T k c)))
    → stays T k (fields c (forms_of (each (slot_in T es) (rows_of T k c)))) ≡ true
firm_fields T W k c es s h g q =
    stays-fields T k c es fs h ∙ and_from _ _ (choice_kept T k c es fs h same_choice)
    (slots_apart T l es (rows_of T k c) (found T (rows_of T k c) fs a.0 (writes_own T (rows_of T k c) es))
    same_slots (every_each (row_sound T) (rows_of T k c) a.1) g)
  where
    fs : List Form
    fs = each (slot_in T es) (rows_of T k c)

    l : List (Entry Tree)
    l = members_for T (rows_of T k c) (each (slot_in T es) (rows_of T k c))

    a : (rows_apart (rows_of T k c) ≡ true) × (every (row_sound T) (rows_of T k c) ≡ true)
    a = and_parts (rows_apart (rows_of T k c)) (every (row_sound T) (rows_of T k c)) (rows_of_sound T W k c es s h)

    d : (d : Choice) × (choice k (members_for T (rows_of T k c) (each (slot_in T es) (rows_of T k c))) ≡ Some d)
    d = some_choice T W k c es s h

    read : again T k (fields c (forms_of (each (slot_in T es) (rows_of T k c))))
        ≡ fields d.0
        (forms_of
        (each (slot_in T (members_for T (rows_of T k c) (each (slot_in T es) (rows_of T k c)))) (rows_of T k d.0)))
    read = ap (form T k) (print-fields T k c es (each (slot_in T es) (rows_of T k c)) h)
        ∙ form-fields T k d.0 (members_for T (rows_of T k c) (each (slot_in T es) (rows_of T k c))) d.1

    parts : (d.0 ≡ c)
        × (forms_of
        (each (slot_in T (members_for T (rows_of T k c) (each (slot_in T es) (rows_of T k c)))) (rows_of T k d.0))
        ≡ forms_of (each (slot_in T es) (rows_of T k c)))
    parts = same_fields d.0 c _ _ (sym read ∙ q)

    same_choice : choice k (members_for T (rows_of T k c) (each (slot_in T es) (rows_of T k c))) ≡ Some c
    same_choice = d.1 ∙ ap (λ x. Some x) parts.0

    same_forms : forms_of
        (each (slot_in T (members_for T (rows_of T k c) (each (slot_in T es) (rows_of T k c)))) (rows_of T k c))
        ≡ forms_of (each (slot_in T es) (rows_of T k c))
    same_forms =
        ap (λ x. forms_of
        (each (slot_in T (members_for T (rows_of T k c) (each (slot_in T es) (rows_of T k c)))) (rows_of T k x)))
        (sym parts.0) ∙ parts.1

    same_slots : each (slot_in T (members_for T (rows_of T k c) (each (slot_in T es) (rows_of T k c))))
        (rows_of T k c) ≡ each (slot_in T es) (rows_of T k c)
    same_slots = sym (forms_list-of _) ∙ ap forms_list same_forms ∙ forms_list-of _

item_same : (f g : Form) → an_item f ≡ an_item g → f ≡ g
item_same f g h = cc

item_or_reference : (T : Tables) (k : Kind) (t : Tree) (f : Form) (r : Option (List ℕ)) → ref_text t ≡ r
    → form T (ref_to k) t ≡ an_item f → form T k t ≡ f
item_or_reference T k t f None e h = item_same (form T k t) f (sym (form-item T k t e) ∙ h)
item_or_reference T k t f (Some s) e h = let p : reference s ≡ an_item f = sym (form-reference T k t s e) ∙ h in cc

firm_taken : (T : Tables) (W : tables_sound T ≡ true) (k : Kind) (t : Tree) (f : Form) → Taken T k t f
    → Inside (Firm T) t → sound T k ≡ true → again T k f ≡ f → stays T k f ≡ true
firm_taken T W k t f (as_list j ts) g s q = firm_list T j (items_list ts) s g q
firm_taken T W k t f (as_map j ms) g s q =
    let p : map_form j (of_members (root_form T) ms) ≡ named (named_of (each (pair_of T name j) (members_list ms))) =
    ap (map_form j) (of_members_lem (root_form T) ms) ∙ map_form-reads T j (members_list ms) in
    subst (λ x. stays T (map_of j) x ≡ true) (sym p)
    (firm_map T j (members_list ms) s g (subst (λ x. again T (map_of j) x ≡ x) p q))
firm_taken T W k t f (as_fields j c ms e) g s q =
    let p : fields c (forms_of (each (slot (of_members (root_form T) ms)) (rows_of T j c)))
    ≡ fields c (forms_of (each (slot_in T (members_list ms)) (rows_of T j c))) =
    ap (λ l. fields c (forms_of (each (slot l) (rows_of T j c)))) (of_members_lem (root_form T) ms)
    ∙ ap (λ l. fields c (forms_of l)) (slots-reads T (rows_of T j c) (members_list ms)) in
    subst (λ x. stays T j x ≡ true) (sym p)
    (firm_fields T W j c (members_list ms) s e g (subst (λ x. again T j x ≡ x) p q))
firm_taken T W k t f (as_item j u h e x) g s q =
    firm_taken T W j u h x g (and_parts (under_ref T j) (sound T j) s).1
    (item_or_reference T j (print T j h) h (ref_text (print T j h)) refl q)
firm_taken T W k t f (as_schema u h e x) g s q =
    stays-flag_or_schema T h
    ∙ firm_taken T W (ref_to a_schema) u h x g refl
    (sym (ap (form T flag_or_schema) (print-flag_or_schema T h)
    ∙ form-flag_or_schema T (print T (ref_to a_schema) h) (not_flag T (ref_to a_schema) u h x e)) ∙ q)
firm_taken T W k t f (as_inner j u h x) g s q =
    stays-null_or T j h ∙ firm_taken T W j u h x g (and_parts (may_be_null j) (sound T j) s).1
    (sym (ap (form T (null_or j)) (print-null_or T j h) ∙ form-null_or T j (print T j h)) ∙ q)
firm_taken T W k t f x g s q = refl

-- a form that is read from a node, and is unchanged when it is written and read again, stays
pub first_stays : (T : Tables) (W : tables_sound T ≡ true) (t : Tree) → Firm T t
first_stays T W t = by_trees (Firm T) (λ u g k s q. firm_taken T W k u (form T k u) (taken T k u) g s q) t
