-- A node that conforms is normalized to one of at most twice its size: for all kinds and nodes.
use Rattle.std.proofs.Common.{ℕ, Bool, true, false, cond, ◌&&◌, List, [], ◌∷◌, Option, Some, None, ◌≡◌, refl, sym, ap}
use Rattle.std.proofs.Common.{◌∙◌, subst, codes, ◌≤◌, ◌+◌, ◌*◌, arith, nat_le, leb-true, le-leb}
use Rattle.std.proofs.lemmas.Bool.{and_parts, both_ways}
use Rattle.openapi_tables.specs.Prelude.{Kind, Tables, Row, Code, TableName, a_schema, a_schema_kind, any_flag}
use Rattle.openapi_tables.specs.Prelude.{any_text, any_tree, by, code, code_of, constant, flag_or_schema, format}
use Rattle.openapi_tables.specs.Prelude.{list_of, map_of, null_or, number, one_of, ref_to, schema_data, signed}
use Rattle.openapi_tables.specs.Prelude.{is_any, status_code, unlimited}
use Rattle.openapi_tables.specs.Prelude.{tagged, text_of, conforms}
use Rattle.openapi_tables.specs.Prelude.{reference_or, root_conforms, text_in, tag_table, Form, forms_of, known, leaf}
use Rattle.openapi_tables.specs.Prelude.{name, named_of, of_code, of_forms, of_named, other, each, every, has, join}
use Rattle.openapi_tables.specs.Prelude.{Choice, Sort, all_of_sort, any_of_sort, any_sort, array_sort, boolean_sort}
use Rattle.openapi_tables.specs.Prelude.{choice, first_tree, held, integer_sort, is_present}
use Rattle.openapi_tables.specs.Prelude.{not_sort, number_sort, object_sort, one_of_sort, own}
use Rattle.openapi_tables.specs.Prelude.{possible_sort, rows_of, sort, sort_of, sort_rows, string_sort, case_rows}
use Rattle.openapi_tables.specs.Prelude.{Prints, clean, face_print, pair_prints, print, code_form, form, pairs_as}
use Rattle.openapi_tables.specs.Prelude.{reference_or_item, root_form, has_members, row_sound, rows_apart, sorts, sound}
use Rattle.openapi_tables.specs.Prelude.{table_names, tables_sound, under_ref, any_rows, array_rows, boolean_rows}
use Rattle.openapi_tables.specs.Prelude.{object_rows, string_rows, Entry, Seen, items_list}
use Rattle.openapi_tables.specs.Prelude.{members_list, members_of, of_items, of_members}
use Rattle.std.specs.Prelude.{suc, pos}
use Rattle.openapi_tables.proofs.FaultLaws.{rows_at_tag}
use Rattle.openapi_tables.proofs.ListLaws.{Each, Each-join, every_each}
use Rattle.openapi_tables.proofs.again.ObjectsBack.{checked, every_table, rows_of_sound, tag_case}
use Rattle.openapi_tables.proofs.PlainLaws.{clean-plain, is_plain}
use Rattle.openapi_tables.proofs.PrintLaws.{print-flag_or_schema}
use Rattle.openapi_tables.proofs.again.ReadAgain.{sort_in}
use Rattle.openapi_tables.proofs.AllReadProper.{ReadBy, from_list, of_list, read_by_kind, read_by_sort, read_by_table}
use Rattle.openapi_tables.proofs.AllReadProper.{read_by_tag}
use Rattle.openapi_tables.proofs.SortShown.{type_word}
use Rattle.openapi_tables.proofs.RowSize.{AllFull, Full, Small, Smalls, object_small, size_positive, total}
use Rattle.openapi_tables.proofs.again.SortsBack.{sort_meets}
use Rattle.openapi_tables.proofs.Taken.{reference_of}
use Rattle.openapi_tables.proofs.TreeLaws.{Inside, by_trees}
use Rattle.openapi_tables.specs.Tables.{integer_formats, number_formats, number_rows}
use Rattle.openapi_tables.specs.Sound.{extras}
use Rattle.openapi_tables.specs.Sound.{tables_small}
use Rattle.openapi_node.specs.Tree.{Items, Members, Tree, flag, item, items_of, items_size, list, member, members_size}
use Rattle.openapi_node.specs.Tree.{no_items, no_members, null, object, size_of, text, whole}

full_row : (w : Row) (l : List (Entry Tree)) → has_members w ≡ true → Full l w
full_row (constant n v) l h = cc
full_row w l h = tt

full_rows : (ws : List Row) (es : List (Entry Tree)) → Each (λ w. has_members w ≡ true) ws → AllFull es ws
full_rows [] es h = tt
full_rows (w ∷ ws) es h = (full_row w (own w es) h.0, full_rows ws es h.1)

full_table : (T : Tables) (W : tables_sound T ≡ true) (i : TableName) (es : List (Entry Tree)) → AllFull es (T i)
full_table T W i es =
    full_rows (T i) es (every_each has_members (T i) (every_table (λ n. every has_members (T n)) (checked T W).3 i))

text_total : (l : List (Entry Tree)) (u : List ℕ) → first_tree l ≡ text u → 1 ≤ total l
text_total [] u h = cc
text_total (e ∷ l) u h = let p = size_positive e.value in omega arith

is_typed : Sort → Bool
is_typed string_sort = true
is_typed number_sort = true
is_typed integer_sort = true
is_typed boolean_sort = true
is_typed object_sort = true
is_typed array_sort = true
is_typed s = false

untyped : (a b c d : Bool)
    → is_typed (cond a one_of_sort (cond b all_of_sort (cond c any_of_sort (cond d not_sort any_sort)))) ≡ false
unfolding is_typed
untyped true b c d = refl
untyped false true c d = refl
untyped false false true d = refl
untyped false false false true = refl
untyped false false false false = refl

typed_total : (s : Sort) (es l : List (Entry Tree)) → is_typed s ≡ true → possible_sort (first_tree l) es ≡ s
    → 1 ≤ total l
typed_total s es [] t h =
    absurd (both_ways (is_typed s)
    (ap is_typed (sym h) ∙ untyped (is_present es (codes "oneOf")) (is_present es (codes "allOf"))
    (is_present es (codes "anyOf")) (is_present es (codes "not"))) t)
typed_total s es (e ∷ l) t h = let p = size_positive e.value in omega arith

typed_full : (s : Sort) (es : List (Entry Tree)) → is_typed s ≡ true → is_any s ≡ false → sort_of es ≡ s
    → 1 ≤ total (own (constant (codes "type") (type_word s)) es)
typed_full s es t a e = typed_total s es (own (constant (codes "type") (type_word s)) es) t (sort_meets es s e a).0

sort_full : (s : Sort) (es : List (Entry Tree)) → sort_of es ≡ s → AllFull es (sort_rows s)
unfolding is_typed any_rows sort_rows string_rows object_rows array_rows boolean_rows
sort_full string_sort es e =
    (typed_full string_sort es refl refl e, full_rows string_rows es (every_each has_members string_rows refl))
sort_full number_sort es e = (
  typed_full number_sort es refl refl e,
  full_rows (number_rows unlimited number_formats) es (every_each has_members (number_rows unlimited number_formats) refl),
)
sort_full integer_sort es e = (
  typed_full integer_sort es refl refl e,
  full_rows (number_rows signed integer_formats) es (every_each has_members (number_rows signed integer_formats) refl),
)
sort_full object_sort es e =
    (typed_full object_sort es refl refl e, full_rows object_rows es (every_each has_members object_rows refl))
sort_full array_sort es e =
    (typed_full array_sort es refl refl e, full_rows array_rows es (every_each has_members array_rows refl))
sort_full boolean_sort es e =
    (typed_full boolean_sort es refl refl e, full_rows boolean_rows es (every_each has_members boolean_rows refl))
sort_full any_sort es e = full_rows any_rows es (every_each has_members any_rows refl)
sort_full s es e = (tt, tt)

sort_small : (T : Tables) → tables_small T ≡ true → (s : Sort)
    → nat_le (extras (join (T schema_data) (sort_rows s))) 1 ≡ true
sort_small T x s =
    sort_in (λ r. nat_le (extras (join (T schema_data) (sort_rows r))) 1)
    (and_parts (every (λ n. nat_le (extras (T n)) 1) table_names)
    (every (λ r. nat_le (extras (join (T schema_data) (sort_rows r))) 1) sorts) x).1 s

table_small : (T : Tables) → tables_small T ≡ true → (i : TableName) → nat_le (extras (T i)) 1 ≡ true
table_small T x i =
    every_table (λ n. nat_le (extras (T n)) 1)
    (and_parts (every (λ n. nat_le (extras (T n)) 1) table_names)
    (every (λ r. nat_le (extras (join (T schema_data) (sort_rows r))) 1) sorts) x).0 i

extras-join : (vs ws : List Row) → extras (join vs ws) ≡ extras vs + extras ws
extras-join [] ws = omega arith
extras-join (v ∷ vs) ws = let p = extras-join vs ws in omega arith

kind_small : (T : Tables) → tables_small T ≡ true → (s : Sort) → nat_le (extras (sort_rows s)) 1 ≡ true
kind_small T x s =
    let p = leb-true (extras (join (T schema_data) (sort_rows s))) 1 (sort_small T x s) in
    let q = extras-join (T schema_data) (sort_rows s) in
    le-leb (extras (sort_rows s)) 1 (omega arith)

rows_apart_of : (T : Tables) (W : tables_sound T ≡ true) (k : Kind) (c : Choice) (es : List (Entry Tree))
    → sound T k ≡ true → choice k es ≡ Some c → rows_apart (rows_of T k c) ≡ true
rows_apart_of T W k c es s h =
    (and_parts (rows_apart (rows_of T k c)) (every (row_sound T) (rows_of T k c)) (rows_of_sound T W k c es s h)).0

none_more : (ws : List Row) → nat_le (extras ws) 1 ≡ true → nat_le (0 + extras ws) 1 ≡ true
none_more ws h = let p = leb-true (extras ws) 1 h in le-leb (0 + extras ws) 1 (omega arith)

-- the rows by which an object is read add at most one member to those that it has
rows_add : (T : Tables) → tables_small T ≡ true → (k : Kind) (c : Choice) (es : List (Entry Tree)) → choice k es ≡ Some c
    → nat_le (extras (rows_of T k c)) 1 ≡ true
unfolding rows_of
rows_add T x (by i) c es e = table_small T x i
rows_add T x (tagged n cs) c es e =
    let t = tag_case cs (held n es) c e in
    subst (λ d. nat_le (extras (rows_of T (tagged n cs) d)) 1 ≡ true) (sym t.1)
    (none_more (case_rows T cs t.0)
    (subst (λ ws. nat_le (extras ws) 1 ≡ true) (sym (rows_at_tag T cs t.0 t.2)) (table_small T x (tag_table cs t.0))))
rows_add T x a_schema c es e =
    let p : sort (sort_of es) ≡ c = cc in
    subst (λ d. nat_le (extras (rows_of T a_schema d)) 1 ≡ true) p (sort_small T x (sort_of es))
rows_add T x a_schema_kind c es e =
    let p : sort (sort_of es) ≡ c = cc in
    subst (λ d. nat_le (extras (rows_of T a_schema_kind d)) 1 ≡ true) p (kind_small T x (sort_of es))
rows_add T x k c es e = cc

-- each row of a constant text by which an object is read takes at least one member
rows_full : (T : Tables) (W : tables_sound T ≡ true) (k : Kind) (c : Choice) (es : List (Entry Tree))
    → choice k es ≡ Some c → AllFull es (rows_of T k c)
unfolding rows_of
rows_full T W (by i) c es e = full_table T W i es
rows_full T W (tagged n cs) c es e =
    let t = tag_case cs (held n es) c e in
    subst (λ d. AllFull es (rows_of T (tagged n cs) d)) (sym t.1) (
      text_total (own (constant n t.0) es) t.0 t.3,
      subst (λ ws. AllFull es ws) (sym (rows_at_tag T cs t.0 t.2)) (full_table T W (tag_table cs t.0) es),
    )
rows_full T W a_schema c es e =
    let p : sort (sort_of es) ≡ c = cc in
    subst (λ d. AllFull es (rows_of T a_schema d)) p
    (Each-join (λ w. Full (own w es) w) (T schema_data) (sort_rows (sort_of es)) (full_table T W schema_data es)
    (sort_full (sort_of es) es refl))
rows_full T W a_schema_kind c es e =
    let p : sort (sort_of es) ≡ c = cc in
    subst (λ d. AllFull es (rows_of T a_schema_kind d)) p (sort_full (sort_of es) es refl)
rows_full T W k c es e = cc

-- an object is normalized to at most twice its size, if the values inside are
whole_small : (T : Tables) (W : tables_sound T ≡ true) → tables_small T ≡ true → (k : Kind) (ms : Members)
    → sound T k ≡ true → (conforms T k (object (members_of (members_list ms))) ≡ true → ReadBy T k (members_list ms))
    → Smalls T (members_list ms) → conforms T k (object ms) ≡ true
    → size_of (clean T k (object ms)) ≤ 2 * size_of (object ms)
whole_small T W x k ms s read d h =
    let es = members_list ms in
    let r = read (from_list (λ t. conforms T k t ≡ true) ms h) in
    of_list (λ t. size_of (clean T k t) ≤ 2 * size_of t) ms
    (object_small T k r.by_choice es r.chosen (rows_apart_of T W k r.by_choice es s r.chosen) r.sound_rows
    (rows_add T x k r.by_choice es r.chosen) d r.reads (rows_full T W k r.by_choice es r.chosen))

double : (t : Tree) → size_of t ≤ 2 * size_of t
double t = omega arith

plain_small : (T : Tables) (k : Kind) (t : Tree) → is_plain k ≡ true → size_of (clean T k t) ≤ 2 * size_of t
plain_small T k t h = subst (λ u. size_of u ≤ 2 * size_of t) (sym (clean-plain T t k h)) (double t)

list_small : (T : Tables) (k : Kind) (ts : Items) → sound T k ≡ true → Each (Small T) (items_list ts)
    → every (λ (x : Seen (Kind → Bool)). x.answer k) (of_items (root_conforms T) ts) ≡ true
    → items_size
    (items_of
    (each (λ (p : Prints). p.answer k)
    (of_forms (face_print T)
    (forms_of (each (λ (x : Seen (Kind → Form)). x.answer k) (of_items (root_form T) ts)))))) ≤ 2 * items_size ts
list_small T k no_items s g h = omega arith
list_small T k (item t ts) s g h =
    let p = and_parts (conforms T k t)
    (every (λ (x : Seen (Kind → Bool)). x.answer k) (of_items (root_conforms T) ts)) h in
    let q : size_of (clean T k t) ≤ 2 * size_of t = g.0 k s p.0 in
    let r = list_small T k ts s g.1 p.1 in
    omega arith

map_small : (T : Tables) (k : Kind) (ms : Members) → sound T k ≡ true
    → Each (λ (e : Entry Tree). Small T e.value) (members_list ms)
    → every (λ (e : Entry (Seen (Kind → Bool))). e.value.answer k) (of_members (root_conforms T) ms) ≡ true
    → members_size
    (members_of
    (pair_prints k (of_named (face_print T) (named_of (pairs_as name k (of_members (root_form T) ms))))))
    ≤ 2 * members_size ms
map_small T k no_members s g h = omega arith
map_small T k (member n t ms) s g h =
    let p = and_parts (conforms T k t)
    (every (λ (e : Entry (Seen (Kind → Bool))). e.value.answer k) (of_members (root_conforms T) ms)) h in
    let q : size_of (clean T k t) ≤ 2 * size_of t = g.0 k s p.0 in
    let r = map_small T k ms s g.1 p.1 in
    omega arith

one_is_small : (t u : Tree) → size_of u ≡ 1 → size_of u ≤ 2 * size_of t
one_is_small t u h = let p = size_positive t in omega arith

item_small : (T : Tables) (k : Kind) (t : Tree) → (conforms T k t ≡ true → size_of (clean T k t) ≤ 2 * size_of t)
    → conforms T (ref_to k) t ≡ true → size_of (clean T (ref_to k) t) ≤ 2 * size_of t
item_small T k (object ms) g h = at (text_in (held (codes "$ref") (members_list ms))) refl
  where
    at : (r : Option (List ℕ)) → text_in (held (codes "$ref") (members_list ms)) ≡ r
        → size_of (clean T (ref_to k) (object ms)) ≤ 2 * size_of (object ms)
    at None e =
        subst (λ r. size_of (print T (ref_to k) (reference_or_item r (form T k (object ms))))
        ≤ 2 * size_of (object ms)) (sym (reference_of (root_form T) ms ∙ e))
        (g (sym (ap (λ r. reference_or r (conforms T k (object ms))) (reference_of (root_conforms T) ms ∙ e)) ∙ h))
    at (Some u) e =
        let p : 2 ≤ 2 * suc (members_size ms) = omega arith in
        subst (λ r. size_of (print T (ref_to k) (reference_or_item r (form T k (object ms))))
        ≤ 2 * size_of (object ms)) (sym (reference_of (root_form T) ms ∙ e)) p
item_small T k t g h = g h

small_step : (T : Tables) (W : tables_sound T ≡ true) → tables_small T ≡ true → (t : Tree) → Inside (Small T) t
    → Small T t
small_step T W x t g (ref_to k) s h =
    item_small T k t (λ y. small_step T W x t g k (and_parts (under_ref T k) (sound T k) s).1 y) h
small_step T W x t g any_tree s h = plain_small T any_tree t refl
small_step T W x t g any_text s h = plain_small T any_text t refl
small_step T W x t g any_flag s h = plain_small T any_flag t refl
small_step T W x t g (number w) s h = plain_small T (number w) t refl
small_step T W x t g (one_of ws) s h = plain_small T (one_of ws) t refl
small_step T W x t g (null_or any_text) s h = plain_small T (null_or any_text) t refl
small_step T W x t g (null_or any_flag) s h = plain_small T (null_or any_flag) t refl
small_step T W x t g (null_or (number w)) s h = plain_small T (null_or (number w)) t refl
small_step T W x (text u) g (format ws b) s h = at (has ws u)
  where
    at : (c : Bool) → size_of (print T (format ws b) (cond c (known u) (other u))) ≤ 2 * size_of (text u)
    at true = one_is_small (text u) (text u) refl
    at false = one_is_small (text u) (text u) refl
small_step T W x null g (format ws b) s h = one_is_small null null refl
small_step T W x (list ts) g (list_of k) s h = let p = list_small T k ts s g h in
    let q : suc
    (items_size
    (items_of
    (each (λ (p : Prints). p.answer k)
    (of_forms (face_print T)
    (forms_of (each (λ (x : Seen (Kind → Form)). x.answer k) (of_items (root_form T) ts)))))))
    ≤ 2 * suc (items_size ts) = omega arith in q
small_step T W x (object ms) g (map_of k) s h = let p = map_small T k ms s g h in
    let q : suc
    (members_size
    (members_of
    (pair_prints k (of_named (face_print T) (named_of (pairs_as name k (of_members (root_form T) ms)))))))
    ≤ 2 * suc (members_size ms) = omega arith in q
small_step T W x (object ms) g (by i) s h =
    whole_small T W x (by i) ms s (read_by_table T W i (members_list ms)) g h
small_step T W x (object ms) g (tagged n cs) s h =
    whole_small T W x (tagged n cs) ms s (read_by_tag T W n cs (members_list ms) s) g h
small_step T W x (object ms) g a_schema s h =
    whole_small T W x a_schema ms s (read_by_sort T W (members_list ms)) g h
small_step T W x (object ms) g a_schema_kind s h =
    whole_small T W x a_schema_kind ms s (read_by_kind T W (members_list ms)) g h
small_step T W x (flag b) g flag_or_schema s h = one_is_small (flag b) (flag b) refl
small_step T W x (object ms) g flag_or_schema s h =
    subst (λ f. size_of f ≤ 2 * size_of (object ms))
    (sym (print-flag_or_schema T (form T (ref_to a_schema) (object ms))))
    (item_small T a_schema (object ms)
    (whole_small T W x a_schema ms refl (read_by_sort T W (members_list ms)) g) h)
small_step T W x (text u) g status_code s h = at (code_of u)
  where
    at : (o : Option Code) → size_of (print T status_code (code_form (text u) o)) ≤ 2 * size_of (text u)
    at None = one_is_small (text u) (text u) refl
    at (Some c) = one_is_small (text u) (text (text_of c)) refl
small_step T W x (whole (pos n)) g status_code s h = at (nat_le 100 n && nat_le n 999)
  where
    at : (b : Bool) → size_of (print T status_code (cond b (of_code (code n)) (leaf (whole (pos n)))))
        ≤ 2 * size_of (whole (pos n))
    at true = one_is_small (whole (pos n)) (text (text_of (code n))) refl
    at false = one_is_small (whole (pos n)) (whole (pos n)) refl
small_step T W x null g k s h = cc
small_step T W x t g k s h = cc

-- a node that conforms is normalized to one of at most twice its size
pub small : (T : Tables) (W : tables_sound T ≡ true) → tables_small T ≡ true → (t : Tree) → Small T t
small T W x t = by_trees (Small T) (small_step T W x) t
