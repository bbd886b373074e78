-- The form that is read from a node that conforms is proper: for all kinds and nodes.
use Rattle.std.proofs.Common.{ℕ, Bool, true, false, cond, ◌&&◌, List, Option, Some, None, ◌≡◌, refl, sym, ap, ◌∙◌}
use Rattle.std.proofs.Common.{subst, codes, nat_le}
use Rattle.std.proofs.lemmas.Bool.{and_parts, and_from, both_ways}
use Rattle.openapi_tables.specs.Prelude.{Kind, Tables, Case, Code, TableName, a_schema, a_schema_kind, any_text}
use Rattle.openapi_tables.specs.Prelude.{any_tree, by, code, code_of, flag_or_schema, format, is_code, list_of, map_of}
use Rattle.openapi_tables.specs.Prelude.{null_or, number, one_of, ref_to, schema_data, status_code, status_names}
use Rattle.openapi_tables.specs.Prelude.{tagged, text_of, writable_code, chosen_holds, conforms, is_case}
use Rattle.openapi_tables.specs.Prelude.{object_holds, reference_or, root_conforms, text_in, Form, Pair, an_item, coded}
use Rattle.openapi_tables.specs.Prelude.{forms_of, known, leaf, name, named_of, of_code, of_forms, of_named, other}
use Rattle.openapi_tables.specs.Prelude.{reference, each, every, has, join, Choice, checked_rows, choice, held}
use Rattle.openapi_tables.specs.Prelude.{made_optional, own, plain, rows_of, sort, sort_of, sort_rows, Held}
use Rattle.openapi_tables.specs.Prelude.{choice_proper, face_proper, is_name, is_written, of_kind, proper, rows_proper}
use Rattle.openapi_tables.specs.Prelude.{code_form, code_key, form, pairs_as, reference_or_item, root_form, same_key}
use Rattle.openapi_tables.specs.Prelude.{row_sound, rows_apart, sound, tables_sound, under_ref, any_rows, Entry, Seen}
use Rattle.openapi_tables.specs.Prelude.{items_list, members_list, members_of, of_items, of_members}
use Rattle.std.specs.Prelude.{pos}
use Rattle.openapi_tables.proofs.again.SchemasSettle.{front}
use Rattle.openapi_tables.proofs.CodeLaws.{code_of-text_of, writable-code_of}
use Rattle.openapi_tables.proofs.FaultLaws.{judged}
use Rattle.openapi_tables.proofs.FormLaws.{of_forms-of, show}
use Rattle.openapi_tables.proofs.ListLaws.{Each, Each-join, every_each}
use Rattle.openapi_tables.proofs.again.ObjectsBack.{rows_of_sound, tag_case}
use Rattle.openapi_tables.proofs.ReadLaws.{form-fields, slot_in}
use Rattle.openapi_tables.proofs.SortHolds.{AllHold, all_hold}
use Rattle.openapi_tables.proofs.Taken.{reference_of}
use Rattle.openapi_tables.proofs.TreeLaws.{Inside, by_trees, members_of-list}
use Rattle.openapi_tables.proofs.Writes.{behind, object_conforms}
use Rattle.openapi_tables.specs.Members.{tag}
use Rattle.openapi_tables.specs.Print.{bare}
use Rattle.openapi_node.specs.Tree.{Items, Members, Tree, flag, item, list, member, no_items, no_members, null, object}
use Rattle.openapi_node.specs.Tree.{text, whole}
use Rattle.openapi_tables.proofs.SortReads.{sort_reads}
use Rattle.openapi_tables.proofs.ReadProper.{ReadsProper, ValuesProper, same_code-refl, AllRead, rows_read_proper}
use Rattle.openapi_tables.proofs.ReadProper.{RowReads, all_read}

-- the check of an object's form passes if its choice is one of the kind and its slots are proper
proper-fields : (T : Tables) (k : Kind) (c : Choice) (fs : List Form) → choice_proper k c ≡ true
    → rows_proper (rows_of T k c) (each (show (face_proper T)) fs) ≡ true
    → (choice_proper k c && rows_proper (rows_of T k c) (of_forms (face_proper T) (forms_of fs))) ≡ true
proper-fields T k c fs h g = and_from (choice_proper k c) _ h
    (ap (rows_proper (rows_of T k c)) (of_forms-of (face_proper T) fs) ∙ g)

-- if an object conforms to an object kind, each row that must hold by its choice does
pub held_of : (T : Tables) (k : Kind) (es : List (Entry Tree)) (c : Choice) → choice k es ≡ Some c
    → object_holds T k (of_members (root_conforms T) (members_of es)) ≡ true → AllHold T es (checked_rows T k c)
held_of T k es c h g = all_hold T es (checked_rows T k c)
    (sym (object_conforms T k es ∙ ap (λ o. chosen_holds T k (judged T es) o) h) ∙ g)

-- each row that an object of a sound kind is read by is sound
pub sound_rows_of : (T : Tables) (W : tables_sound T ≡ true) (k : Kind) (c : Choice) (es : List (Entry Tree))
    → sound T k ≡ true → choice k es ≡ Some c → Each (λ w. row_sound T w ≡ true) (rows_of T k c)
sound_rows_of T W k c es s h = every_each (row_sound T) (rows_of T k c)
    (and_parts (rows_apart (rows_of T k c)) (every (row_sound T) (rows_of T k c)) (rows_of_sound T W k c es s h)).1

-- the text of the tag of an object that conforms, by which its rows are chosen
pub tag_of : (T : Tables) (n : List ℕ) (cs : List Case) (es : List (Entry Tree))
    → conforms T (tagged n cs) (object (members_of es)) ≡ true
    → (s : List ℕ) × (choice (tagged n cs) es ≡ Some (tag s)) × (is_case cs s ≡ true) × (held n es ≡ text s)
tag_of T n cs es h = at (choice (tagged n cs) es) refl
  where
    at : (o : Option Choice) → choice (tagged n cs) es ≡ o
        → (s : List ℕ) × (choice (tagged n cs) es ≡ Some (tag s)) × (is_case cs s ≡ true) × (held n es ≡ text s)
    at None e =
        absurd (both_ways (object_holds T (tagged n cs) (of_members (root_conforms T) (members_of es)))
        (object_conforms T (tagged n cs) es ∙ ap (λ o. chosen_holds T (tagged n cs) (judged T es) o) e) h)
    at (Some c) e = let t = tag_case cs (held n es) c e in (t.0, e ∙ ap (λ d. Some d) t.1, t.2, t.3)

-- the choice by which an object is read under a kind. The rows are sound, and each finds what it must for its slot to
-- be proper
pub record ReadBy (T : Tables) (k : Kind) (es : List (Entry Tree)) : Type 0 where
  pub by_choice : Choice
  pub chosen : choice k es ≡ Some by_choice
  pub fits : choice_proper k by_choice ≡ true
  pub stands : bare k ≡ k
  pub sound_rows : Each (λ w. row_sound T w ≡ true) (rows_of T k by_choice)
  pub reads : AllRead T es (rows_of T k by_choice)

-- an object that conforms to a table is read by the rows of the table
pub read_by_table : (T : Tables) (W : tables_sound T ≡ true) (i : TableName) (es : List (Entry Tree))
    → conforms T (by i) (object (members_of es)) ≡ true → ReadBy T (by i) es
unfolding rows_of checked_rows
read_by_table T W i es h =
    let a = sound_rows_of T W (by i) plain es refl refl in
    record {
      by_choice = plain;
      chosen = refl;
      fits = refl;
      stands = refl;
      sound_rows = a;
      reads = all_read T es (T i) a (held_of T (by i) es plain refl h);
    }

-- an object that conforms to a tagged kind is read by the table that the text of its tag selects
pub read_by_tag : (T : Tables) (W : tables_sound T ≡ true) (n : List ℕ) (cs : List Case) (es : List (Entry Tree))
    → sound T (tagged n cs) ≡ true → conforms T (tagged n cs) (object (members_of es)) ≡ true
    → ReadBy T (tagged n cs) es
unfolding rows_of checked_rows
read_by_tag T W n cs es s h =
    let t = tag_of T n cs es h in
    let a = sound_rows_of T W (tagged n cs) (tag t.0) es s t.1 in
    record {
      by_choice = tag t.0;
      chosen = t.1;
      fits = t.2;
      stands = refl;
      sound_rows = a;
      reads = all_read T es (rows_of T (tagged n cs) (tag t.0)) a (held_of T (tagged n cs) es (tag t.0) t.1 h);
    }

-- a schema that conforms is read by the rows that all schemas share and those of its sort
pub read_by_sort : (T : Tables) (W : tables_sound T ≡ true) (es : List (Entry Tree))
    → conforms T a_schema (object (members_of es)) ≡ true → ReadBy T a_schema es
unfolding rows_of checked_rows
read_by_sort T W es h =
    let a : Each (λ w. row_sound T w ≡ true) (join (T schema_data) (sort_rows (sort_of es))) =
    sound_rows_of T W a_schema (sort (sort_of es)) es refl refl in
    let p = behind T es (T schema_data) (each made_optional any_rows)
    (held_of T a_schema es (sort (sort_of es)) refl h) in
    record {
      by_choice = sort (sort_of es);
      chosen = refl;
      fits = refl;
      stands = refl;
      sound_rows = a;
      reads = Each-join (λ w. RowReads T (own w es) w) (T schema_data) (sort_rows (sort_of es))
          (all_read T es (T schema_data) (front (λ w. row_sound T w ≡ true) (T schema_data) (sort_rows (sort_of es)) a) p.0)
          (sort_reads T (sort_of es) es p.1 refl);
    }

-- an object that conforms to `a_schema_kind` is read by the rows of its sort
pub read_by_kind : (T : Tables) (W : tables_sound T ≡ true) (es : List (Entry Tree))
    → conforms T a_schema_kind (object (members_of es)) ≡ true → ReadBy T a_schema_kind es
unfolding rows_of checked_rows
read_by_kind T W es h =
    record {
      by_choice = sort (sort_of es);
      chosen = refl;
      fits = refl;
      stands = refl;
      sound_rows = sound_rows_of T W a_schema_kind (sort (sort_of es)) es refl refl;
      reads = sort_reads T (sort_of es) es (held_of T a_schema_kind es (sort (sort_of es)) refl h) refl;
    }

-- `P` holds for an object if it holds for the object made from the list of its members
pub of_list : (P : Tree → Type 0) (ms : Members) → P (object (members_of (members_list ms))) → P (object ms)
of_list P ms h = subst (λ x. P (object x)) (members_of-list ms) h

-- the converse: `P` holds for the object made from the list of the members of an object if it holds for that object
pub from_list : (P : Tree → Type 0) (ms : Members) → P (object ms) → P (object (members_of (members_list ms)))
from_list P ms h = subst (λ x. P (object x)) (sym (members_of-list ms)) h

-- the form that is read from an object is proper, if the forms of the values inside are
object_reads : (T : Tables) (k : Kind) (ms : Members)
    → (conforms T k (object (members_of (members_list ms))) ≡ true → ReadBy T k (members_list ms))
    → ValuesProper T (members_list ms) → conforms T k (object ms) ≡ true → proper T k (form T k (object ms)) ≡ true
object_reads T k ms read g h =
    let es = members_list ms in
    let r = read (from_list (λ t. conforms T k t ≡ true) ms h) in
    let fs = each (slot_in T es) (rows_of T k r.by_choice) in
    of_list (λ t. proper T k (form T k t) ≡ true) ms
    (ap (proper T k) (form-fields T k r.by_choice es r.chosen)
    ∙ subst (λ j. (choice_proper j r.by_choice
    && rows_proper (rows_of T j r.by_choice) (of_forms (face_proper T) (forms_of fs))) ≡ true) (sym r.stands)
    (proper-fields T k r.by_choice fs r.fits
    (rows_read_proper T es (rows_of T k r.by_choice) r.sound_rows g r.reads)))

list_reads : (T : Tables) (k : Kind) (ts : Items) → sound T k ≡ true → Each (ReadsProper T) (items_list ts)
    → every (λ (x : Seen (Kind → Bool)). x.answer k) (of_items (root_conforms T) ts) ≡ true
    → every (λ (p : Held). p.answer (of_kind k))
    (of_forms (face_proper T)
    (forms_of (each (λ (x : Seen (Kind → Form)). x.answer k) (of_items (root_form T) ts)))) ≡ true
list_reads T k no_items s g h = refl
list_reads T k (item t ts) s g h =
    let p = and_parts (conforms T k t)
    (every (λ (x : Seen (Kind → Bool)). x.answer k) (of_items (root_conforms T) ts)) h in
    and_from (proper T k (form T k t)) _ (g.0 k s p.0) (list_reads T k ts s g.1 p.1)

map_reads : (T : Tables) (k : Kind) (ms : Members) → sound T k ≡ true
    → Each (λ (e : Entry Tree). ReadsProper T e.value) (members_list ms)
    → every (λ (e : Entry (Seen (Kind → Bool))). e.value.answer k) (of_members (root_conforms T) ms) ≡ true
    → every (λ (e : Pair Held). is_name e.key && e.value.answer (of_kind k))
    (of_named (face_proper T) (named_of (pairs_as name k (of_members (root_form T) ms)))) ≡ true
map_reads T k no_members s g h = refl
map_reads T k (member n t ms) s g h =
    let p = and_parts (conforms T k t)
    (every (λ (e : Entry (Seen (Kind → Bool))). e.value.answer k) (of_members (root_conforms T) ms)) h in
    and_from (proper T k (form T k t)) _ (g.0 k s p.0) (map_reads T k ms s g.1 p.1)

format_reads : (T : Tables) (ws : List (List ℕ)) (b : Bool) (u : List ℕ) (c : Bool) → has ws u ≡ c
    → proper T (format ws b) (cond c (known u) (other u)) ≡ true
format_reads T ws b u true e = e
format_reads T ws b u false e = refl

written_code : (c : Code) → writable_code c ≡ true → is_written status_names (coded c) ≡ true
written_code c h =
    let p = code_of-text_of c h in
    and_from (same_key (code_key (text_of c) (code_of (text_of c))) (coded c)) (is_code (code_of (text_of c)))
    (ap (λ o. same_key (code_key (text_of c) o) (coded c)) p ∙ same_code-refl c) (ap is_code p)

code_reads : (T : Tables) (u : List ℕ) (o : Option Code) → code_of u ≡ o → is_code o ≡ true
    → proper T status_code (code_form (text u) o) ≡ true
code_reads T u None e h = cc
code_reads T u (Some c) e h = written_code c (writable-code_of u c e)

number_reads : (T : Tables) (n : ℕ) (b : Bool) → (nat_le 100 n && nat_le n 999) ≡ b → b ≡ true
    → proper T status_code (cond b (of_code (code n)) (leaf (whole (pos n)))) ≡ true
number_reads T n true e h = written_code (code n) e
number_reads T n false e h = cc

-- a node that conforms to `ref_to k` is read as a proper form, if that is so under `k`
item_reads : (T : Tables) (k : Kind) (t : Tree) → (conforms T k t ≡ true → proper T k (form T k t) ≡ true)
    → conforms T (ref_to k) t ≡ true → proper T (ref_to k) (form T (ref_to k) t) ≡ true
item_reads T k (object ms) g h = at (text_in (held (codes "$ref") (members_list ms))) refl
  where
    at : (r : Option (List ℕ)) → text_in (held (codes "$ref") (members_list ms)) ≡ r
        → proper T (ref_to k) (form T (ref_to k) (object ms)) ≡ true
    at None e =
        ap (λ r. proper T (ref_to k) (reference_or_item r (form T k (object ms))))
        (reference_of (root_form T) ms ∙ e)
        ∙ g (sym (ap (λ r. reference_or r (conforms T k (object ms))) (reference_of (root_conforms T) ms ∙ e)) ∙ h)
    at (Some u) e = ap (λ r. proper T (ref_to k) (reference_or_item r (form T k (object ms))))
        (reference_of (root_form T) ms ∙ e)
item_reads T k t g h = g h

step : (T : Tables) (W : tables_sound T ≡ true) (t : Tree) → Inside (ReadsProper T) t → ReadsProper T t
step T W t g any_tree s h = any_reads T t
  where
    any_reads : (T : Tables) (t : Tree) → proper T any_tree (form T any_tree t) ≡ true
    any_reads T null = refl
    any_reads T t = refl
step T W t g (ref_to k) s h = item_reads T k t (λ x. step T W t g k (and_parts (under_ref T k) (sound T k) s).1 x) h
step T W (whole z) g (number w) s h = h
step T W (text u) g (one_of ws) s h = h
step T W (text u) g (format ws b) s h = format_reads T ws b u (has ws u) refl
step T W null g (format ws b) s h = h
step T W (whole z) g (null_or (number w)) s h = h
step T W (list ts) g (list_of k) s h = list_reads T k ts s g h
step T W (object ms) g (map_of k) s h = map_reads T k ms s g h
step T W (object ms) g (by i) s h = object_reads T (by i) ms (read_by_table T W i (members_list ms)) g h
step T W (object ms) g (tagged n cs) s h =
    object_reads T (tagged n cs) ms (read_by_tag T W n cs (members_list ms) s) g h
step T W (object ms) g a_schema s h = object_reads T a_schema ms (read_by_sort T W (members_list ms)) g h
step T W (object ms) g a_schema_kind s h = object_reads T a_schema_kind ms (read_by_kind T W (members_list ms)) g h
step T W (object ms) g flag_or_schema s h =
    flag_reads (form T (ref_to a_schema) (object ms))
    (item_reads T a_schema (object ms) (object_reads T a_schema ms (read_by_sort T W (members_list ms)) g) h)
  where
    flag_reads : (f : Form) → proper T (ref_to a_schema) f ≡ true → proper T flag_or_schema f ≡ true
    flag_reads (reference u) h = refl
    flag_reads (an_item f) h = h
    flag_reads (leaf (flag b)) h = refl
    flag_reads (leaf null) h = cc
    flag_reads f h = cc
step T W (text u) g status_code s h = code_reads T u (code_of u) refl h
step T W (whole (pos n)) g status_code s h = number_reads T n (nat_le 100 n && nat_le n 999) refl h
step T W t g (null_or any_text) s h = cc
step T W null g k s h = cc
step T W t g k s h = cc

-- the form that is read from a node that conforms is proper
pub read_proper : (T : Tables) (W : tables_sound T ≡ true) (t : Tree) → ReadsProper T t
read_proper T W t = by_trees (ReadsProper T) (step T W) t
