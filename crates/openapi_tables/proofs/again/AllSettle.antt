-- A proper form that is written and read again stays: for objects, and for all kinds.
use Rattle.std.proofs.Common.{ℕ, true, ◌&&◌, List, Option, Some, None, ◌≡◌, refl, sym, ap, ◌∙◌}
use Rattle.std.proofs.lemmas.Bool.{and_parts, and_from}
use Rattle.openapi_tables.specs.Prelude.{Kind, Tables, Case, Code, TableName, a_schema, a_schema_kind, any_text}
use Rattle.openapi_tables.specs.Prelude.{any_tree, by, code_of, flag_or_schema, format, list_of, map_of, null_or}
use Rattle.openapi_tables.specs.Prelude.{ref_to, status_code, tagged, text_of, Form, Forms, Named, Pair, an_item}
use Rattle.openapi_tables.specs.Prelude.{fields, forms_list, known, leaf, more, name, named, named_list, no_forms}
use Rattle.openapi_tables.specs.Prelude.{no_named, of_code, of_forms, of_named, other, sequence, under, each, every}
use Rattle.openapi_tables.specs.Prelude.{Choice, choice, plain, rows_of, sort, again, print, Held, choice_proper}
use Rattle.openapi_tables.specs.Prelude.{face_proper, is_name, of_kind, proper, code_form, form, sound}
use Rattle.openapi_tables.specs.Prelude.{tables_sound, under_ref, choice_stays, face_stays, rows_stay, stays}
use Rattle.openapi_tables.specs.Prelude.{members_of}
use Rattle.openapi_tables.proofs.again.KindsBack.{stays-flag_or_schema}
use Rattle.openapi_tables.proofs.again.RowsSettle.{Calm, format_stays, from_stay_all, list_stays, plain_stays, rows_calm}
use Rattle.openapi_tables.proofs.again.RowsStay.{stays_values}
use Rattle.openapi_tables.proofs.FormLaws.{Deep, Within, by_deep, forms_of-list, named_of-list, show}
use Rattle.openapi_tables.proofs.ListLaws.{Each, each_under}
use Rattle.openapi_tables.proofs.again.ObjectsBack.{stays-fields}
use Rattle.openapi_tables.proofs.PrintLaws.{entry_of, members_for, print-list, print-map}
use Rattle.openapi_tables.proofs.again.ReadAgain.{tag_again}
use Rattle.openapi_tables.proofs.ReadLaws.{form-fields, form-flag_or_schema, form-item, form-list, form-map}
use Rattle.openapi_tables.proofs.ReadLaws.{form-reference, pair_of, slot_in}
use Rattle.openapi_tables.proofs.Taken.{ref_text}
use Rattle.openapi_tables.proofs.Writes.{Written, print-proper, proper_parts, written}
use Rattle.openapi_tables.specs.Members.{tag}
use Rattle.openapi_node.specs.Tree.{Tree, object, text, null}
use Rattle.openapi_tables.proofs.again.SchemasSettle.{schema_form_calm, kind_form_calm}

table_calm : (T : Tables) (k : Kind) (c : Choice) (fs : List Form) → Written T k c fs → Each (Deep (Calm T)) fs
    → choice k (members_for T (rows_of T k c) fs) ≡ Some c
    → choice_stays T k c (each (slot_in T (members_for T (rows_of T k c) fs)) (rows_of T k c)) ≡ true
    → stays T k (form T k (object (members_of (members_for T (rows_of T k c) fs)))) ≡ true
table_calm T k c fs w g h s =
    let l = members_for T (rows_of T k c) fs in
    let gs = each (slot_in T l) (rows_of T k c) in
    ap (stays T k) (form-fields T k c l h) ∙ stays-fields T k c l gs h
    ∙ and_from (choice_stays T k c gs) (rows_stay (rows_of T k c) (each (show (face_stays T)) gs)) s
    (from_stay_all T l (rows_of T k c) (rows_calm T l (rows_of T k c) fs w.sound_rows g w.slots w.finds))

fields_calm : (T : Tables) (W : tables_sound T ≡ true) (c : Choice) (fs : Forms)
    → Each (Deep (Calm T)) (forms_list fs) → (k : Kind) → sound T k ≡ true → proper T k (fields c fs) ≡ true
    → stays T k (again T k (fields c fs)) ≡ true
fields_calm T W c fs g k s h = at k s h
  where
    tagged_at : (n : List ℕ) (cs : List Case) (c : Choice) → choice_proper (tagged n cs) c ≡ true
        → Written T (tagged n cs) c (forms_list fs)
        → stays T (tagged n cs)
        (form T (tagged n cs) (object (members_of (members_for T (rows_of T (tagged n cs) c) (forms_list fs)))))
        ≡ true
    tagged_at n cs (tag u) p w = table_calm T (tagged n cs) (tag u) (forms_list fs) w g
        (tag_again T n cs u (forms_list fs) p w.apart_rows w.writes) refl
    tagged_at n cs c p w = cc

    schema_at : (c : Choice) → choice_proper a_schema c ≡ true → Written T a_schema c (forms_list fs)
        → stays T a_schema
        (form T a_schema (object (members_of (members_for T (rows_of T a_schema c) (forms_list fs))))) ≡ true
    schema_at (sort s) p w = schema_form_calm T W s (forms_list fs) w g
    schema_at c p w = cc

    kind_at : (c : Choice) → choice_proper a_schema_kind c ≡ true → Written T a_schema_kind c (forms_list fs)
        → stays T a_schema_kind
        (form T a_schema_kind (object (members_of (members_for T (rows_of T a_schema_kind c) (forms_list fs))))) ≡ true
    kind_at (sort s) p w = kind_form_calm T W s (forms_list fs) w g
    kind_at c p w = cc

    plain_at : (i : TableName) (c : Choice) → choice_proper (by i) c ≡ true → Written T (by i) c (forms_list fs)
        → stays T (by i) (form T (by i) (object (members_of (members_for T (rows_of T (by i) c) (forms_list fs)))))
        ≡ true
    plain_at i plain p w = table_calm T (by i) plain (forms_list fs) w g refl refl
    plain_at i c p w = cc

    at : (k : Kind) → sound T k ≡ true → proper T k (fields c fs) ≡ true → stays T k (again T k (fields c fs)) ≡ true
    at (by i) s h =
        let p = proper_parts T c fs (by i) h in
        ap (λ t. stays T (by i) (form T (by i) t)) (print-proper T (by i) c fs p.0)
        ∙ plain_at i c p.0 (written T W (by i) c (forms_list fs) s p.0 p.1)
    at (tagged n cs) s h =
        let p = proper_parts T c fs (tagged n cs) h in
        ap (λ t. stays T (tagged n cs) (form T (tagged n cs) t)) (print-proper T (tagged n cs) c fs p.0)
        ∙ tagged_at n cs c p.0 (written T W (tagged n cs) c (forms_list fs) s p.0 p.1)
    at a_schema s h =
        let p = proper_parts T c fs a_schema h in
        ap (λ t. stays T a_schema (form T a_schema t)) (print-proper T a_schema c fs p.0)
        ∙ schema_at c p.0 (written T W a_schema c (forms_list fs) s p.0 p.1)
    at a_schema_kind s h =
        let p = proper_parts T c fs a_schema_kind h in
        ap (λ t. stays T a_schema_kind (form T a_schema_kind t)) (print-proper T a_schema_kind c fs p.0)
        ∙ kind_at c p.0 (written T W a_schema_kind c (forms_list fs) s p.0 p.1)
    at (null_or any_text) s h = cc
    at k s h = cc

-- a reference stays, and so does an item that stays
reference_stays : (T : Tables) (k : Kind) (t : Tree) → stays T k (form T k t) ≡ true
    → stays T (ref_to k) (form T (ref_to k) t) ≡ true
reference_stays T k t h = at (ref_text t) refl
  where
    at : (r : Option (List ℕ)) → ref_text t ≡ r → stays T (ref_to k) (form T (ref_to k) t) ≡ true
    at None e = ap (stays T (ref_to k)) (form-item T k t e) ∙ h
    at (Some u) e = ap (stays T (ref_to k)) (form-reference T k t u e)

leaf_calm : (T : Tables) (t : Tree) (k : Kind) → sound T k ≡ true → proper T k (leaf t) ≡ true
    → stays T k (form T k t) ≡ true
leaf_calm T t any_tree s h = plain_stays T t any_tree refl
leaf_calm T null (null_or any_text) s h = cc
leaf_calm T t (null_or any_text) s h = cc
leaf_calm T null k s h = cc
leaf_calm T t k s h = cc

sequence_calm : (T : Tables) (k : Kind) (fs : Forms) → sound T k ≡ true → Each (Calm T) (forms_list fs)
    → every (λ (p : Held). p.answer (of_kind k)) (of_forms (face_proper T) fs) ≡ true
    → Each (λ (f : Form). stays T k f ≡ true) (each (form T k) (each (print T k) (forms_list fs)))
sequence_calm T k no_forms s g h = tt
sequence_calm T k (more f fs) s g h =
    let p = and_parts (proper T k f) (every (λ (p : Held). p.answer (of_kind k)) (of_forms (face_proper T) fs)) h in
    (g.0 k s p.0, sequence_calm T k fs s g.1 p.1)

named_calm : (T : Tables) (k : Kind) (es : Named) → sound T k ≡ true
    → Each (λ (e : Pair Form). Calm T e.value) (named_list es)
    → every (λ (e : Pair Held). is_name e.key && e.value.answer (of_kind k)) (of_named (face_proper T) es) ≡ true
    → Each (λ (e : Pair Form). stays T k e.value ≡ true) (each (pair_of T name k) (each (entry_of T k) (named_list es)))
named_calm T k no_named s g h = tt
named_calm T k (under n f es) s g h =
    let p = and_parts (is_name n && proper T k f)
    (every (λ (e : Pair Held). is_name e.key && e.value.answer (of_kind k)) (of_named (face_proper T) es)) h in
    (g.0 k s (and_parts (is_name n) (proper T k f) p.0).1, named_calm T k es s g.1 p.1)

calm_step : (T : Tables) (W : tables_sound T ≡ true) (f : Form) → Within (Deep (Calm T)) f → Calm T f
calm_step T W (leaf t) g k s h = leaf_calm T t k s h
calm_step T W (of_code c) g status_code s h = at (code_of (text_of c))
  where
    at : (o : Option Code) → stays T status_code (code_form (text (text_of c)) o) ≡ true
    at None = refl
    at (Some d) = refl
calm_step T W (known u) g (format ws b) s h = format_stays T ws b (text u)
calm_step T W (other u) g (format ws b) s h = format_stays T ws b (text u)
calm_step T W (an_item f) g (ref_to k) s h =
    reference_stays T k (print T k f) (g.0 k (and_parts (under_ref T k) (sound T k) s).1 h)
calm_step T W (an_item f) g flag_or_schema s h = flag_or (print T a_schema f) (g.0 a_schema refl h)
  where
    flag_or : (t : Tree) → stays T a_schema (form T a_schema t) ≡ true
        → stays T flag_or_schema (form T flag_or_schema t) ≡ true
    flag_or (object ms) x = ap (stays T flag_or_schema) (form-flag_or_schema T (object ms) refl)
        ∙ stays-flag_or_schema T (form T (ref_to a_schema) (object ms)) ∙ reference_stays T a_schema (object ms) x
    flag_or t x = refl
calm_step T W (sequence fs) g (list_of k) s h =
    let xs = each (print T k) (forms_list fs) in
    ap (λ x. stays T (list_of k) (form T (list_of k) (print T (list_of k) (sequence x)))) (sym (forms_of-list fs))
    ∙ ap (λ t. stays T (list_of k) (form T (list_of k) t)) (print-list T k (forms_list fs))
    ∙ ap (stays T (list_of k)) (form-list T k xs)
    ∙ list_stays T k (each (form T k) xs)
    (sequence_calm T k fs s (each_under (λ (f : Form) (x : Deep (Calm T) f). x.0) (forms_list fs) g) h)
calm_step T W (named es) g (map_of k) s h =
    let xs = each (entry_of T k) (named_list es) in
    ap (λ x. stays T (map_of k) (form T (map_of k) (print T (map_of k) (named x)))) (sym (named_of-list es))
    ∙ ap (λ t. stays T (map_of k) (form T (map_of k) t)) (print-map T k (named_list es))
    ∙ ap (stays T (map_of k)) (form-map T k xs)
    ∙ stays_values T k (each (pair_of T name k) xs)
    (named_calm T k es s (each_under (λ (e : Pair Form) (x : Deep (Calm T) e.value). x.0) (named_list es) g) h)
calm_step T W (fields c fs) g k s h = fields_calm T W c fs g k s h
calm_step T W f g (null_or any_text) s h = cc
calm_step T W f g k s h = cc

-- a proper form that is written and read again stays
pub calm_all : (T : Tables) (W : tables_sound T ≡ true) (f : Form) → Calm T f
calm_all T W f = by_deep (Calm T) (calm_step T W) f
