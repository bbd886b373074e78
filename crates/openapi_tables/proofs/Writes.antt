-- A proper form is written as a node that conforms to the kind: for all kinds and forms.
use Rattle.std.proofs.Common.{ℕ, Bool, true, ◌&&◌, List, [], ◌∷◌, Option, Some, None, ◌≡◌, refl, sym, ap, ◌∙◌, subst}
use Rattle.std.proofs.lemmas.Bool.{and_parts, and_from}
use Rattle.openapi_tables.proofs.KindsHold.{any_conforms}
use Rattle.openapi_tables.specs.Prelude.{Kind, Tables, Row, Case, TableName, a_schema, a_schema_kind, any_text}
use Rattle.openapi_tables.specs.Prelude.{any_tree, by, flag_or_schema, format, in_class, list_of, map_of, null_or}
use Rattle.openapi_tables.specs.Prelude.{number, one_of, ref_to, schema_data, status_code, status_names, tagged}
use Rattle.openapi_tables.specs.Prelude.{text_of, chosen_holds, conforms, is_reference, object_holds, reference_or}
use Rattle.openapi_tables.specs.Prelude.{root_conforms, row_holds, Form, Forms, Named, Pair, an_item, coded, fields}
use Rattle.openapi_tables.specs.Prelude.{forms_list, leaf, more, named, named_list, no_forms, no_named, of_code}
use Rattle.openapi_tables.specs.Prelude.{of_forms, of_named, sequence, under, unset, each, every, join, Choice, Sort}
use Rattle.openapi_tables.specs.Prelude.{checked_rows, choice, made_optional, own, plain, rows_of, sort, sort_rows}
use Rattle.openapi_tables.specs.Prelude.{Prints, face_print, pair_prints, print, rows_print, Held, choice_proper}
use Rattle.openapi_tables.specs.Prelude.{face_proper, is_name, of_kind, proper, rows_proper, key_in, same_key}
use Rattle.openapi_tables.specs.Prelude.{row_sound, rows_apart, sound, tables_sound, under_ref, any_rows, Entry, Seen}
use Rattle.openapi_tables.specs.Prelude.{an_object, members_of, of_items, of_members}
use Rattle.openapi_tables.proofs.FaultLaws.{judged, seen_members}
use Rattle.openapi_tables.proofs.FormLaws.{Deep, Within, by_deep, of_forms_lem, show}
use Rattle.openapi_tables.proofs.ListLaws.{Each, Each-join, each_under, every_each, every_from}
use Rattle.openapi_tables.proofs.again.ObjectsBack.{case_sound, schema_sound, sort_sound, table_sound}
use Rattle.openapi_tables.proofs.PrintLaws.{members_for}
use Rattle.openapi_tables.proofs.again.ReadAgain.{names_of_data, names_of_none, tag_again}
use Rattle.openapi_tables.proofs.RowLaws.{Found, OwnWrites, found}
use Rattle.openapi_tables.proofs.RowWrites.{SlotsProper, Writes, proper_writes, row_holds_own, rows_write, slots_proper}
use Rattle.openapi_tables.proofs.SortShown.{Others}
use Rattle.openapi_tables.proofs.SortHolds.{AllHold, all_hold, from_all_hold}
use Rattle.openapi_tables.proofs.KindsHold.{kinds_hold, others_written}
use Rattle.openapi_tables.proofs.TreeLaws.{of_members-of}
use Rattle.openapi_tables.specs.Members.{tag}
use Rattle.openapi_tables.specs.Sound.{rows_sound}
use Rattle.openapi_node.specs.Tree.{Tree, items_of, object, text, whole, null}

-- the rows of a sound kind are sound, by each choice that its forms may have
pub rows_proper_sound : (T : Tables) (W : tables_sound T ≡ true) (k : Kind) (c : Choice) → sound T k ≡ true
    → choice_proper k c ≡ true → rows_sound T (rows_of T k c) ≡ true
unfolding rows_of
rows_proper_sound T W (by i) plain s h = table_sound T W i
rows_proper_sound T W (tagged n cs) (tag u) s h = case_sound T W n u cs (every_each _ cs s) h
rows_proper_sound T W a_schema (sort s') s h = schema_sound T W s'
rows_proper_sound T W a_schema_kind (sort s') s h = sort_sound T W s'
rows_proper_sound T W (by i) c s h = cc
rows_proper_sound T W k c s h = cc

-- the form of an object is written as the members that its rows write, by a choice that its kind may have
pub print-proper : (T : Tables) (k : Kind) (c : Choice) (fs : Forms) → choice_proper k c ≡ true
    → print T k (fields c fs) ≡ object (members_of (members_for T (rows_of T k c) (forms_list fs)))
print-proper T (by i) c fs h = ap (λ l. object (members_of (rows_print (rows_of T (by i) c) l)))
    (of_forms_lem (face_print T) fs)
print-proper T (tagged n cs) c fs h =
    ap (λ l. object (members_of (rows_print (rows_of T (tagged n cs) c) l))) (of_forms_lem (face_print T) fs)
print-proper T a_schema c fs h = ap (λ l. object (members_of (rows_print (rows_of T a_schema c) l)))
    (of_forms_lem (face_print T) fs)
print-proper T a_schema_kind c fs h =
    ap (λ l. object (members_of (rows_print (rows_of T a_schema_kind c) l))) (of_forms_lem (face_print T) fs)
print-proper T k c fs h = cc

-- what is known about the members that an object of a kind writes for a proper form
pub record Written (T : Tables) (k : Kind) (c : Choice) (fs : List Form) : Type 0 where
  pub apart_rows : rows_apart (rows_of T k c) ≡ true
  pub sound_rows : Each (λ w. row_sound T w ≡ true) (rows_of T k c)
  pub slots : SlotsProper T (rows_of T k c) fs
  pub writes : OwnWrites T (rows_of T k c) fs
  pub finds : Found T (members_for T (rows_of T k c) fs) (rows_of T k c) fs

-- `Written` holds for each proper form of an object whose kind is sound
pub written : (T : Tables) (W : tables_sound T ≡ true) (k : Kind) (c : Choice) (fs : List Form) → sound T k ≡ true
    → choice_proper k c ≡ true → rows_proper (rows_of T k c) (each (show (face_proper T)) fs) ≡ true → Written T k c fs
written T W k c fs s h g =
    record {
      apart_rows = a.0;
      sound_rows = every_each (row_sound T) (rows_of T k c) a.1;
      slots = p;
      writes =
          w;
      finds = found T (rows_of T k c) fs a.0 w;
    }
  where
    a : (rows_apart (rows_of T k c) ≡ true) × (every (row_sound T) (rows_of T k c) ≡ true)
    a = and_parts (rows_apart (rows_of T k c)) (every (row_sound T) (rows_of T k c)) (rows_proper_sound T W k c s h)

    p : SlotsProper T (rows_of T k c) fs
    p = slots_proper T (rows_of T k c) fs g

    w : OwnWrites T (rows_of T k c) fs
    w = proper_writes T (rows_of T k c) fs p

-- whether an object conforms is given by the rows of its choice and the list of its members
pub object_conforms : (T : Tables) (k : Kind) (es : List (Entry Tree))
    → object_holds T k (of_members (root_conforms T) (members_of es)) ≡ chosen_holds T k (judged T es) (choice k es)
object_conforms T k es =
    ap (λ l. object_holds T k l) (of_members-of (root_conforms T) es)
    ∙ ap (λ l. chosen_holds T k (judged T es) (choice k l)) (seen_members (root_conforms T) es)

all_written : (T : Tables) (k : Kind) (c : Choice) (fs : List Form) → Written T k c fs → Each (Deep (Writes T)) fs
    → AllHold T (members_for T (rows_of T k c) fs) (rows_of T k c)
all_written T k c fs w g = all_hold T l (rows_of T k c)
    (every_from (row_holds (judged T l)) (rows_of T k c)
    (rows_write T l (rows_of T k c) fs w.sound_rows g w.slots w.finds))
  where
    l : List (Entry Tree)
    l = members_for T (rows_of T k c) fs

-- if the rows of a concatenation hold, those of each list do
pub behind : (T : Tables) (es : List (Entry Tree)) (pre ws : List Row) → AllHold T es (join pre ws)
    → AllHold T es pre × AllHold T es ws
behind T es [] ws h = (tt, h)
behind T es (w ∷ pre) ws h = let p = behind T es pre ws h.1 in ((h.0, p.0), p.1)

table_writes : (T : Tables) (k : Kind) (c : Choice) (fs : List Form) → Written T k c fs → Each (Deep (Writes T)) fs
    → choice k (members_for T (rows_of T k c) fs) ≡ Some c → checked_rows T k c ≡ rows_of T k c
    → object_holds T k (of_members (root_conforms T) (members_of (members_for T (rows_of T k c) fs))) ≡ true
table_writes T k c fs w g h e =
    let l = members_for T (rows_of T k c) fs in
    object_conforms T k l ∙ ap (λ o. chosen_holds T k (judged T l) o) h
    ∙ ap (λ ws. every (row_holds (judged T l)) ws) e ∙ from_all_hold T l (rows_of T k c) (all_written T k c fs w g)

schema_writes : (T : Tables) (W : tables_sound T ≡ true) (s : Sort) (fs : List Form) → Written T a_schema (sort s) fs
    → Each (Deep (Writes T)) fs
    → object_holds T a_schema
    (of_members (root_conforms T) (members_of (members_for T (rows_of T a_schema (sort s)) fs))) ≡ true
unfolding rows_of checked_rows
schema_writes T W s fs w g =
    let l = members_for T (join (T schema_data) (sort_rows s)) fs in
    let p = behind T l (T schema_data) (sort_rows s) (all_written T a_schema (sort s) fs w g) in
    let o : Others s l = others_written T (T schema_data) s fs (names_of_data T W s) w.writes in
    object_conforms T a_schema l ∙ from_all_hold T l (join (T schema_data) (each made_optional any_rows))
    (Each-join (λ w. row_holds_own w (judged T (own w l)) ≡ true) (T schema_data)
    (each made_optional any_rows) p.0 (kinds_hold T s l p.1 o))

schema_kind_writes : (T : Tables) (s : Sort) (fs : List Form) → Written T a_schema_kind (sort s) fs
    → Each (Deep (Writes T)) fs
    → object_holds T a_schema_kind
    (of_members (root_conforms T) (members_of (members_for T (rows_of T a_schema_kind (sort s)) fs))) ≡ true
unfolding rows_of checked_rows
schema_kind_writes T s fs w g =
    let l = members_for T (sort_rows s) fs in
    let o : Others s l = others_written T [] s fs (names_of_none s) w.writes in
    object_conforms T a_schema_kind l ∙ from_all_hold T l (each made_optional any_rows)
    (kinds_hold T s l (all_written T a_schema_kind (sort s) fs w g) o)

-- if the check of an object's form passes, its choice is one of the kind and its slots are proper
pub proper_parts : (T : Tables) (c : Choice) (fs : Forms) (k : Kind)
    → (choice_proper k c && rows_proper (rows_of T k c) (of_forms (face_proper T) fs)) ≡ true
    → (choice_proper k c ≡ true) × (rows_proper (rows_of T k c) (each (show (face_proper T)) (forms_list fs)) ≡ true)
proper_parts T c fs k h =
    let p = and_parts (choice_proper k c) (rows_proper (rows_of T k c) (of_forms (face_proper T) fs)) h in
    (p.0, subst (λ (l : List Held). rows_proper (rows_of T k c) l ≡ true) (of_forms_lem (face_proper T) fs) p.1)

fields_write : (T : Tables) (W : tables_sound T ≡ true) (c : Choice) (fs : Forms)
    → Each (Deep (Writes T)) (forms_list fs) → (k : Kind) → sound T k ≡ true → proper T k (fields c fs) ≡ true
    → conforms T k (print T k (fields c fs)) ≡ true
unfolding rows_of checked_rows
fields_write T W c fs g k s h = at k s h
  where
    tagged_at : (n : List ℕ) (cs : List Case) (c : Choice) → sound T (tagged n cs) ≡ true
        → choice_proper (tagged n cs) c ≡ true → Written T (tagged n cs) c (forms_list fs)
        → conforms T (tagged n cs) (object (members_of (members_for T (rows_of T (tagged n cs) c) (forms_list fs))))
        ≡ true
    tagged_at n cs (tag u) s p w = table_writes T (tagged n cs) (tag u) (forms_list fs) w g
        (tag_again T n cs u (forms_list fs) p w.apart_rows w.writes) refl
    tagged_at n cs c s p w = cc

    schema_at : (c : Choice) → choice_proper a_schema c ≡ true → Written T a_schema c (forms_list fs)
        → conforms T a_schema (object (members_of (members_for T (rows_of T a_schema c) (forms_list fs)))) ≡ true
    schema_at (sort s) p w = schema_writes T W s (forms_list fs) w g
    schema_at c p w = cc

    kind_at : (c : Choice) → choice_proper a_schema_kind c ≡ true → Written T a_schema_kind c (forms_list fs)
        → conforms T a_schema_kind (object (members_of (members_for T (rows_of T a_schema_kind c) (forms_list fs))))
        ≡ true
    kind_at (sort s) p w = schema_kind_writes T s (forms_list fs) w g
    kind_at c p w = cc

    plain_at : (i : TableName) (c : Choice) → choice_proper (by i) c ≡ true → c ≡ plain
    plain_at i plain p = refl
    plain_at i c p = cc

    at : (k : Kind) → sound T k ≡ true → proper T k (fields c fs) ≡ true → conforms T k (print T k (fields c fs)) ≡ true
    at (by i) s h =
        let p = proper_parts T c fs (by i) h in
        let w = written T W (by i) c (forms_list fs) s p.0 p.1 in
        ap (conforms T (by i)) (print-proper T (by i) c fs p.0)
        ∙ table_writes T (by i) c (forms_list fs) w g (ap (λ x. Some x) (sym (plain_at i c p.0))) refl
    at (tagged n cs) s h =
        let p = proper_parts T c fs (tagged n cs) h in
        ap (conforms T (tagged n cs)) (print-proper T (tagged n cs) c fs p.0)
        ∙ tagged_at n cs c s p.0 (written T W (tagged n cs) c (forms_list fs) s p.0 p.1)
    at a_schema s h =
        let p = proper_parts T c fs a_schema h in
        ap (conforms T a_schema) (print-proper T a_schema c fs p.0)
        ∙ schema_at c p.0 (written T W a_schema c (forms_list fs) s p.0 p.1)
    at a_schema_kind s h =
        let p = proper_parts T c fs a_schema_kind h in
        ap (conforms T a_schema_kind) (print-proper T a_schema_kind c fs p.0)
        ∙ kind_at c p.0 (written T W a_schema_kind c (forms_list fs) s p.0 p.1)
    at (null_or any_text) s h = cc
    at k s h = cc

reference_conforms : (T : Tables) (k : Kind) (t : Tree) → conforms T k t ≡ true → conforms T (ref_to k) t ≡ true
reference_conforms T k (object ms) h = at (is_reference (an_object (of_members (root_conforms T) ms)))
  where
    at : (r : Option (List ℕ)) → reference_or r (conforms T k (object ms)) ≡ true
    at None = h
    at (Some s) = refl
reference_conforms T k t h = h

leaf_writes : (T : Tables) (t : Tree) (k : Kind) → sound T k ≡ true → proper T k (leaf t) ≡ true → conforms T k t ≡ true
leaf_writes T t any_tree s h = any_conforms T t
leaf_writes T (text u) (one_of ws) s h = h
leaf_writes T (whole z) (number w) s h = h
leaf_writes T (whole z) (null_or (number w)) s h = h
leaf_writes T t (null_or any_text) s h = cc
leaf_writes T null k s h = cc
leaf_writes T t k s h = cc

sequence_writes : (T : Tables) (k : Kind) (fs : Forms) → sound T k ≡ true → Each (Writes T) (forms_list fs)
    → every (λ (p : Held). p.answer (of_kind k)) (of_forms (face_proper T) fs) ≡ true
    → every (λ (x : Seen (Kind → Bool)). x.answer k)
    (of_items (root_conforms T) (items_of (each (λ (p : Prints). p.answer k) (of_forms (face_print T) fs)))) ≡ true
sequence_writes T k no_forms s g h = refl
sequence_writes T k (more f fs) s g h =
    let p = and_parts (proper T k f) (every (λ (p : Held). p.answer (of_kind k)) (of_forms (face_proper T) fs)) h in
    and_from (conforms T k (print T k f)) _ (g.0 k s p.0) (sequence_writes T k fs s g.1 p.1)

named_writes : (T : Tables) (k : Kind) (es : Named) → sound T k ≡ true
    → Each (λ (e : Pair Form). Writes T e.value) (named_list es)
    → every (λ (e : Pair Held). is_name e.key && e.value.answer (of_kind k)) (of_named (face_proper T) es) ≡ true
    → every (λ (e : Entry (Seen (Kind → Bool))). e.value.answer k)
    (of_members (root_conforms T) (members_of (pair_prints k (of_named (face_print T) es)))) ≡ true
named_writes T k no_named s g h = refl
named_writes T k (under n f es) s g h =
    let p = and_parts (is_name n && proper T k f)
    (every (λ (e : Pair Held). is_name e.key && e.value.answer (of_kind k)) (of_named (face_proper T) es)) h in
    and_from (conforms T k (print T k f)) _ (g.0 k s (and_parts (is_name n) (proper T k f) p.0).1)
    (named_writes T k es s g.1 p.1)

writes_step : (T : Tables) (W : tables_sound T ≡ true) (f : Form) → Within (Deep (Writes T)) f → Writes T f
writes_step T W (leaf t) g k s h = leaf_writes T t k s h
writes_step T W (of_code c) g status_code s h =
    (and_parts (same_key (key_in status_names (text_of c)) (coded c)) (in_class status_names (text_of c)) h).1
writes_step T W unset g (format ws b) s h = h
writes_step T W (an_item f) g (ref_to k) s h =
    reference_conforms T k (print T k f) (g.0 k (and_parts (under_ref T k) (sound T k) s).1 h)
writes_step T W (an_item f) g flag_or_schema s h = flag_or_conforms (print T a_schema f) (g.0 a_schema refl h)
  where
    flag_or_conforms : (t : Tree) → conforms T a_schema t ≡ true → conforms T flag_or_schema t ≡ true
    flag_or_conforms (object ms) x = reference_conforms T a_schema (object ms) x
    flag_or_conforms t x = cc
writes_step T W (sequence fs) g (list_of k) s h =
    sequence_writes T k fs s (each_under (λ (f : Form) (x : Deep (Writes T) f). x.0) (forms_list fs) g) h
writes_step T W (named es) g (map_of k) s h =
    named_writes T k es s (each_under (λ (e : Pair Form) (x : Deep (Writes T) e.value). x.0) (named_list es) g) h
writes_step T W (fields c fs) g k s h = fields_write T W c fs g k s h
writes_step T W f g (null_or any_text) s h = cc
writes_step T W f g k s h = cc

-- a proper form is written as a node that conforms
pub writes_all : (T : Tables) (W : tables_sound T ≡ true) (f : Form) → Writes T f
writes_all T W f = by_deep (Writes T) (writes_step T W) f
