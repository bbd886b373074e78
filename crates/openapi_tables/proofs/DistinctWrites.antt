-- A form with distinct keys is written as a well named node.
use Rattle.std.proofs.Common.{ℕ, Bool, true, false, cond, ◌&&◌, ◌||◌, List, [], ◌∷◌, ◌≡◌, refl, sym, ap, ◌∙◌, subst}
use Rattle.std.proofs.Common.{⊎_elim, not}
use Rattle.std.proofs.lemmas.Bool.{and_parts, or_cases, both_ways}
use Rattle.openapi_tables.specs.Prelude.{each, join, every, same_text, Entry, Kind, optional, nullable, by, tagged}
use Rattle.openapi_tables.specs.Prelude.{a_schema_kind, any_text, null_or, list_of, map_of, ref_to, flag_or_schema}
use Rattle.openapi_tables.specs.Prelude.{a_schema, Row, row, either, class, constant, Class, Mode, takes, Tables}
use Rattle.openapi_tables.specs.Prelude.{Choice, rows_of, Form, Key, name, coded, absent, leaf, an_item, sequence}
use Rattle.openapi_tables.specs.Prelude.{named, deciding, fields, Forms, no_forms, more, forms_list, Named, named_list}
use Rattle.openapi_tables.specs.Prelude.{Pair, of_forms, same_key, is_silent, one, row_print, print, text_of_key}
use Rattle.openapi_tables.specs.Prelude.{Prints, face_print, Held, is_name, is_written, may_be_absent, of_kind}
use Rattle.openapi_tables.specs.Prelude.{row_proper, rows_proper, face_proper, choice_proper, proper, sound, row_sound}
use Rattle.openapi_tables.specs.Prelude.{rows_apart, mode_fits, under_ref, apart, tables_sound}
use Rattle.openapi_node.specs.Tree.{Tree}
use Rattle.openapi_node.specs.Named.{well_named}
use Rattle.openapi_tables.specs.Distinct.{distinct}
use Rattle.openapi_tables.proofs.ListLaws.{Each, every_each, each_under, Each-join, same_text_eq}
use Rattle.openapi_tables.proofs.SoundLaws.{sound_pick}
use Rattle.openapi_tables.proofs.FormLaws.{show, on_pair, Within, Deep, by_deep, of_forms_lem, of_named_lem}
use Rattle.openapi_tables.proofs.FormLaws.{named_of-list}
use Rattle.openapi_tables.proofs.KeyLaws.{Distinct}
use Rattle.openapi_tables.proofs.PrintLaws.{printed, entry_of, members_for, print-map}
use Rattle.openapi_tables.proofs.RowLaws.{OwnWrites, apart_takes, not_both}
use Rattle.openapi_tables.proofs.RowWrites.{SlotsProper, class_prints, of_class_entries}
use Rattle.openapi_tables.proofs.Writes.{print-proper, written}
use Rattle.openapi_tables.proofs.DistinctLaws.{Differ, WellNamed, to_object, to_list_named, of_named, of_forms_distinct}
use Rattle.openapi_tables.proofs.DistinctLaws.{texts_differ}

-- a form with distinct keys that is proper for a sound kind is written as a well named node
abbrev WritesNamed : (T : Tables) → Form → Type 0
WritesNamed T f = (k : Kind) → sound T k ≡ true → proper T k f ≡ true → distinct f ≡ true
    → well_named (print T k f) ≡ true

-- the concatenation of two lists with distinct names has distinct names, if the lists share no name
join_differ : (es ds : List (Entry Tree)) → Differ es → Differ ds
    → Each (λ (e : Entry Tree). Each (λ (d : Entry Tree). same_text e.name d.name ≡ false) ds) es → Differ (join es ds)
join_differ [] ds h g a = g
join_differ (e ∷ es) ds h g a =
    (Each-join (λ (d : Entry Tree). same_text e.name d.name ≡ false) es ds h.0 a.0, join_differ es ds h.1 g a.1)

-- a name that a row takes differs from a name that it does not take
other_name : (w : Row) (m n : List ℕ) → takes w m ≡ true → takes w n ≡ false → same_text m n ≡ false
other_name w m n h g = not_both (same_text m n)
    (λ e. both_ways (takes w n) g (subst (λ l. takes w l ≡ true) (same_text_eq m n e) h))

others_apart : (T : Tables) (w : Row) (n : List ℕ) (ws : List Row) (fs : List Form) → takes w n ≡ true
    → Each (λ v. apart w v ≡ true) ws → OwnWrites T ws fs
    → Each (λ (d : Entry Tree). same_text n d.name ≡ false) (members_for T ws fs)
others_apart T w n [] fs h a o = tt
others_apart T w n (v ∷ ws) [] h a o = absurd o
others_apart T w n (v ∷ ws) (f ∷ fs) h a o =
    Each-join (λ (d : Entry Tree). same_text n d.name ≡ false) (row_print v (printed T f)) (members_for T ws fs)
    (each_under (λ (d : Entry Tree) (x : takes v d.name ≡ true). other_back v n d.name (apart_takes w v n a.0 h) x)
    (row_print v (printed T f)) o.0)
    (others_apart T w n ws fs h a.1 o.1)
  where
    other_back : (v : Row) (m n : List ℕ) → takes v m ≡ false → takes v n ≡ true → same_text m n ≡ false
    other_back v m n g h = not_both (same_text m n)
        (λ e. both_ways (takes v m) g (subst (λ l. takes v l ≡ true) (sym (same_text_eq m n e)) h))

-- the members that each row writes are well named
abbrev AllNamed : (T : Tables) → List Row → List Form → Type 0
AllNamed T [] fs = Unit {0}
AllNamed T (w ∷ ws) [] = Unit {0}
AllNamed T (w ∷ ws) (f ∷ fs) = WellNamed (row_print w (printed T f)) × AllNamed T ws fs

rows_named : (T : Tables) (ws : List Row) (fs : List Form) → rows_apart ws ≡ true → OwnWrites T ws fs
    → AllNamed T ws fs → WellNamed (members_for T ws fs)
rows_named T [] fs a o h = (tt, tt)
rows_named T (w ∷ ws) [] a o h = (tt, tt)
rows_named T (w ∷ ws) (f ∷ fs) a o h =
    let p = and_parts (every (apart w) ws) (rows_apart ws) a in
    let r = rows_named T ws fs p.1 o.1 h.1 in
    let mine = row_print w (printed T f) in (
      join_differ mine (members_for T ws fs) h.0.0 r.0
          (each_under
          (λ (e : Entry Tree) (x : takes w e.name ≡ true). others_apart T w e.name ws fs x
          (every_each (apart w) ws p.0) o.1) mine o.0),
      Each-join (λ (e : Entry Tree). well_named e.value ≡ true) mine (members_for T ws fs) h.0.1 r.1,
    )

-- the key of an entry is written as a name of the class, and its value is proper
abbrev Written_as : (T : Tables) → Class → Kind → Pair Form → Type 0
Written_as T c k e = (is_written c e.key ≡ true) × (proper T k e.value ≡ true)

class_differ : (T : Tables) (c : Class) (k : Kind) (es : List (Pair Form)) → Each (Written_as T c k) es → Distinct es
    → Differ (each (entry_of T k) es)
class_differ T c k [] h d = tt
class_differ T c k (e ∷ es) h d = (apart es h.1 d.0, class_differ T c k es h.1 d.1)
  where
    apart : (ds : List (Pair Form)) → Each (Written_as T c k) ds
        → Each (λ (d : Pair Form). same_key e.key d.key ≡ false) ds
        → Each (λ (d : Entry Tree). same_text (text_of_key e.key) d.name ≡ false) (each (entry_of T k) ds)
    apart [] g a = tt
    apart (d ∷ ds) g a = (texts_differ c e.key d.key h.0.0 g.0.0 a.0, apart ds g.1 a.1)

entries_named : (T : Tables) (k : Kind) (es : List (Pair Form)) → sound T k ≡ true
    → Each (λ (e : Pair Form). WritesNamed T e.value) es
    → Each (λ (e : Pair Form). proper T k e.value ≡ true) es → Each (λ (e : Pair Form). distinct e.value ≡ true) es
    → Each (λ (e : Entry Tree). well_named e.value ≡ true) (each (entry_of T k) es)
entries_named T k [] s g h d = tt
entries_named T k (e ∷ es) s g h d = (g.0 k s h.0 d.0, entries_named T k es s g.1 h.1 d.1)

-- what a row of one name writes is well named, if its form is written as a well named node
name_named : (T : Tables) (n : List ℕ) (m : Mode) (k : Kind) (f : Form)
    → (proper T k f ≡ true → well_named (print T k f) ≡ true) → (may_be_absent m f || proper T k f) ≡ true
    → (b : Bool) → WellNamed (cond b [] (one n (print T k f)))
name_named T n m k f g h true = (tt, tt)
name_named T n m k f g h false =
    ((tt, tt), (⊎_elim (absent_named m f) g (or_cases (may_be_absent m f) (proper T k f) h), tt))
  where
    absent_named : (m : Mode) (f : Form) → may_be_absent m f ≡ true → well_named (print T k f) ≡ true
    absent_named optional absent x = refl
    absent_named nullable absent x = refl
    absent_named m f x = cc

row_named : (T : Tables) (w : Row) (f : Form) → row_sound T w ≡ true → Deep (WritesNamed T) f
    → row_proper w (show (face_proper T) f) ≡ true → distinct f ≡ true
    → WellNamed (row_print w (printed T f))
row_named T (row n m k) f s g h d =
    name_named T n m k f (λ x. g.0 k (and_parts (mode_fits m k) (sound T k) s).1 x d) h (is_silent m f)
row_named T (either a j b k) (deciding n f) s g h d =
    let p = and_parts (same_text a n || same_text b n) (proper T (cond (same_text a n) j k) f) h in
    let r = and_parts (sound T j) (sound T k) (and_parts (sound T j && sound T k) (not (same_text a b)) s).0 in
    ((tt, tt), (g.1 (cond (same_text a n) j k) (sound_pick T (same_text a n) j k r.0 r.1) p.1 d, tt))
row_named T (either a j b k) f s g h d = cc
row_named T (class c k) (named es) s g h d =
    let q = of_named es d in
    let p = of_class_entries T c k es h in
    subst (λ l. WellNamed l) (sym (class_prints T c k es)) (
      class_differ T c k (named_list es) p q.0,
      entries_named T k (named_list es) s g.1
          (each_under (λ (e : Pair Form) (x : Written_as T c k e). x.1) (named_list es) p) q.1,
    )
row_named T (class c k) f s g h d = cc
row_named T (constant n v) f s g h d = ((tt, tt), (refl, tt))

all_named : (T : Tables) (ws : List Row) (fs : List Form) → Each (λ w. row_sound T w ≡ true) ws
    → Each (Deep (WritesNamed T)) fs → SlotsProper T ws fs
    → Each (λ f. distinct f ≡ true) fs → AllNamed T ws fs
all_named T [] fs s g h d = tt
all_named T (w ∷ ws) [] s g h d = tt
all_named T (w ∷ ws) (f ∷ fs) s g h d = (row_named T w f s.0 g.0 h.0 d.0, all_named T ws fs s.1 g.1 h.1 d.1)

fields_named : (T : Tables) (W : tables_sound T ≡ true) (c : Choice) (fs : Forms)
    → Each (Deep (WritesNamed T)) (forms_list fs) → (k : Kind) → sound T k ≡ true
    → (choice_proper k c && rows_proper (rows_of T k c) (of_forms (face_proper T) fs)) ≡ true
    → distinct (fields c fs) ≡ true → well_named (print T k (fields c fs)) ≡ true
fields_named T W c fs g k s h d =
    let p = and_parts (choice_proper k c) (rows_proper (rows_of T k c) (of_forms (face_proper T) fs)) h in
    let w = written T W k c (forms_list fs) s p.0
    (subst (λ (l : List Held). rows_proper (rows_of T k c) l ≡ true) (of_forms_lem (face_proper T) fs) p.1) in
    let n = all_named T (rows_of T k c) (forms_list fs) w.sound_rows g w.slots (of_forms_distinct fs d) in
    ap well_named (print-proper T k c fs p.0)
    ∙ to_object (members_for T (rows_of T k c) (forms_list fs))
    (rows_named T (rows_of T k c) (forms_list fs) w.apart_rows w.writes n)

sequence_named : (T : Tables) (k : Kind) (fs : Forms) → sound T k ≡ true → Each (WritesNamed T) (forms_list fs)
    → every (λ (p : Held). p.answer (of_kind k)) (of_forms (face_proper T) fs) ≡ true
    → Each (λ f. distinct f ≡ true) (forms_list fs)
    → Each (λ t. well_named t ≡ true) (each (λ (p : Prints). p.answer k) (of_forms (face_print T) fs))
sequence_named T k no_forms s g h d = tt
sequence_named T k (more f fs) s g h d =
    let p = and_parts (proper T k f) _ h in (g.0 k s p.0 d.0, sequence_named T k fs s g.1 p.1 d.1)

map_proper : (T : Tables) (k : Kind) (es : List (Pair Form))
    → every (λ (e : Pair Held). is_name e.key && e.value.answer (of_kind k))
    (each (on_pair (show (face_proper T))) es) ≡ true
    → Each (λ (e : Pair Form). (is_name e.key ≡ true) × (proper T k e.value ≡ true)) es
map_proper T k [] h = tt
map_proper T k (e ∷ es) h =
    let p = and_parts (is_name e.key && proper T k e.value) _ h in
    (and_parts (is_name e.key) (proper T k e.value) p.0, map_proper T k es p.1)

map_differ : (T : Tables) (k : Kind) (es : List (Pair Form))
    → Each (λ (e : Pair Form). (is_name e.key ≡ true) × (proper T k e.value ≡ true)) es → Distinct es
    → Differ (each (entry_of T k) es)
map_differ T k [] h d = tt
map_differ T k (e ∷ es) h d = (apart es h.1 d.0, map_differ T k es h.1 d.1)
  where
    names_apart : (m n : Key) → is_name m ≡ true → is_name n ≡ true → same_key m n ≡ false
        → same_text (text_of_key m) (text_of_key n) ≡ false
    names_apart (name m) (name n) x y z = z
    names_apart (name m) (coded c) x y z = cc
    names_apart (coded c) n x y z = cc

    apart : (ds : List (Pair Form)) → Each (λ (e : Pair Form). (is_name e.key ≡ true) × (proper T k e.value ≡ true)) ds
        → Each (λ (d : Pair Form). same_key e.key d.key ≡ false) ds
        → Each (λ (d : Entry Tree). same_text (text_of_key e.key) d.name ≡ false) (each (entry_of T k) ds)
    apart [] g a = tt
    apart (d ∷ ds) g a = (names_apart e.key d.key h.0.0 g.0.0 a.0, apart ds g.1 a.1)

map_named : (T : Tables) (k : Kind) (es : Named) → sound T k ≡ true
    → Each (λ (e : Pair Form). WritesNamed T e.value) (named_list es) → proper T (map_of k) (named es) ≡ true
    → distinct (named es) ≡ true → well_named (print T (map_of k) (named es)) ≡ true
map_named T k es s g h d =
    let q = of_named es d in
    let p = map_proper T k (named_list es)
    (subst (λ (l : List (Pair Held)). every (λ (e : Pair Held). is_name e.key && e.value.answer (of_kind k)) l
    ≡ true) (of_named_lem (face_proper T) es) h) in
    let l = each (entry_of T k) (named_list es) in
    subst (λ x. well_named (print T (map_of k) (named x)) ≡ true) (named_of-list es)
    (ap well_named (print-map T k (named_list es))
    ∙ to_object l (
      map_differ T k (named_list es) p q.0,
      entries_named T k (named_list es) s g
          (each_under (λ (e : Pair Form) (x : (is_name e.key ≡ true) × (proper T k e.value ≡ true)). x.1)
          (named_list es) p) q.1,
    ))

step : (T : Tables) (W : tables_sound T ≡ true) (f : Form) → Within (Deep (WritesNamed T)) f → WritesNamed T f
step T W (leaf t) g k s h d = d
step T W (an_item f) g (ref_to k) s h d = g.0 k (and_parts (under_ref T k) (sound T k) s).1 h d
step T W (an_item f) g flag_or_schema s h d = g.0 a_schema refl h d
step T W (sequence fs) g (list_of k) s h d =
    to_list_named (each (λ (p : Prints). p.answer k) (of_forms (face_print T) fs))
    (sequence_named T k fs s (each_under (λ (f : Form) (x : Deep (WritesNamed T) f). x.0) (forms_list fs) g) h
    (of_forms_distinct fs d))
step T W (named es) g (map_of k) s h d =
    map_named T k es s (each_under (λ (e : Pair Form) (x : Deep (WritesNamed T) e.value). x.0) (named_list es) g) h d
step T W (fields c fs) g (by i) s h d = fields_named T W c fs g (by i) s h d
step T W (fields c fs) g (tagged n cs) s h d = fields_named T W c fs g (tagged n cs) s h d
step T W (fields c fs) g a_schema s h d = fields_named T W c fs g a_schema s h d
step T W (fields c fs) g a_schema_kind s h d = fields_named T W c fs g a_schema_kind s h d
step T W f g (null_or any_text) s h d = cc
step T W f g k s h d = cc

-- a form that is proper and distinct is written as a well named node
pub writes_named : (T : Tables) (W : tables_sound T ≡ true) (f : Form) → WritesNamed T f
writes_named T W f = by_deep (WritesNamed T) (step T W) f
