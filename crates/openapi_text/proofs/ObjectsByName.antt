-- The normalized node of an object is `Same` if the object is sorted by name and its values are `Ready`.
use Rattle.std.proofs.Common.{◌≡◌, ℕ, List, [], ◌∷◌, Bool, true, false, cond, Some}
use Rattle.std.proofs.Common.{refl, sym, ap, subst, ◌∙◌, pos, negsuc}
use Rattle.std.proofs.lemmas.Bool.{and_parts}
use Rattle.openapi_node.specs.Named.{members_named}
use Rattle.openapi_node.specs.Tree as tree
use Rattle.openapi_node.specs.Tree.{Tree, object}
use Rattle.openapi_json.specs.Writing.{tree_by_name}
use Rattle.openapi_tables.specs.Prelude.{Kind, Tables, Row, Case, Choice, by, tagged, class}
use Rattle.openapi_tables.specs.Prelude.{constant, either, row, takes, clean, print, own, choice, rows_of, checked_rows, each}
use Rattle.openapi_tables.specs.Prelude.{held, is_silent, name, one, row_print}
use Rattle.openapi_tables.specs.Prelude.{row_sound, rows_apart, slot_of_own, sound, tables_sound, tag_choice}
use Rattle.openapi_tables.specs.Prelude.{Entry, members_of, status_names, extensions, callback_names, every}
use Rattle.openapi_tables.specs.Kind.{path_names, TableName}
use Rattle.openapi_tables.specs.Members.{tag}
use Rattle.openapi_tables.proofs.AllReadProper.{ReadBy}
use Rattle.openapi_tables.proofs.ListLaws.{Each, Each-only, Each_within-only, each_under}
use Rattle.openapi_tables.proofs.PrintLaws.{entry_of, members_for, print-fields, printed}
use Rattle.openapi_tables.proofs.ReadLaws.{form-fields, pair_of, reads, slot_in}
use Rattle.openapi_tables.proofs.ReadProper.{RowReads}
use Rattle.openapi_tables.proofs.RowLaws.{Found, TakesAll, found}
use Rattle.openapi_tables.proofs.again.ObjectsBack.{rows_of_sound, tag_case}
use Rattle.openapi_tables.proofs.again.ReadAgain.{tag_again}
use Rattle.openapi_tables.proofs.again.RowsStay.{writes_own}
use Rattle.openapi_text.proofs.CodesByName.{codes_ascend}
use Rattle.openapi_text.proofs.RowsByName.{AllMade, Ready, class_printed, made_same, row_made}
use Rattle.openapi_text.proofs.SameByName.{RowFine, Same, kind_in, object_same}
use Rattle.openapi_text.proofs.Sorting.{Ascends, Below, ascends_only, held_sorted, inserted}

-- ---- what a row writes is sorted by name
few : (b : Bool) (n : List ℕ) (u : Tree) → Ascends (cond b [] (one n u))
few true n u = tt
few false n u = (tt, tt)

below_named : (T : Tables) (k : Kind) (n : List ℕ) (l : List (Entry Tree)) → Below n l
    → Below n (each (entry_of T k) (each (pair_of T name k) l))
below_named T k n [] b = tt
below_named T k n (e ∷ l) b = (b.0, below_named T k n l b.1)

ascends_named : (T : Tables) (k : Kind) (l : List (Entry Tree)) → Ascends l
    → Ascends (each (entry_of T k) (each (pair_of T name k) l))
ascends_named T k [] o = tt
ascends_named T k (e ∷ l) o = (below_named T k e.name l o.0, ascends_named T k l o.1)

row_ascends : (T : Tables) (w : Row) (l : List (Entry Tree)) → Ascends l → TakesAll w l
    → Ascends (row_print w (printed T (slot_of_own w (reads T l))))
row_ascends T (row n m k) l o t =
    let f = slot_of_own (row n m k) (reads T l) in
    few (is_silent m f) n (print T k f)
row_ascends T (either a j b k) [] o t = tt
row_ascends T (either a j b k) (e ∷ l) o t = (tt, tt)
row_ascends T (class status_names k) l o t = subst Ascends (sym (class_printed T status_names k l)) (codes_ascend T k l o t)
row_ascends T (class extensions k) l o t = subst Ascends (sym (class_printed T extensions k l)) (ascends_named T k l o)
row_ascends T (class callback_names k) l o t = subst Ascends (sym (class_printed T callback_names k l)) (ascends_named T k l o)
row_ascends T (class path_names k) l o t = subst Ascends (sym (class_printed T path_names k l)) (ascends_named T k l o)
row_ascends T (constant n v) l o t = (tt, tt)

-- ---- the members that rows take from what rows write
abbrev pub RowMade : (T : Tables) → List (Entry Tree) → Row → Type 0
RowMade T l w = Ascends (own w l) × AllMade T w (own w l)

abbrev pub AreReady : (T : Tables) → List (Entry Tree) → Type 0
AreReady T es = Each (λ (e : Entry Tree). Ready T e.value) es

pub rows_made : (T : Tables) (l es : List (Entry Tree)) (ws : List Row) → Found T l ws (each (slot_in T es) ws)
    → Each (λ w. row_sound T w ≡ true) ws → Each (λ w. RowReads T (own w es) w) ws → Ascends es → AreReady T es
    → Each (RowMade T l) ws
rows_made T l es [] f s h o d = tt
rows_made T l es (w ∷ ws) f s h o d = (
  subst (λ x. Ascends x × AllMade T w x) (sym f.0) (
    row_ascends T w (own w es) (ascends_only (takes w) es o) (Each-only (λ (e : Entry Tree). takes w e.name) es),
    row_made T w (own w es) s.0
        (Each_within-only (λ (e : Entry Tree). Ready T e.value) (λ (e : Entry Tree). takes w e.name) es d) h.0,
  ),
  rows_made T l es ws f.1 s.1 h.1 o d,
)

all_same : (T : Tables) (w : Row) (l : List (Entry Tree)) → AllMade T w l
    → Each (λ (e : Entry Tree). Same T (kind_in w e.name) e.value) l
all_same T w [] h = tt
all_same T w (e ∷ l) h = (made_same T (kind_in w e.name) e.value h.0, all_same T w l h.1)

pub made_fine : (T : Tables) (l : List (Entry Tree)) (w : Row) → RowMade T l w → RowFine T l w
made_fine T l w h = (h.0, all_same T w (own w l) h.1)

-- the members of the normalized object
abbrev pub written_by : (T : Tables) → Kind → Choice → List (Entry Tree) → List (Entry Tree)
written_by T k c es = members_for T (rows_of T k c) (each (slot_in T es) (rows_of T k c))

pub cleaned_object : (T : Tables) (k : Kind) (c : Choice) (es : List (Entry Tree)) → choice k es ≡ Some c
    → clean T k (object (members_of es)) ≡ object (members_of (written_by T k c es))
cleaned_object T k c es h =
    ap (print T k) (form-fields T k c es h) ∙ print-fields T k c es (each (slot_in T es) (rows_of T k c)) h

pub apart_of : (T : Tables) (W : tables_sound T ≡ true) (k : Kind) (c : Choice) (es : List (Entry Tree))
    → sound T k ≡ true → choice k es ≡ Some c → rows_apart (rows_of T k c) ≡ true
apart_of T W k c es s h =
    (and_parts (rows_apart (rows_of T k c)) (every (row_sound T) (rows_of T k c)) (rows_of_sound T W k c es s h)).0

pub found_of : (T : Tables) (W : tables_sound T ≡ true) (k : Kind) (c : Choice) (es : List (Entry Tree))
    → sound T k ≡ true → choice k es ≡ Some c
    → Found T (written_by T k c es) (rows_of T k c) (each (slot_in T es) (rows_of T k c))
found_of T W k c es s h =
    found T (rows_of T k c) (each (slot_in T es) (rows_of T k c)) (apart_of T W k c es s h) (writes_own T (rows_of T k c) es)

-- ---- objects by a table, and by a tag
tag_same : (cs : List Case) (v : Tree) → tag_choice cs (tree_by_name v) ≡ tag_choice cs v
tag_same cs (tree.whole (pos n)) = refl
tag_same cs (tree.whole (negsuc n)) = refl
tag_same cs v = refl

tag_kept : (T : Tables) (n : List ℕ) (cs : List Case) (t : Tree) (c : Choice) (es : List (Entry Tree)) → tag_choice cs t ≡ Some c
    → rows_apart (rows_of T (tagged n cs) c) ≡ true
    → choice (tagged n cs) (written_by T (tagged n cs) c es) ≡ Some c
tag_kept T n cs t c es h a =
    let g = tag_case cs t c h in
    subst (λ d. rows_apart (rows_of T (tagged n cs) d) ≡ true
    → choice (tagged n cs) (written_by T (tagged n cs) d es) ≡ Some d) (sym g.1)
    (λ b. tag_again T n cs g.0 (each (slot_in T es) (rows_of T (tagged n cs) (tag g.0))) g.2 b
    (writes_own T (rows_of T (tagged n cs) (tag g.0)) es)) a

table_rows : (T : Tables) (i : TableName) (c : Choice) → checked_rows T (by i) c ≡ rows_of T (by i) c
unfolding rows_of checked_rows
table_rows T i c = refl

tagged_rows : (T : Tables) (n : List ℕ) (cs : List Case) (c : Choice) → checked_rows T (tagged n cs) c ≡ rows_of T (tagged n cs) c
unfolding rows_of checked_rows
tagged_rows T n cs (tag s) = refl
tagged_rows T n cs c = refl

module _ (T : Tables) (W : tables_sound T ≡ true) (k : Kind) (es : List (Entry Tree)) (s : sound T k ≡ true) (r : ReadBy T k es)
    (o : Ascends es) (d : AreReady T es) where
  abbrev l : List (Entry Tree)
  l = written_by T k r.by_choice es

  pub made_of_rows : Each (RowMade T l) (rows_of T k r.by_choice)
  made_of_rows =
      rows_made T l es (rows_of T k r.by_choice) (found_of T W k r.by_choice es s r.chosen) r.sound_rows r.reads o d

  by_rows : choice k l ≡ Some r.by_choice → choice k (inserted l []) ≡ Some r.by_choice
      → checked_rows T k r.by_choice ≡ rows_of T k r.by_choice → Same T k (clean T k (object (members_of es)))
  by_rows h g q =
      let fine = each_under (made_fine T l) (rows_of T k r.by_choice) made_of_rows in
      subst (Same T k) (sym (cleaned_object T k r.by_choice es r.chosen))
      (object_same T k r.by_choice l h g fine (subst (Each (RowFine T l)) (sym q) fine))

pub table_same : (T : Tables) (W : tables_sound T ≡ true) (i : TableName) (es : List (Entry Tree)) (s : sound T (by i) ≡ true)
    → (r : ReadBy T (by i) es) → Ascends es → AreReady T es → Same T (by i) (clean T (by i) (object (members_of es)))
table_same T W i es s r o d = by_rows T W (by i) es s r o d r.chosen r.chosen (table_rows T i r.by_choice)

pub tagged_same : (T : Tables) (W : tables_sound T ≡ true) (n : List ℕ) (cs : List Case) (es : List (Entry Tree))
    (s : sound T (tagged n cs) ≡ true) → (r : ReadBy T (tagged n cs) es) → Ascends es → AreReady T es
    → members_named (members_of (written_by T (tagged n cs) r.by_choice es)) ≡ true
    → Same T (tagged n cs) (clean T (tagged n cs) (object (members_of es)))
tagged_same T W n cs es s r o d named =
    let l = written_by T (tagged n cs) r.by_choice es in
    let again = tag_kept T n cs (held n es) r.by_choice es r.chosen (apart_of T W (tagged n cs) r.by_choice es s r.chosen) in
    by_rows T W (tagged n cs) es s r o d again
    (ap (tag_choice cs) (held_sorted n l named) ∙ tag_same cs (held n l) ∙ again) (tagged_rows T n cs r.by_choice)
