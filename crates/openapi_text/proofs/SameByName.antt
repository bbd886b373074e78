-- What is read from an object after sorting by name, if the members that each row takes were sorted before.
use Rattle.std.proofs.Common.{◌≡◌, ℕ, ◌≤◌, pos, negsuc, List, [], ◌∷◌, Bool, cond, ◌&&◌, ◌||◌, Some}
use Rattle.std.proofs.Common.{refl, sym, ap, ◌∙◌, arith}
use Rattle.openapi_node.specs.Tree as tree
use Rattle.openapi_node.specs.Tree.{Tree, object}
use Rattle.openapi_json.specs.Writing.{nesting, tree_by_name}
use Rattle.openapi_json.proofs.Numbers.{whole_tree}
use Rattle.openapi_tables.specs.Prelude.{Kind, Tables, Row, Choice, any_text, by, tagged, a_schema, a_schema_kind, class}
use Rattle.openapi_tables.specs.Prelude.{constant, either, row, takes, conforms, form, own, is_null, choice, rows_of}
use Rattle.openapi_tables.specs.Prelude.{checked_rows, chosen_holds, row_holds, skips_null, root_conforms, fields, forms_of, deciding}
use Rattle.openapi_tables.specs.Prelude.{default_of, gather, Key, key_in, named, named_of, slot_of_own, each, every}
use Rattle.openapi_tables.specs.Prelude.{same_text, Entry, Seen, on_entry, members_of}
use Rattle.openapi_tables.specs.Conforms.{is_text}
use Rattle.openapi_tables.proofs.FaultLaws.{judged, own_judged}
use Rattle.openapi_tables.proofs.ListLaws.{Each, each_same, each_under, every_same}
use Rattle.openapi_tables.proofs.ReadLaws.{class_form-reads, form-fields, pair_of, reads, slot_in}
use Rattle.openapi_tables.proofs.RowWrites.{row_holds_lem, row_holds_own}
use Rattle.openapi_tables.proofs.Writes.{object_conforms}
use Rattle.openapi_text.proofs.Sorting.{Ascends, inserted, passing_sorted, sorted_object}

-- ---- nodes sorted by name
pub flat_fixed : (v : Tree) → nesting v ≤ 0 → tree_by_name v ≡ v
flat_fixed tree.null h = refl
flat_fixed (tree.flag b) h = refl
flat_fixed (tree.whole z) h = whole_tree z
flat_fixed (tree.text s) h = refl
flat_fixed (tree.list ts) h = absurd (omega (arith, h))
flat_fixed (tree.object ms) h = absurd (omega (arith, h))

pub null_same : (v : Tree) → is_null (tree_by_name v) ≡ is_null v
null_same (tree.whole (pos n)) = refl
null_same (tree.whole (negsuc n)) = refl
null_same v = refl

text_same : (u : List ℕ) (v : Tree) → is_text u (tree_by_name v) ≡ is_text u v
text_same u (tree.whole (pos n)) = refl
text_same u (tree.whole (negsuc n)) = refl
text_same u v = refl

-- after sorting by name, the same form is read from the node, and it conforms if and only if it did
abbrev pub Same : (T : Tables) → Kind → Tree → Type 0
Same T k v = (form T k (tree_by_name v) ≡ form T k v) × (conforms T k (tree_by_name v) ≡ conforms T k v)

pub fixed_same : (T : Tables) (k : Kind) (v : Tree) → tree_by_name v ≡ v → Same T k v
fixed_same T k v e = (ap (form T k) e, ap (conforms T k) e)

-- the kind that a row requires of the member of a name
abbrev pub kind_in : Row → List ℕ → Kind
kind_in (row n m k) x = k
kind_in (either a j b k) x = cond (same_text a x) j k
kind_in (class c k) x = k
kind_in (constant n v) x = any_text

abbrev pub AllSame : (T : Tables) → Row → List (Entry Tree) → Type 0
AllSame T w l = Each (λ (e : Entry Tree). Same T (kind_in w e.name) e.value) l

-- ---- what a row reads, and whether it conforms
pub pairs_same : (T : Tables) (g : List ℕ → Key) (k : Kind) (l : List (Entry Tree)) → Each (λ (e : Entry Tree). Same T k e.value) l
    → each (pair_of T g k) (each (on_entry tree_by_name) l) ≡ each (pair_of T g k) l
pairs_same T g k [] h = refl
pairs_same T g k (e ∷ l) h =
    λ i. record { key = g e.name; value = h.0.0 i } ∷ pairs_same T g k l h.1 i

slot_same : (T : Tables) (w : Row) (l : List (Entry Tree)) → AllSame T w l
    → slot_of_own w (reads T (each (on_entry tree_by_name) l)) ≡ slot_of_own w (reads T l)
slot_same T (row n m k) [] h = refl
slot_same T (row n m k) (e ∷ l) h = λ i. cond (null_same e.value i) (default_of m k) (h.0.0 i)
slot_same T (either a j b k) [] h = refl
slot_same T (either a j b k) (e ∷ l) h = ap (deciding e.name) h.0.0
slot_same T (class c k) l h =
    class_form-reads T c k (each (on_entry tree_by_name) l)
    ∙ ap (λ m. named (named_of (gather c m))) (pairs_same T (key_in c) k l h) ∙ sym (class_form-reads T c k l)
slot_same T (constant n v) l h = refl

pub every_holds : (T : Tables) (k : Kind) (l : List (Entry Tree)) → Each (λ (e : Entry Tree). Same T k e.value) l
    → every (λ (e : Entry (Seen (Kind → Bool))). e.value.answer k) (judged T (each (on_entry tree_by_name) l))
    ≡ every (λ (e : Entry (Seen (Kind → Bool))). e.value.answer k) (judged T l)
every_holds T k [] h = refl
every_holds T k (e ∷ l) h = λ i. h.0.1 i && every_holds T k l h.1 i

holds_same : (T : Tables) (w : Row) (l : List (Entry Tree)) → AllSame T w l
    → row_holds_own w (judged T (each (on_entry tree_by_name) l)) ≡ row_holds_own w (judged T l)
holds_same T (row n m k) [] h = refl
holds_same T (row n m k) (e ∷ l) h = λ i. skips_null m && null_same e.value i || h.0.1 i
holds_same T (either a j b k) [] h = refl
holds_same T (either a j b k) (e ∷ l) h = h.0.1
holds_same T (class c k) l h = every_holds T k l h
holds_same T (constant n v) [] h = refl
holds_same T (constant n v) (e ∷ l) h = text_same v e.value

-- ---- objects
-- the members that a row takes are sorted by name, and each is `Same`
abbrev pub RowFine : (T : Tables) → List (Entry Tree) → Row → Type 0
RowFine T l w = Ascends (own w l) × AllSame T w (own w l)

own_sorted : (T : Tables) (w : Row) (l : List (Entry Tree)) → RowFine T l w
    → own w (inserted l []) ≡ each (on_entry tree_by_name) (own w l)
own_sorted T w l h = passing_sorted (takes w) l h.0

slots_same : (T : Tables) (l : List (Entry Tree)) (w : Row) → RowFine T l w → slot_in T (inserted l []) w ≡ slot_in T l w
slots_same T l w h = ap (λ x. slot_of_own w (reads T x)) (own_sorted T w l h) ∙ slot_same T w (own w l) h.1

rows_hold_same : (T : Tables) (l : List (Entry Tree)) (w : Row) → RowFine T l w
    → row_holds (judged T (inserted l [])) w ≡ row_holds (judged T l) w
rows_hold_same T l w h =
    row_holds_lem w (judged T (inserted l []))
    ∙ ap (row_holds_own w) (own_judged (root_conforms T) w (inserted l []) ∙ ap (judged T) (own_sorted T w l h))
    ∙ holds_same T w (own w l) h.1
    ∙ sym (row_holds_lem w (judged T l) ∙ ap (row_holds_own w) (own_judged (root_conforms T) w l))

conforms_object : (T : Tables) (k : Kind) (c : Choice) (es : List (Entry Tree)) → choice k es ≡ Some c
    → conforms T k (object (members_of es)) ≡ every (row_holds (judged T es)) (checked_rows T k c)
conforms_object T (by i) c es h = object_conforms T (by i) es ∙ ap (chosen_holds T (by i) (judged T es)) h
conforms_object T (tagged n cs) c es h =
    object_conforms T (tagged n cs) es ∙ ap (chosen_holds T (tagged n cs) (judged T es)) h
conforms_object T a_schema c es h = object_conforms T a_schema es ∙ ap (chosen_holds T a_schema (judged T es)) h
conforms_object T a_schema_kind c es h =
    object_conforms T a_schema_kind es ∙ ap (chosen_holds T a_schema_kind (judged T es)) h
conforms_object T k c es h = cc

-- an object is `Same` if sorting does not change its choice, and `RowFine` holds for all its rows
pub object_same : (T : Tables) (k : Kind) (c : Choice) (l : List (Entry Tree)) → choice k l ≡ Some c
    → choice k (inserted l []) ≡ Some c → Each (RowFine T l) (rows_of T k c) → Each (RowFine T l) (checked_rows T k c)
    → Same T k (object (members_of l))
object_same T k c l h g r q =
    let is = sorted_object l in (
      ap (form T k) is ∙ form-fields T k c (inserted l []) g
          ∙ ap (λ fs. fields c (forms_of fs)) (each_same (slot_in T (inserted l [])) (slot_in T l) (rows_of T k c)
          (each_under (slots_same T l) (rows_of T k c) r))
          ∙ sym (form-fields T k c l h),
      ap (conforms T k) is ∙ conforms_object T k c (inserted l []) g
          ∙ every_same (row_holds (judged T (inserted l []))) (row_holds (judged T l)) (checked_rows T k c)
          (each_under (rows_hold_same T l) (checked_rows T k c) q)
          ∙ sym (conforms_object T k c l h),
    )
