-- A proper form that is written and read again stays: for schemas.
use Rattle.std.proofs.Common.{true, false, List, [], ◌∷◌, Some, ◌≡◌, refl, sym, ap, ◌∙◌, subst}
use Rattle.std.proofs.lemmas.Bool.{and_parts, and_from, both_ways}
use Rattle.openapi_tables.specs.Prelude.{Kind, Tables, Row, a_schema, a_schema_kind, choice, schema_data, row_holds, Form, Pair}
use Rattle.openapi_tables.specs.Prelude.{an_item, deciding, fields, forms_list, named, named_list, sequence, each}
use Rattle.openapi_tables.specs.Prelude.{every, join, Choice, Sort, any_sort, own, rows_of, sort, sort_of, sort_rows}
use Rattle.openapi_tables.specs.Prelude.{members_in, form, names_fit, row_sound, rows_apart, tables_sound, choice_stays}
use Rattle.openapi_tables.specs.Prelude.{face_stays, is_any, row_stays, rows_stay, stays, any_rows, Entry, members_of}
use Rattle.openapi_tables.proofs.Alike.{any_again}
use Rattle.openapi_tables.proofs.again.RowsSettle.{Calm, StayAll, all_deep_ok, deep_ok, deep_rows, from_stay_all, rows_calm}
use Rattle.openapi_tables.proofs.FaultLaws.{judged}
use Rattle.openapi_tables.proofs.FormLaws.{Deep, Within, by_forms, show}
use Rattle.openapi_tables.proofs.ListLaws.{Each, Each-join, each_all, every_each, every_from}
use Rattle.openapi_tables.proofs.again.ObjectsBack.{sort_sound, stays-fields}
use Rattle.openapi_tables.proofs.PrintLaws.{members_for, print-fields}
use Rattle.openapi_tables.proofs.again.ReadAgain.{names_of_data, names_of_none, sort_in}
use Rattle.openapi_tables.proofs.ReadLaws.{form-fields, slot_in}
use Rattle.openapi_tables.proofs.RowLaws.{Found, OwnWrites}
use Rattle.openapi_tables.proofs.RowWrites.{SlotsProper, Writes, row_holds_own, rows_write}
use Rattle.openapi_tables.proofs.SortHolds.{AllHold, all_hold, sort_holds}
use Rattle.openapi_tables.proofs.KindsHold.{others_written}
use Rattle.openapi_tables.proofs.SortLaws.{Each_behind}
use Rattle.openapi_tables.proofs.TreeLaws.{members_list-of}
use Rattle.openapi_tables.proofs.Writes.{Written, writes_all}
use Rattle.openapi_node.specs.Tree.{Tree, object}

pub all_deep : (P : Form → Type 0) → ((f : Form) → P f) → (fs : List Form) → Each (Deep P) fs
all_deep P h fs = each_all (λ f. by_forms (Deep P) (λ g w. (h g, deep_within P h g)) f) fs
  where
    deep_within : (P : Form → Type 0) → ((f : Form) → P f) → (g : Form) → Within P g
    deep_within P h (an_item f) = h f
    deep_within P h (sequence fs) = each_all h (forms_list fs)
    deep_within P h (named es) = each_all (λ (e : Pair Form). h e.value) (named_list es)
    deep_within P h (deciding n f) = h f
    deep_within P h (fields c fs) = each_all h (forms_list fs)
    deep_within P h g = tt

-- the forms for which rows after other rows write. They are calm (`Calm`) and proper, and the rows find what they write
pub record Behind (T : Tables) (l : List (Entry Tree)) (ws : List Row) : Type 0 where
  pub forms : List Form
  pub calm : Each (Deep (Calm T)) forms
  pub slots : SlotsProper T ws forms
  pub finds : Found T l ws forms

pub rows_behind : (T : Tables) (l : List (Entry Tree)) (pre ws : List Row) (fs : List Form) → Each (Deep (Calm T)) fs
    → SlotsProper T (join pre ws) fs → Found T l (join pre ws) fs → Behind T l ws
rows_behind T l [] ws fs g h o = record { forms = fs; calm = g; slots = h; finds = o }
rows_behind T l (w ∷ pre) ws [] g h o = absurd h
rows_behind T l (w ∷ pre) ws (f ∷ fs) g h o = rows_behind T l pre ws fs g.1 h.1 o.1

-- what holds for each element of a concatenation holds for each element of the first list
pub front : {A : Type 0} → (P : A → Type 0) (xs ys : List A) → Each P (join xs ys) → Each P xs
front P [] ys h = tt
front P (x ∷ xs) ys h = (h.0, front P xs ys h.1)

-- the slots that are read by the sort of the members `l` stay. If that sort is `any_sort`, they are written as members
-- of `any_sort`
abbrev pub Kept : (T : Tables) → List Row → List (Entry Tree) → Type 0
Kept T pre l = StayAll T l (join pre (sort_rows (sort_of l)))
    × (is_any (sort_of l) ≡ true
    → is_any
    (sort_of
    (members_for T (join pre (sort_rows any_sort)) (each (slot_in T l) (join pre (sort_rows any_sort))))) ≡ true)

-- what is known about the rows of a schema, and about the forms that they write
abbrev pub Fits : (T : Tables) → List Row → Sort → List Form → Type 0
Fits T pre s fs = (names_fit pre s ≡ true) × (rows_apart (join pre (sort_rows s)) ≡ true)
    × Each (λ w. row_sound T w ≡ true) (join pre (sort_rows s))
    × SlotsProper T (join pre (sort_rows s)) fs × OwnWrites T (join pre (sort_rows s)) fs
    × Found T (members_for T (join pre (sort_rows s)) fs) (join pre (sort_rows s)) fs

pub typed_kept : (T : Tables) (W : tables_sound T ≡ true) (pre : List Row) (s : Sort) (fs : List Form)
    → is_any s ≡ false
    → Each (Deep (Calm T)) fs → Fits T pre s fs → Kept T pre (members_for T (join pre (sort_rows s)) fs)
typed_kept T W pre s fs a g f = (
  subst (λ x. StayAll T l (join pre (sort_rows x))) (sym same)
      (rows_calm T l (join pre (sort_rows s)) fs f.2 g f.3 f.5),
  λ x. absurd (both_ways (is_any s) a (ap is_any (sym same) ∙ x)),
)
  where
    l : List (Entry Tree)
    l = members_for T (join pre (sort_rows s)) fs

    holds : AllHold T l (join pre (sort_rows s))
    holds = all_hold T l (join pre (sort_rows s))
        (every_from (row_holds (judged T l)) (join pre (sort_rows s))
        (rows_write T l (join pre (sort_rows s)) fs f.2 (all_deep (Writes T) (writes_all T W) fs) f.3 f.5))

    same : sort_of l ≡ s
    same = sort_holds T s l a
        (Each_behind (λ w. row_holds_own w (judged T (own w l)) ≡ true) pre (sort_rows s) holds)
        (others_written T pre s fs f.0 f.4)

pub any_kept_too : (T : Tables) (W : tables_sound T ≡ true) (pre : List Row) (fs : List Form) → Each (Deep (Calm T)) fs
    → Fits T pre any_sort fs → Kept T pre (members_for T (join pre (sort_rows any_sort)) fs)
unfolding sort_rows
any_kept_too T W pre fs g f = (
  Each-join (λ w. row_stays w (show (face_stays T) (slot_in T l w)) ≡ true) pre (sort_rows s)
      (front (λ w. row_stays w (show (face_stays T) (slot_in T l w)) ≡ true) pre any_rows
      (rows_calm T l (join pre any_rows) fs f.2 g f.3 f.5))
      (deep_rows T l b.forms (sort_rows s) (sort_in (λ x. every deep_ok (sort_rows x)) all_deep_ok s)
      (every_each (row_sound T) (sort_rows s)
      (and_parts (rows_apart (sort_rows s)) (every (row_sound T) (sort_rows s)) (sort_sound T W s)).1) b.calm
      b.slots b.finds),
  λ x. ap is_any
      (any_again T pre b.forms l f.1 (Each_behind (λ w. row_sound T w ≡ true) pre any_rows f.2) b.slots b.finds) ∙ x,
)
  where
    l : List (Entry Tree)
    l = members_for T (join pre (sort_rows any_sort)) fs

    s : Sort
    s = sort_of (members_for T (join pre (sort_rows any_sort)) fs)

    b : Behind T (members_for T (join pre (sort_rows any_sort)) fs) any_rows
    b = rows_behind T l pre any_rows fs g f.3 f.5

pub kept : (T : Tables) (W : tables_sound T ≡ true) (pre : List Row) (s : Sort) (fs : List Form)
    → Each (Deep (Calm T)) fs → Fits T pre s fs → Kept T pre (members_for T (join pre (sort_rows s)) fs)
kept T W pre any_sort fs g f = any_kept_too T W pre fs g f
kept T W pre s fs g f = typed_kept T W pre s fs refl g f

-- the form that is read by the sort of members stays if its slots do, and members of `any_sort` are written as members
-- of `any_sort`
sort_calm : (T : Tables) (k : Kind) (l : List (Entry Tree)) → choice k l ≡ Some (sort (sort_of l))
    → StayAll T l (rows_of T k (sort (sort_of l)))
    → (is_any (sort_of l) ≡ true
    → is_any
    (sort_of (members_for T (rows_of T k (sort any_sort)) (each (slot_in T l) (rows_of T k (sort any_sort))))) ≡ true)
    → stays T k (form T k (object (members_of l))) ≡ true
sort_calm T k l e g h =
    let c : Choice = sort (sort_of l) in
    let fs : List Form = each (slot_in T l) (rows_of T k c) in
    ap (stays T k) (form-fields T k c l e) ∙ stays-fields T k c l fs e
    ∙ and_from (choice_stays T k c fs) (rows_stay (rows_of T k c) (each (show (face_stays T)) fs)) (kept_any (sort_of l) e h)
    (from_stay_all T l (rows_of T k c) g)
  where
    written : List (Entry Tree)
    written = members_for T (rows_of T k (sort any_sort)) (each (slot_in T l) (rows_of T k (sort any_sort)))

    kept_any : (s : Sort) → choice k l ≡ Some (sort s) → (is_any s ≡ true → is_any (sort_of written) ≡ true)
        → choice_stays T k (sort s) (each (slot_in T l) (rows_of T k (sort s))) ≡ true
    kept_any any_sort e h =
        ap (λ x. is_any (sort_of x))
        (ap members_in (print-fields T k (sort any_sort) l (each (slot_in T l) (rows_of T k (sort any_sort))) e)
        ∙ members_list-of written) ∙ h refl
    kept_any s e h = refl

pub schema_calm : (T : Tables) (l : List (Entry Tree)) → Kept T (T schema_data) l
    → stays T a_schema (form T a_schema (object (members_of l))) ≡ true
unfolding rows_of
schema_calm T l h = sort_calm T a_schema l refl h.0 h.1

-- the form that is read from what a proper form of `a_schema` is written as stays, if the forms in its slots are calm
-- (`Calm`)
pub schema_form_calm : (T : Tables) (W : tables_sound T ≡ true) (s : Sort) (fs : List Form)
    → Written T a_schema (sort s) fs → Each (Deep (Calm T)) fs
    → stays T a_schema (form T a_schema (object (members_of (members_for T (rows_of T a_schema (sort s)) fs)))) ≡ true
unfolding rows_of
schema_form_calm T W s fs w g = schema_calm T (members_for T (rows_of T a_schema (sort s)) fs)
    (kept T W (T schema_data) s fs g (names_of_data T W s, w.apart_rows, w.sound_rows, w.slots, w.writes, w.finds))

pub kind_calm : (T : Tables) (l : List (Entry Tree)) → Kept T [] l
    → stays T a_schema_kind (form T a_schema_kind (object (members_of l))) ≡ true
unfolding rows_of
kind_calm T l h = sort_calm T a_schema_kind l refl h.0 h.1

-- the form that is read from what a proper form of `a_schema_kind` is written as stays, if the forms in its slots are
-- calm
pub kind_form_calm : (T : Tables) (W : tables_sound T ≡ true) (s : Sort) (fs : List Form)
    → Written T a_schema_kind (sort s) fs → Each (Deep (Calm T)) fs
    → stays T a_schema_kind
    (form T a_schema_kind (object (members_of (members_for T (rows_of T a_schema_kind (sort s)) fs)))) ≡ true
unfolding rows_of
kind_form_calm T W s fs w g = kind_calm T (members_for T (rows_of T a_schema_kind (sort s)) fs)
    (kept T W [] s fs g (names_of_none s, w.apart_rows, w.sound_rows, w.slots, w.writes, w.finds))
