-- Normalizing keeps the order of maps, of lists and of the members of a class, and normalizes each member that is read
-- and written by the kind of its row.
use Rattle.std.proofs.Common.{true, cond, List, [], ◌∷◌, None, ◌≡◌, refl, inl, inr, sym, ap, ◌∙◌, subst, true≢false}
use Rattle.std.proofs.Common.{codes}
use Rattle.std.proofs.lemmas.Bool.{and_parts}
use Rattle.openapi_tables.specs.Prelude.{each, every, members_of, Entry, on_entry, Kind, list_of, map_of, Class, Row, class}
use Rattle.openapi_tables.specs.Prelude.{extensions, callback_names, status_names, Tables, Choice, rows_of, row}
use Rattle.openapi_tables.specs.Prelude.{own, Form, named, named_of, name, members_in, row_print, print, either, held}
use Rattle.openapi_tables.specs.Prelude.{clean, form, row_sound, rows_apart, default_of, slot_of_own, ref_to, text_in}
use Rattle.openapi_tables.specs.Prelude.{flag_or_schema, a_schema}
use Rattle.openapi_tables.specs.Kind.{path_names}
use Rattle.openapi_tables.specs.Laws.{Among, keeps_names, IsRowOf, cleaned_by, ItemsKept, ClassesKept, NamesKept}
use Rattle.openapi_tables.specs.Laws.{DecidersKept}
use Rattle.openapi_node.specs.Tree.{Tree, list, object, items_of}
use Rattle.openapi_tables.proofs.ListLaws.{each-each}
use Rattle.openapi_tables.proofs.PrintLaws.{entry_of, members_for, print-fields, print-list, print-map, printed}
use Rattle.openapi_tables.proofs.PrintLaws.{print-flag_or_schema}
use Rattle.openapi_tables.proofs.ReadLaws.{class_form-reads, form-fields, form-list, form-map, pair_of, slot_in, reads}
use Rattle.openapi_tables.proofs.ReadLaws.{form-item}
use Rattle.openapi_tables.proofs.RowLaws.{Found, found}
use Rattle.openapi_tables.proofs.Taken.{ref_text}
use Rattle.openapi_tables.proofs.TreeLaws.{members_list-of}
use Rattle.openapi_tables.proofs.again.ObjectsBack.{rows_of_sound}
use Rattle.openapi_tables.proofs.again.RowsStay.{writes_own}

pub map_cleaned : (T : Tables) (k : Kind) (es : List (Entry Tree))
    → clean T (map_of k) (object (members_of es)) ≡ object (members_of (each (on_entry (clean T k)) es))
map_cleaned T k es =
    ap (print T (map_of k)) (form-map T k es) ∙ print-map T k (each (pair_of T name k) es)
    ∙ ap (λ l. object (members_of l)) (each-each (entry_of T k) (pair_of T name k) es)

pub list_cleaned : (T : Tables) (k : Kind) (ts : List Tree)
    → clean T (list_of k) (list (items_of ts)) ≡ list (items_of (each (clean T k) ts))
list_cleaned T k ts =
    ap (print T (list_of k)) (form-list T k ts) ∙ print-list T k (each (form T k) ts)
    ∙ ap (λ l. list (items_of l)) (each-each (print T k) (form T k) ts)

-- an object has no text of a reference, if its list of members has no string at `$ref`
as_members : (es : List (Entry Tree)) → text_in (held (codes "$ref") es) ≡ None
    → ref_text (object (members_of es)) ≡ None
as_members es h = ap (λ l. text_in (held (codes "$ref") l)) (members_list-of es) ∙ h

-- one of the rows takes from the members that all of them write those that it writes itself
one_found : (T : Tables) (l es : List (Entry Tree)) (ws : List Row) (w : Row) → Found T l ws (each (slot_in T es) ws)
    → Among w ws → own w l ≡ row_print w (printed T (slot_in T es w))
one_found T l es [] w f a = absurd a
one_found T l es (v ∷ ws) w f (inl is) =
    subst (λ x. own x l ≡ row_print x (printed T (slot_in T es x))) (sym is) f.0
one_found T l es (v ∷ ws) w f (inr a) = one_found T l es ws w f.1 a

class_kept : (T : Tables) (n : Class) (j : Kind) (os : List (Entry Tree)) (f : Form)
    → f ≡ named (named_of (each (pair_of T name j) os))
    → row_print (class n j) (printed T f) ≡ each (on_entry (clean T j)) os
class_kept T n j os f is =
    ap (λ g. row_print (class n j) (printed T g)) is ∙ ap members_in (print-map T j (each (pair_of T name j) os))
    ∙ members_list-of (each (entry_of T j) (each (pair_of T name j) os)) ∙ each-each (entry_of T j) (pair_of T name j) os

-- the members that a class whose names are kept writes are those that it takes, each normalized
class_cleaned : (T : Tables) (n : Class) (j : Kind) (es : List (Entry Tree)) → keeps_names n ≡ true
    → row_print (class n j) (printed T (slot_in T es (class n j))) ≡ each (on_entry (clean T j)) (own (class n j) es)
class_cleaned T extensions j es h = class_kept T extensions j _ _ (class_form-reads T extensions j (own (class extensions j) es))
class_cleaned T callback_names j es h = class_kept T callback_names j _ _ (class_form-reads T callback_names j (own (class callback_names j) es))
class_cleaned T path_names j es h = class_kept T path_names j _ _ (class_form-reads T path_names j (own (class path_names j) es))
class_cleaned T status_names j es h = absurd (true≢false (sym h))

-- the members of the normalized object that a row takes are those that it writes for what it reads
written_by : (T : Tables) (k : Kind) (c : Choice) (es : List (Entry Tree)) (w : Row) → IsRowOf T k c es w
    → cleaned_by T k w es ≡ row_print w (printed T (slot_in T es w))
written_by T k c es w (W, s, h, a) =
    let ws = rows_of T k c in
    let fs = each (slot_in T es) ws in
    let apart = and_parts (rows_apart ws) (every (row_sound T) ws) (rows_of_sound T W k c es s h) in
    ap (λ t. own w (members_in t)) (ap (print T k) (form-fields T k c es h) ∙ print-fields T k c es fs h)
    ∙ ap (own w) (members_list-of (members_for T ws fs))
    ∙ one_found T (members_for T ws fs) es ws w (found T ws fs apart.0 (writes_own T ws es)) a

pub classes_kept : ClassesKept
classes_kept T k c es n j is keeps = written_by T k c es (class n j) is ∙ class_cleaned T n j es keeps

pub names_kept : NamesKept
names_kept T k c es n m j e others is h there =
    written_by T k c es (row n m j) is
    ∙ ap (λ l. row_print (row n m j) (printed T (slot_of_own (row n m j) (reads T l)))) h
    ∙ ap (λ b. row_print (row n m j) (printed T (cond b (default_of m j) (form T j e.value)))) there

pub deciders_kept : DecidersKept
deciders_kept T k c es a b i j e others is h =
    written_by T k c es (either a i b j) is
    ∙ ap (λ l. row_print (either a i b j) (printed T (slot_of_own (either a i b j) (reads T l)))) h

pub items_kept : ItemsKept
items_kept T (ref_to k) es h =
    ap (print T (ref_to k)) (form-item T k (object (members_of es)) (as_members es h)) ∙ items_kept T k es h
items_kept T flag_or_schema es h =
    print-flag_or_schema T (form T flag_or_schema (object (members_of es)))
    ∙ ap (print T (ref_to a_schema)) (form-item T a_schema (object (members_of es)) (as_members es h))
items_kept T k es h = refl
