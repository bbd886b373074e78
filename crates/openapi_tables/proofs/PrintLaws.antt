-- The nodes that forms made from lists of forms are written as.
use Rattle.std.proofs.Common.{List, [], ◌∷◌, Some, ◌≡◌, refl, ap, ◌∙◌}
use Rattle.openapi_tables.specs.Prelude.{each, members_of, Entry, Kind, null_or, list_of, map_of, by, tagged, ref_to}
use Rattle.openapi_tables.specs.Prelude.{flag_or_schema, a_schema, a_schema_kind, Row, Tables, Choice, choice, rows_of}
use Rattle.openapi_tables.specs.Prelude.{Form, sequence, named, deciding, fields, forms_of, named_of, Pair, Prints}
use Rattle.openapi_tables.specs.Prelude.{text_of_key, rows_print, pair_prints, face_print, print}
use Rattle.openapi_node.specs.Tree.{Tree, list, object, items_of}
use Rattle.openapi_tables.proofs.ListLaws.{each-each}
use Rattle.openapi_tables.proofs.FormLaws.{on_pair, show, of_forms-of, of_named-of}

-- a form, with the node that it is written as under each kind
abbrev pub printed : (T : Tables) → Form → Prints
printed T f = show (face_print T) f

-- the member that an entry of a map or class is written as
abbrev pub entry_of : (T : Tables) → Kind → Pair Form → Entry Tree
entry_of T k e = record { name = text_of_key e.key; value = print T k e.value }

-- a sequence is written as the list of the nodes that its forms are written as
pub print-list : (T : Tables) (k : Kind) (fs : List Form)
    → print T (list_of k) (sequence (forms_of fs)) ≡ list (items_of (each (print T k) fs))
print-list T k fs =
    ap (λ l. list (items_of (each (λ (p : Prints). p.answer k) l))) (of_forms-of (face_print T) fs)
    ∙ ap (λ l. list (items_of l)) (each-each (λ (p : Prints). p.answer k) (printed T) fs)

pair_prints-printed : (T : Tables) (k : Kind) (es : List (Pair Form))
    → pair_prints k (each (on_pair (printed T)) es) ≡ each (entry_of T k) es
pair_prints-printed T k [] = refl
pair_prints-printed T k (e ∷ es) = ap (λ l. entry_of T k e ∷ l) (pair_prints-printed T k es)

-- a map is written as the object of the members that its entries are written as
pub print-map : (T : Tables) (k : Kind) (es : List (Pair Form))
    → print T (map_of k) (named (named_of es)) ≡ object (members_of (each (entry_of T k) es))
print-map T k es =
    ap (λ l. object (members_of (pair_prints k l))) (of_named-of (face_print T) es)
    ∙ ap (λ l. object (members_of l)) (pair_prints-printed T k es)

-- the members that rows write for forms
abbrev pub members_for : (T : Tables) → List Row → List Form → List (Entry Tree)
members_for T ws fs = rows_print ws (each (printed T) fs)

-- the form of an object is written as the members that its rows write for its slots
pub print-fields : (T : Tables) (k : Kind) (c : Choice) (es : List (Entry Tree)) (fs : List Form) → choice k es ≡ Some c
    → print T k (fields c (forms_of fs)) ≡ object (members_of (members_for T (rows_of T k c) fs))
print-fields T (by i) c es fs h =
    ap (λ l. object (members_of (rows_print (rows_of T (by i) c) l))) (of_forms-of (face_print T) fs)
print-fields T (tagged n cs) c es fs h =
    ap (λ l. object (members_of (rows_print (rows_of T (tagged n cs) c) l))) (of_forms-of (face_print T) fs)
print-fields T a_schema c es fs h =
    ap (λ l. object (members_of (rows_print (rows_of T a_schema c) l))) (of_forms-of (face_print T) fs)
print-fields T a_schema_kind c es fs h =
    ap (λ l. object (members_of (rows_print (rows_of T a_schema_kind c) l))) (of_forms-of (face_print T) fs)
print-fields T k c es fs h = cc

-- a form is written under `null_or k` as it is under `k`
pub print-null_or : (T : Tables) (k : Kind) (f : Form) → print T (null_or k) f ≡ print T k f
print-null_or T k (deciding n f) = print-null_or T k f
print-null_or T k f = refl

-- a form is written under `flag_or_schema` as it is under `ref_to a_schema`
pub print-flag_or_schema : (T : Tables) (f : Form) → print T flag_or_schema f ≡ print T (ref_to a_schema) f
print-flag_or_schema T (deciding n f) = print-flag_or_schema T f
print-flag_or_schema T f = refl
