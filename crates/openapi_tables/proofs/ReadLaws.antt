-- The forms that are read from nodes made from lists of members.
use Rattle.std.proofs.Common.{ℕ, false, List, [], ◌∷◌, Some, None, ◌≡◌, refl, ap, ◌∙◌, codes}
use Rattle.openapi_tables.specs.Prelude.{each, members_of, Entry, on_entry, Seen, of_members, Kind, null_or, list_of}
use Rattle.openapi_tables.specs.Prelude.{map_of, by, tagged, ref_to, flag_or_schema, a_schema, a_schema_kind, Class}
use Rattle.openapi_tables.specs.Prelude.{Row, takes, Tables, own, held, Choice, choice, rows_of, text_in, Form}
use Rattle.openapi_tables.specs.Prelude.{reference, an_item, sequence, named, fields, forms_of, named_of, Key, name}
use Rattle.openapi_tables.specs.Prelude.{Pair, map_form, class_form, key_in, pairs_as, slot_of_own, slot, root_form}
use Rattle.openapi_tables.specs.Prelude.{form, chosen_form, reference_or_item, gather}
use Rattle.openapi_node.specs.Tree.{Tree, null, flag, list, object, items_of}
use Rattle.openapi_tables.specs.Read.{Reads}
use Rattle.openapi_tables.specs.Read.{object_form}
use Rattle.openapi_tables.proofs.ListLaws.{each-each, each_same, each_all, only-each}
use Rattle.openapi_tables.proofs.TreeLaws.{see, of_items-of, of_members-of, members_list-of}
use Rattle.openapi_tables.proofs.Taken.{trees_of-members, ref_text, is_flag}

-- the members of a list, each with the form that is read from it under each kind
abbrev pub reads : (T : Tables) → List (Entry Tree) → Reads
reads T es = each (on_entry (see (root_form T))) es

-- the entry of a map or class that is read from a member
abbrev pub pair_of : (T : Tables) → (List ℕ → Key) → Kind → Entry Tree → Pair Form
pair_of T g k e = record { key = g e.name; value = form T k e.value }

-- a list is read as the sequence of the forms of its items
pub form-list : (T : Tables) (k : Kind) (ts : List Tree)
    → form T (list_of k) (list (items_of ts)) ≡ sequence (forms_of (each (form T k) ts))
form-list T k ts =
    ap (λ l. sequence (forms_of (each (λ (x : Seen (Kind → Form)). x.answer k) l))) (of_items-of (root_form T) ts)
    ∙ ap (λ l. sequence (forms_of l)) (each-each (λ (x : Seen (Kind → Form)). x.answer k) (see (root_form T)) ts)

pub pairs_as-reads : (T : Tables) (g : List ℕ → Key) (k : Kind) (es : List (Entry Tree))
    → pairs_as g k (reads T es) ≡ each (pair_of T g k) es
pairs_as-reads T g k [] = refl
pairs_as-reads T g k (e ∷ es) = ap (λ l. pair_of T g k e ∷ l) (pairs_as-reads T g k es)

-- the form of a class is the entries that are read from its members, gathered
pub class_form-reads : (T : Tables) (c : Class) (k : Kind) (es : List (Entry Tree))
    → class_form c k (reads T es) ≡ named (named_of (gather c (each (pair_of T (key_in c) k) es)))
class_form-reads T c k es = ap (λ l. named (named_of (gather c l))) (pairs_as-reads T (key_in c) k es)

-- the form of a map is the entries that are read from its members
pub map_form-reads : (T : Tables) (k : Kind) (es : List (Entry Tree))
    → map_form k (reads T es) ≡ named (named_of (each (pair_of T name k) es))
map_form-reads T k es = ap (λ l. named (named_of l)) (pairs_as-reads T name k es)

-- an object under a kind of maps is read as the entries of its members
pub form-map : (T : Tables) (k : Kind) (es : List (Entry Tree))
    → form T (map_of k) (object (members_of es)) ≡ named (named_of (each (pair_of T name k) es))
form-map T k es = ap (map_form k) (of_members-of (root_form T) es) ∙ map_form-reads T k es

-- a row takes the same members, with or without their forms beside them
pub own-reads : (T : Tables) (w : Row) (es : List (Entry Tree)) → own w (reads T es) ≡ reads T (own w es)
own-reads T w es = only-each (λ (e : Entry (Seen (Kind → Form))). takes w e.name) (on_entry (see (root_form T))) es

-- the slot that a row reads from a list of members
abbrev pub slot_in : (T : Tables) → List (Entry Tree) → Row → Form
slot_in T es w = slot_of_own w (reads T (own w es))

-- the slots that rows read from members with their forms beside them are those that they read from the list of members
pub slots-reads : (T : Tables) (ws : List Row) (es : List (Entry Tree))
    → each (slot (reads T es)) ws ≡ each (slot_in T es) ws
slots-reads T ws es = each_same (slot (reads T es)) (slot_in T es) ws
    (each_all (λ w. ap (slot_of_own w) (own-reads T w es)) ws)

chosen : (T : Tables) (k : Kind) (c : Choice) (es : List (Entry Tree)) → choice k es ≡ Some c
    → object_form T k (of_members (root_form T) (members_of es))
    ≡ fields c (forms_of (each (slot_in T es) (rows_of T k c)))
chosen T k c es h =
    ap (λ o. chosen_form T k (of_members (root_form T) (members_of es)) o)
    (ap (choice k) (trees_of-members (root_form T) (members_of es) ∙ members_list-of es) ∙ h)
    ∙ ap (λ l. fields c (forms_of (each (slot l) (rows_of T k c)))) (of_members-of (root_form T) es)
    ∙ ap (λ l. fields c (forms_of l)) (slots-reads T (rows_of T k c) es)

-- an object under an object kind is read as one slot for each row
pub form-fields : (T : Tables) (k : Kind) (c : Choice) (es : List (Entry Tree)) → choice k es ≡ Some c
    → form T k (object (members_of es)) ≡ fields c (forms_of (each (slot_in T es) (rows_of T k c)))
form-fields T (by i) c es h = chosen T (by i) c es h
form-fields T (tagged n cs) c es h = chosen T (tagged n cs) c es h
form-fields T a_schema c es h = chosen T a_schema c es h
form-fields T a_schema_kind c es h = chosen T a_schema_kind c es h
form-fields T k c es h = cc

-- a node that is not a reference is read as an item
pub form-item : (T : Tables) (k : Kind) (t : Tree) → ref_text t ≡ None → form T (ref_to k) t ≡ an_item (form T k t)
form-item T k (object ms) h =
    ap (λ o. reference_or_item o (form T k (object ms)))
    (ap (λ es. text_in (held (codes "$ref") es)) (trees_of-members (root_form T) ms) ∙ h)
form-item T k t h = refl

-- a node with a string at `$ref` is read as a reference
pub form-reference : (T : Tables) (k : Kind) (t : Tree) (s : List ℕ) → ref_text t ≡ Some s
    → form T (ref_to k) t ≡ reference s
form-reference T k (object ms) s h =
    ap (λ o. reference_or_item o (form T k (object ms)))
    (ap (λ es. text_in (held (codes "$ref") es)) (trees_of-members (root_form T) ms) ∙ h)
form-reference T k t s h = cc

-- a node is read under `null_or k` as it is under `k`
pub form-null_or : (T : Tables) (k : Kind) (t : Tree) → form T (null_or k) t ≡ form T k t
form-null_or T k null = refl
form-null_or T k t = refl

-- a node that is not a boolean is read under `flag_or_schema` as it is under `ref_to a_schema`
pub form-flag_or_schema : (T : Tables) (t : Tree) → is_flag t ≡ false
    → form T flag_or_schema t ≡ form T (ref_to a_schema) t
form-flag_or_schema T (flag b) h = cc
form-flag_or_schema T t h = refl
