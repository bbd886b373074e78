-- The form that is read from a node. Where a kind defines no other form, it is a `leaf` that holds the node, so that
-- reading is total.
use Rattle.std.specs.Prelude.{ℕ, pos, Bool, false, ◌&&◌, cond, ◌==◌, nat_le, List, [], ◌∷◌, Option, Some, None}
use Rattle.openapi_tables.specs.Lists.{each, same_text, has}
use Rattle.openapi_node.specs.Tree.{Tree, null, flag, whole, text, list, object, items_of}
use Rattle.openapi_tables.specs.Tree.{members_of, Entry, Seen, on_entry, Shape, a_null, a_flag, a_whole, a_text, a_list}
use Rattle.openapi_tables.specs.Tree.{an_object, of_tree}
use Rattle.openapi_tables.specs.Kind.{Kind, format, null_or, list_of, map_of, by, tagged, ref_to, flag_or_schema}
use Rattle.openapi_tables.specs.Kind.{a_schema, a_schema_kind, status_code, Mode, required, optional, nullable, listed}
use Rattle.openapi_tables.specs.Kind.{flagged, styled, formatted, Row, row, either, class, constant, Class, extensions}
use Rattle.openapi_tables.specs.Kind.{callback_names, path_names, status_names, Code, code, range, code_of, Tables}
use Rattle.openapi_tables.specs.Members.{is_null, own, trees, Choice, choice, rows_of}
use Rattle.openapi_tables.specs.Conforms.{is_reference}
use Rattle.openapi_tables.specs.Form.{Form, absent, leaf, of_code, known, other, unset, reference, an_item, sequence}
use Rattle.openapi_tables.specs.Form.{named, deciding, fields, no_forms, forms_of, no_named, named_of, Key, name, coded}
use Rattle.openapi_tables.specs.Form.{Pair}

-- the node with a given root
abbrev pub tree_of_root : {X : Type 0} → Shape (Seen X) → Tree
tree_of_root a_null = null
tree_of_root (a_flag b) = flag b
tree_of_root (a_whole z) = whole z
tree_of_root (a_text s) = text s
tree_of_root (a_list xs) = list (items_of (each (λ x. x.tree) xs))
tree_of_root (an_object es) = object (members_of (each (on_entry (λ x. x.tree)) es))

-- whether two codes are the same
abbrev pub same_code : Code → Code → Bool
same_code (code m) (code n) = m == n
same_code (code m) (range n) = false
same_code (range m) (code n) = false
same_code (range m) (range n) = m == n

-- whether two keys are the same
abbrev pub same_key : Key → Key → Bool
same_key (name m) (name n) = same_text m n
same_key (name m) (coded c) = false
same_key (coded c) (name n) = false
same_key (coded c) (coded d) = same_code c d

-- a map with `x` at a key, which replaces the value at that key, or is added at the end if there is none
abbrev pub put : {X : Type 0} → Key → X → List (Pair X) → List (Pair X)
put n x [] = record { key = n; value = x } ∷ []
put n x (e ∷ es) = cond (same_key e.key n) (record { key = e.key; value = x } ∷ es) (e ∷ put n x es)

-- a map after `put` of all entries of a list, one after another
abbrev pub put_all : {X : Type 0} → List (Pair X) → List (Pair X) → List (Pair X)
put_all m [] = m
put_all m (e ∷ es) = put_all (put e.key e.value m) es

-- the entries of a class. Those of status codes are put into a map, where a later value of the same code replaces the
-- earlier one, at the position of the earlier one
abbrev pub gather : {X : Type 0} → Class → List (Pair X) → List (Pair X)
gather status_names es = put_all [] es
gather _ es = es

-- the key of a name: its status code if there is one, and otherwise the name itself
abbrev pub code_key : List ℕ → Option Code → Key
code_key n None = name n
code_key n (Some c) = coded c

-- the key of a name in a class: for status codes the code, if the name has one, and otherwise the name itself
abbrev pub key_in : Class → List ℕ → Key
key_in extensions n = name n
key_in callback_names n = name n
key_in path_names n = name n
key_in status_names n = code_key n (code_of n)

-- the members of an object, each with the form that is read from it under each kind
abbrev pub Reads : Type 0
Reads = List (Entry (Seen (Kind → Form)))

-- members as entries, each with the key of its name and its form under a kind
abbrev pub pairs_as : (List ℕ → Key) → Kind → Reads → List (Pair Form)
pairs_as g k [] = []
pairs_as g k (e ∷ es) = record { key = g e.name; value = e.value.answer k } ∷ pairs_as g k es

-- the form of a map: its entries in order
abbrev pub map_form : Kind → Reads → Form
map_form k es = named (named_of (pairs_as name k es))

-- the form of a class: its entries in order, after `gather`
abbrev pub class_form : Class → Kind → Reads → Form
class_form c k es = named (named_of (gather c (pairs_as (key_in c) k es)))

-- the form of an empty map if the kind is one of maps, and otherwise of an empty list
abbrev pub empty_of : Kind → Form
empty_of (map_of k) = named no_named
empty_of _ = sequence no_forms

-- the slot of a row whose member is missing or null
abbrev pub default_of : Mode → Kind → Form
default_of required k = absent
default_of optional k = absent
default_of nullable k = absent
default_of listed k = empty_of k
default_of flagged k = leaf (flag false)
default_of (styled s) k = leaf (text s)
default_of formatted k = unset

-- the slot of a row of one name, given the members that the row takes: the first of them is read
abbrev pub name_slot : Mode → Kind → Reads → Form
name_slot m k [] = default_of m k
name_slot m k (e ∷ es) = cond (is_null e.value.tree) (default_of m k) (e.value.answer k)

-- the slot of a row of two names: the name of the first member that the row takes, with the form that its kind reads
abbrev pub either_slot : List ℕ → Kind → Kind → Reads → Form
either_slot a j k [] = absent
either_slot a j k (e ∷ es) = deciding e.name (e.value.answer (cond (same_text a e.name) j k))

-- the slot of a row, given the members that it takes
abbrev pub slot_of_own : Row → Reads → Form
slot_of_own (row n m k) es = name_slot m k es
slot_of_own (either a j b k) es = either_slot a j k es
slot_of_own (class c k) es = class_form c k es
slot_of_own (constant n v) es = absent

-- the slot of a row in an object
abbrev pub slot : Reads → Row → Form
slot es w = slot_of_own w (own w es)

-- the slots of the chosen rows, one for each row. If no rows are chosen, the object is its own form
abbrev pub chosen_form : (T : Tables) → Kind → Reads → Option Choice → Form
chosen_form T k es None = leaf (tree_of_root (an_object es))
chosen_form T k es (Some c) = fields c (forms_of (each (slot es) (rows_of T k c)))

-- the form of an object under an object kind
abbrev pub object_form : (T : Tables) → Kind → Reads → Form
object_form T k es = chosen_form T k es (choice k (trees es))

-- the form of a root as a schema. A node that is not an object is its own form
abbrev pub schema_form : (T : Tables) → Shape (Seen (Kind → Form)) → Form
schema_form T (an_object es) = object_form T a_schema es
schema_form T s = leaf (tree_of_root s)

-- a reference if there is a text for it, and otherwise an item
abbrev pub reference_or_item : Option (List ℕ) → Form → Form
reference_or_item None f = an_item f
reference_or_item (Some s) f = reference s

-- the form of a status code if there is one, and otherwise the node as its own form
abbrev pub code_form : Tree → Option Code → Form
code_form t None = leaf t
code_form t (Some c) = of_code c

-- the form of a root, given the forms of the nodes inside
abbrev pub root_form : (T : Tables) → Shape (Seen (Kind → Form)) → Kind → Form
root_form T (a_text s) (format ws b) = cond (has ws s) (known s) (other s)
root_form T a_null (format ws b) = unset
root_form T s (null_or k) = root_form T s k
root_form T (a_list xs) (list_of k) = sequence (forms_of (each (λ x. x.answer k) xs))
root_form T (an_object es) (map_of k) = map_form k es
root_form T (an_object es) (by i) = object_form T (by i) es
root_form T (an_object es) (tagged n cs) = object_form T (tagged n cs) es
root_form T (an_object es) a_schema = object_form T a_schema es
root_form T (an_object es) a_schema_kind = object_form T a_schema_kind es
root_form T s (ref_to k) = reference_or_item (is_reference s) (root_form T s k)
root_form T (a_flag b) flag_or_schema = leaf (flag b)
root_form T s flag_or_schema = reference_or_item (is_reference s) (schema_form T s)
root_form T (a_text s) status_code = code_form (text s) (code_of s)
root_form T (a_whole (pos n)) status_code =
    cond (nat_le 100 n && nat_le n 999) (of_code (code n)) (leaf (whole (pos n)))
root_form T s _ = leaf (tree_of_root s)

-- the form of a node under a kind
abbrev pub form : (T : Tables) → Kind → Tree → Form
form T k t = of_tree (root_form T) t k
