-- Whether a node conforms to a kind.
use Rattle.std.specs.Prelude.{ℕ, pos, Bool, true, false, ◌&&◌, ◌||◌, cond, nat_le, List, [], ◌∷◌, Option, Some, None}
use Rattle.std.specs.Prelude.{codes}
use Rattle.openapi_tables.specs.Lists.{every, same_text, has}
use Rattle.openapi_node.specs.Tree.{Tree, text}
pub use Rattle.openapi_node.specs.Tree.{text_in}
use Rattle.openapi_tables.specs.Tree.{Entry, Seen, Shape, a_null, a_flag, a_whole, a_text, a_list, an_object, of_tree}
use Rattle.openapi_tables.specs.Kind.{Kind, any_text, any_flag, number, any_tree, one_of, format, null_or, list_of}
use Rattle.openapi_tables.specs.Kind.{map_of, by, tagged, ref_to, flag_or_schema, a_schema, a_schema_kind, status_code}
use Rattle.openapi_tables.specs.Kind.{within, Mode, required, optional, nullable, Row, row, either, class, constant}
use Rattle.openapi_tables.specs.Kind.{code_of, is_code, Tables}
use Rattle.openapi_tables.specs.Members.{is_null, own, held, trees, Choice, choice, checked_rows}

-- whether a member may be missing
abbrev pub may_miss : Mode → Bool
may_miss required = false
may_miss _ = true

-- whether null counts as missing
abbrev pub skips_null : Mode → Bool
skips_null optional = true
skips_null nullable = true
skips_null _ = false

-- the members of an object, each with whether its value conforms to each kind
abbrev pub Judged : Type 0
Judged = List (Entry (Seen (Kind → Bool)))

-- whether a row of one name holds, given the members that it takes
abbrev pub name_holds : Mode → Kind → Judged → Bool
name_holds m k [] = may_miss m
name_holds m k (e ∷ es) = skips_null m && is_null e.value.tree || e.value.answer k

-- whether one of two names is present, and the first member with one of them conforms to the kind of its name
abbrev pub either_holds : List ℕ → Kind → Kind → Judged → Bool
either_holds a j k [] = false
either_holds a j k (e ∷ es) = e.value.answer (cond (same_text a e.name) j k)

-- whether a node is a given string
abbrev pub is_text : List ℕ → Tree → Bool
is_text v (text s) = same_text v s
is_text v _ = false

-- whether a tag is present and has the given text
abbrev pub constant_holds : List ℕ → Judged → Bool
constant_holds v [] = false
constant_holds v (e ∷ es) = is_text v e.value.tree

-- whether a row holds for the members of an object
abbrev pub row_holds : Judged → Row → Bool
row_holds es (row n m k) = name_holds m k (own (row n m k) es)
row_holds es (either a j b k) = either_holds a j k (own (either a j b k) es)
row_holds es (class c k) = every (λ e. e.value.answer k) (own (class c k) es)
row_holds es (constant n v) = constant_holds v (own (constant n v) es)

-- whether rows could be chosen for an object, and all of them that must hold do so
abbrev pub chosen_holds : (T : Tables) → Kind → Judged → Option Choice → Bool
chosen_holds T k es None = false
chosen_holds T k es (Some c) = every (row_holds es) (checked_rows T k c)

-- whether the members of an object conform to an object kind
abbrev pub object_holds : (T : Tables) → Kind → Judged → Bool
object_holds T k es = chosen_holds T k es (choice k (trees es))

-- the text of a reference, if the root is an object with a string at `$ref`
abbrev pub is_reference : {X : Type 0} → Shape (Seen X) → Option (List ℕ)
is_reference (an_object es) = text_in (held (codes "$ref") (trees es))
is_reference _ = None

-- whether a value that may be a reference conforms: a reference does, whatever else it holds, and another value if it
-- conforms to its own kind
abbrev pub reference_or : Option (List ℕ) → Bool → Bool
reference_or None b = b
reference_or (Some s) b = true

-- whether a root conforms to a kind
abbrev pub root_conforms : (T : Tables) → Shape (Seen (Kind → Bool)) → Kind → Bool
root_conforms T (a_text s) any_text = true
root_conforms T (a_flag b) any_flag = true
root_conforms T (a_whole z) (number w) = within w z
root_conforms T s any_tree = true
root_conforms T (a_text s) (one_of ws) = has ws s
root_conforms T (a_text s) (format ws b) = true
root_conforms T a_null (format ws b) = b
root_conforms T a_null (null_or k) = true
root_conforms T s (null_or k) = root_conforms T s k
root_conforms T (a_list xs) (list_of k) = every (λ x. x.answer k) xs
root_conforms T (an_object es) (map_of k) = every (λ e. e.value.answer k) es
root_conforms T (an_object es) (by i) = object_holds T (by i) es
root_conforms T (an_object es) (tagged n cs) = object_holds T (tagged n cs) es
root_conforms T (an_object es) a_schema = object_holds T a_schema es
root_conforms T (an_object es) a_schema_kind = object_holds T a_schema_kind es
root_conforms T s (ref_to k) = reference_or (is_reference s) (root_conforms T s k)
root_conforms T (a_flag b) flag_or_schema = true
root_conforms T (an_object es) flag_or_schema = reference_or (is_reference (an_object es)) (object_holds T a_schema es)
root_conforms T (a_text s) status_code = is_code (code_of s)
root_conforms T (a_whole (pos n)) status_code = nat_le 100 n && nat_le n 999
root_conforms T _ _ = false

-- whether a node conforms to a kind
abbrev pub conforms : (T : Tables) → Kind → Tree → Bool
conforms T k t = of_tree (root_conforms T) t k
