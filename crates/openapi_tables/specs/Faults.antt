-- What is required of which value at which location, and the causes of the faults of a value itself.
use Rattle.std.specs.Prelude.{ℕ, suc, pos, negsuc, Bool, ◌&&◌, cond, nat_le, List, [], ◌∷◌, Option, Some, None}
use Rattle.openapi_node.specs.Place.{Step, named as at_name, indexed as at_index}
use Rattle.openapi_node.specs.declared.fault.Expected.{Expected}
use Rattle.openapi_node.specs.declared.fault.Expected.TheVariants.{Text as expected_text, Flag as expected_flag}
use Rattle.openapi_node.specs.declared.fault.Expected.TheVariants.{Whole as expected_whole, List as expected_list}
use Rattle.openapi_node.specs.declared.fault.Expected.TheVariants.{Object as expected_object}
use Rattle.openapi_node.specs.declared.fault.Expected.TheVariants.{TextOrNull as text_or_null}
use Rattle.openapi_node.specs.declared.fault.Expected.TheVariants.{WholeOrNull as whole_or_null}
use Rattle.openapi_node.specs.declared.fault.Expected.TheVariants.{FlagOrNull as flag_or_null}
use Rattle.openapi_node.specs.declared.fault.Expected.TheVariants.{FlagOrObject as flag_or_object}
use Rattle.openapi_node.specs.declared.fault.Expected.TheVariants.{TextOrWhole as text_or_whole}
use Rattle.openapi_tables.specs.Lists.{each, join, flat, same_text, has, is_empty}
use Rattle.openapi_node.specs.Tree.{Tree, null, flag, whole, text, list, object}
use Rattle.openapi_tables.specs.Tree.{members_list, Entry, Seen, Shape, a_list, an_object, of_tree}
use Rattle.openapi_tables.specs.Kind.{Kind, any_text, any_flag, number, any_tree, one_of, format, null_or, list_of}
use Rattle.openapi_tables.specs.Kind.{map_of, by, tagged, ref_to, flag_or_schema, a_schema, a_schema_kind, status_code}
use Rattle.openapi_tables.specs.Kind.{within, Case, required, Row, row, either, class, constant, code_of, is_code}
use Rattle.openapi_tables.specs.Kind.{Tables, TableName, open_api}
use Rattle.openapi_tables.specs.Members.{is_null, own, trees, any_sort, Choice, plain, tag, sort, choice, checked_rows}
use Rattle.openapi_tables.specs.Conforms.{skips_null, is_reference}
use Rattle.openapi_tables.specs.Read.{tree_of_root}

-- The cause of a fault. A required member is missing, or both of two members are. Or the value is of another kind, is a
-- number out of range or not a status code, or is a string outside its set.
pub data Cause : Type 0 where
  missing : List ℕ → Cause
  missing_either : List ℕ → List ℕ → Cause
  wrong_kind : Expected → Cause
  not_allowed : Cause
  unknown_variant : Cause

-- A requirement: a kind that is required of a value at a location.
pub record Asking : Type 0 where
  pub place : List Step
  pub kind : Kind
  pub tree : Tree

-- a list of one cause, or no cause if the condition is true
abbrev pub unless : Bool → Cause → List Cause
unless b c = cond b [] (c ∷ [])

-- the cause of a row whose required member is missing, given the members that the row takes
abbrev pub misses : {X : Type 0} → Row → List (Entry X) → List Cause
misses (row n required k) [] = missing n ∷ []
misses (row n m k) es = []
misses (either a j b k) [] = missing_either a b ∷ []
misses (either a j b k) (e ∷ es) = []
misses (class c k) es = []
misses (constant n v) es = []

-- the same, given all members of an object
abbrev pub row_misses : {X : Type 0} → List (Entry X) → Row → List Cause
row_misses es w = misses w (own w es)

-- the cause that an object lacks its tag, if there are no members with the name of the tag
abbrev pub tag_misses : List ℕ → List (Entry Tree) → List Cause
tag_misses n [] = missing n ∷ []
tag_misses n (e ∷ es) = []

-- what is expected where a value must be of a kind or null
abbrev pub word_or_null : Kind → Expected
word_or_null any_flag = flag_or_null
word_or_null (number w) = whole_or_null
word_or_null _ = text_or_null

-- the causes of the faults of a value itself under a kind, without those of the values inside
abbrev pub causes : (T : Tables) → Kind → Tree → List Cause
causes T any_text (text s) = []
causes T any_text t = wrong_kind expected_text ∷ []
causes T any_flag (flag b) = []
causes T any_flag t = wrong_kind expected_flag ∷ []
causes T (number w) (whole z) = unless (within w z) not_allowed
causes T (number w) t = wrong_kind expected_whole ∷ []
causes T any_tree t = []
causes T (one_of ws) (text s) = unless (has ws s) unknown_variant
causes T (one_of ws) t = wrong_kind expected_text ∷ []
causes T (format ws b) (text s) = []
causes T (format ws b) null = unless b (wrong_kind expected_text)
causes T (format ws b) t = wrong_kind (cond b text_or_null expected_text) ∷ []
causes T (null_or k) null = []
causes T (null_or any_text) (text s) = []
causes T (null_or any_flag) (flag b) = []
causes T (null_or (number w)) (whole z) = unless (within w z) not_allowed
causes T (null_or k) t = wrong_kind (word_or_null k) ∷ []
causes T (list_of k) (list ts) = []
causes T (list_of k) t = wrong_kind expected_list ∷ []
causes T (map_of k) (object ms) = []
causes T (map_of k) t = wrong_kind expected_object ∷ []
causes T (by i) (object ms) = flat (each (row_misses (members_list ms)) (checked_rows T (by i) plain))
causes T (by i) t = wrong_kind expected_object ∷ []
causes T (tagged n cs) (object ms) = tag_misses n (own (constant n []) (members_list ms))
causes T (tagged n cs) t = wrong_kind expected_object ∷ []
causes T (ref_to k) t = []
causes T flag_or_schema (flag b) = []
causes T flag_or_schema (object ms) = []
causes T flag_or_schema t = wrong_kind flag_or_object ∷ []
causes T a_schema (object ms) = []
causes T a_schema t = wrong_kind expected_object ∷ []
causes T a_schema_kind (object ms) = []
causes T a_schema_kind t = wrong_kind expected_object ∷ []
causes T status_code (text s) = unless (is_code (code_of s)) not_allowed
causes T status_code (whole (pos n)) = unless (nat_le 100 n && nat_le n 999) not_allowed
causes T status_code (whole (negsuc n)) = not_allowed ∷ []
causes T status_code t = wrong_kind text_or_whole ∷ []

-- a value, with the requirements that each kind has at and below it
abbrev pub Asks : Type 0
Asks = Seen (Kind → List Asking)

-- requirements with one more step at the front of each location
abbrev pub below : Step → List Asking → List Asking
below p [] = []
below p (a ∷ as') = record { place = p ∷ a.place; kind = a.kind; tree = a.tree } ∷ below p as'

-- the requirements of a list for its elements, each of the kind `k`. The indexes begin with `i`
abbrev pub asks_items : Kind → ℕ → List Asks → List Asking
asks_items k i [] = []
asks_items k i (x ∷ xs) = join (below (at_index i) (x.answer k)) (asks_items k (suc i) xs)

-- the requirements of a map for its members, each of the kind `k`
abbrev pub asks_members : Kind → List (Entry Asks) → List Asking
asks_members k [] = []
asks_members k (e ∷ es) = join (below (at_name e.name) (e.value.answer k)) (asks_members k es)

-- the requirements of a row for the members that it takes
abbrev pub asks_own : Row → List (Entry Asks) → List Asking
asks_own (row n m k) [] = []
asks_own (row n m k) (e ∷ es) = cond (skips_null m && is_null e.value.tree) []
    (below (at_name e.name) (e.value.answer k))
asks_own (either a j b k) [] = []
asks_own (either a j b k) (e ∷ es) = below (at_name e.name) (e.value.answer (cond (same_text a e.name) j k))
asks_own (class c k) es = asks_members k es
asks_own (constant n v) es = []

-- the requirements of a row in an object
abbrev pub asks_row : List (Entry Asks) → Row → List Asking
asks_row es w = asks_own w (own w es)

-- the requirement of a kind for a value itself
abbrev pub here : Kind → Shape Asks → Asking
here k s = record { place = []; kind = k; tree = tree_of_root s }

-- the requirements of rows in an object, row by row
abbrev pub asks_rows : List (Entry Asks) → List Row → List Asking
asks_rows es ws = flat (each (asks_row es) ws)

-- the texts that a tag may have
abbrev pub words : List Case → List (List ℕ)
words cs = each (λ c. c.word) cs

-- the table that the text of a tag selects, or `open_api` if the tag may not have the text
abbrev pub tag_table : List Case → List ℕ → TableName
tag_table [] s = open_api
tag_table (c ∷ cs) s = cond (same_text c.word s) c.table (tag_table cs s)

-- the requirements of the table that the tag of an object selects, or none if it selects none
abbrev pub asks_tag : (T : Tables) → List ℕ → List Case → List (Entry Asks) → Option Choice → List Asking
asks_tag T n cs es (Some (tag s)) = here (by (tag_table cs s)) (an_object es)
    ∷ asks_rows es (checked_rows T (by (tag_table cs s)) plain)
asks_tag T n cs es c = []

-- the requirements of an object kind for the members of an object. A tag must have one of its texts, and the table that
-- it selects applies. A schema is checked by all rows that it may have, whatever its sort
abbrev pub asks_inner : (T : Tables) → Kind → List (Entry Asks) → List Asking
asks_inner T (by i) es = asks_rows es (checked_rows T (by i) plain)
asks_inner T (tagged n cs) es = join (asks_own (row n required (one_of (words cs))) (own (constant n []) es))
    (asks_tag T n cs es (choice (tagged n cs) (trees es)))
asks_inner T k es = asks_rows es (checked_rows T k (sort any_sort))

-- the requirements, or none if the value is a reference
abbrev pub unless_reference : Option (List ℕ) → List Asking → List Asking
unless_reference None as' = as'
unless_reference (Some s) as' = []

-- the requirements of a kind at and below a value
abbrev pub root_asks : (T : Tables) → Shape Asks → Kind → List Asking
root_asks T s (ref_to k) = here (ref_to k) s ∷ unless_reference (is_reference s) (root_asks T s k)
root_asks T (a_list xs) (list_of k) = here (list_of k) (a_list xs) ∷ asks_items k 0 xs
root_asks T (an_object es) (map_of k) = here (map_of k) (an_object es) ∷ asks_members k es
root_asks T (an_object es) (by i) = here (by i) (an_object es) ∷ asks_inner T (by i) es
root_asks T (an_object es) (tagged n cs) = here (tagged n cs) (an_object es) ∷ asks_inner T (tagged n cs) es
root_asks T (an_object es) a_schema = here a_schema (an_object es) ∷ asks_inner T a_schema es
root_asks T (an_object es) a_schema_kind = here a_schema_kind (an_object es) ∷ asks_inner T a_schema_kind es
root_asks T (an_object es) flag_or_schema =
    here flag_or_schema (an_object es) ∷ here (ref_to a_schema) (an_object es)
    ∷ unless_reference (is_reference (an_object es)) (here a_schema (an_object es) ∷ asks_inner T a_schema es)
root_asks T s k = here k s ∷ []

-- the requirements of a kind at every location of a node
abbrev pub asked : (T : Tables) → Kind → Tree → List Asking
asked T k t = of_tree (root_asks T) t k

-- whether a requirement is met: its value itself has no cause of a fault
abbrev pub is_met : (T : Tables) → Asking → Bool
is_met T a = is_empty (causes T a.kind a.tree)
