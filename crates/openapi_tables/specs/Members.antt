-- The members of an object by name or row, and the sort of a schema by its members: string, number and so on. Also the
-- rows by which an object is read, written and checked.
use Rattle.std.specs.Prelude.{ℕ, Bool, true, false, not, ◌&&◌, ◌||◌, cond, List, [], ◌∷◌, Option, Some, None, codes}
use Rattle.openapi_tables.specs.Lists.{each, join, only, every, same_text, has}
use Rattle.openapi_node.specs.Tree.{Tree, null, flag, whole, text, list}
use Rattle.openapi_tables.specs.Tree.{items_list, Entry, on_entry, Seen}
use Rattle.openapi_tables.specs.Kind.{Kind, by, tagged, a_schema, a_schema_kind, Case, unlimited, signed}
use Rattle.openapi_tables.specs.Kind.{within, optional, Row, row, either, class, constant, takes, schema_data, Tables}
use Rattle.openapi_tables.specs.SchemaTables.{one_of_rows, all_of_rows, any_of_rows, not_rows}
use Rattle.openapi_tables.specs.Tables.{string_rows, number_rows, number_formats}
use Rattle.openapi_tables.specs.Tables.{integer_formats, object_rows, array_rows, boolean_rows, any_rows}

-- whether a node is null
abbrev pub is_null : Tree → Bool
is_null null = true
is_null _ = false

-- the members that a row takes, in order
abbrev pub own : {X : Type 0} → Row → List (Entry X) → List (Entry X)
own w es = only (λ e. takes w e.name) es

-- the members of an object with their nodes, without the results of a function
abbrev pub trees : {X : Type 0} → List (Entry (Seen X)) → List (Entry Tree)
trees es = each (on_entry (λ x. x.tree)) es

-- the node of the first member, or null if there is none
abbrev pub first_tree : List (Entry Tree) → Tree
first_tree [] = null
first_tree (e ∷ es) = e.value

-- the node of the first member of a name, or null if there is none
abbrev pub held : List ℕ → List (Entry Tree) → Tree
held n es = first_tree (only (λ e. same_text n e.name) es)

-- whether a member exists and is not null. An empty list or map is present
abbrev pub is_present : List (Entry Tree) → List ℕ → Bool
is_present es n = not (is_null (held n es))

-- The sorts of a schema: a type, one of `oneOf`, `allOf`, `anyOf` and `not`, or any schema.
pub data Sort : Type 0 where
  string_sort : Sort
  number_sort : Sort
  integer_sort : Sort
  boolean_sort : Sort
  object_sort : Sort
  array_sort : Sort
  one_of_sort : Sort
  all_of_sort : Sort
  any_of_sort : Sort
  not_sort : Sort
  any_sort : Sort

-- the name of a row: the first of two names, and the empty text for a class
abbrev pub row_name : Row → List ℕ
row_name (row n m k) = n
row_name (either a j b k) = a
row_name (class c k) = []
row_name (constant n v) = n

-- the kind names: the names of the 24 rows of `any_rows`
unfoldable pub kind_names : List (List ℕ)
kind_names = each row_name any_rows

-- the rows of a sort of schema, in the order in which they are written, without those that all schemas share
unfoldable pub sort_rows : Sort → List Row
sort_rows string_sort = constant (codes "type") (codes "string") ∷ string_rows
sort_rows number_sort = constant (codes "type") (codes "number") ∷ number_rows unlimited number_formats
sort_rows integer_sort = constant (codes "type") (codes "integer") ∷ number_rows signed integer_formats
sort_rows object_sort = constant (codes "type") (codes "object") ∷ object_rows
sort_rows array_sort = constant (codes "type") (codes "array") ∷ array_rows
sort_rows boolean_sort = constant (codes "type") (codes "boolean") ∷ boolean_rows
sort_rows one_of_sort = one_of_rows
sort_rows all_of_sort = all_of_rows
sort_rows any_of_sort = any_of_rows
sort_rows not_sort = not_rows
sort_rows any_sort = any_rows

-- the names that may be present in a schema of a sort, apart from those that all schemas share
unfoldable pub allowed : Sort → List (List ℕ)
allowed s = each row_name (sort_rows s)

-- whether each entry of an enumeration passes a test. A null or missing enumeration has no entries, and any other node
-- but a list fails
abbrev pub entries_pass : (Tree → Bool) → Tree → Bool
entries_pass p null = true
entries_pass p (list ts) = every p (items_list ts)
entries_pass p _ = false

-- whether an entry is null or a string
abbrev pub is_null_or_text : Tree → Bool
is_null_or_text null = true
is_null_or_text (text s) = true
is_null_or_text _ = false

-- whether an entry is null or a boolean
abbrev pub is_null_or_flag : Tree → Bool
is_null_or_flag null = true
is_null_or_flag (flag b) = true
is_null_or_flag _ = false

-- whether an entry is null or a whole number
abbrev pub is_null_or_whole : Tree → Bool
is_null_or_whole null = true
is_null_or_whole (whole z) = true
is_null_or_whole _ = false

-- whether an entry is null or a whole number in the range of `i64`
abbrev pub is_null_or_signed : Tree → Bool
is_null_or_signed null = true
is_null_or_signed (whole z) = within signed z
is_null_or_signed _ = false

-- whether the members satisfy what a sort requires beyond the names that are present
abbrev pub further : Sort → List (Entry Tree) → Bool
further string_sort es = entries_pass is_null_or_text (held (codes "enum") es)
further number_sort es = entries_pass is_null_or_whole (held (codes "enum") es)
further integer_sort es = entries_pass is_null_or_signed (held (codes "enum") es)
    && is_null_or_signed (held (codes "multipleOf") es)
    && is_null_or_signed (held (codes "minimum") es) && is_null_or_signed (held (codes "maximum") es)
further boolean_sort es = entries_pass is_null_or_flag (held (codes "enum") es)
further _ es = true

-- the sort that a `type` names, or `any_sort` if it names none
abbrev pub named_sort : List ℕ → Sort
named_sort s =
    cond (same_text s (codes "string")) string_sort
    (cond (same_text s (codes "number")) number_sort
    (cond (same_text s (codes "integer")) integer_sort
    (cond (same_text s (codes "boolean")) boolean_sort
    (cond (same_text s (codes "object")) object_sort
    (cond (same_text s (codes "array")) array_sort any_sort)))))

-- the only sort possible besides `any_sort`: that of `type`, or if this is null or missing, that of the first of
-- `oneOf`, `allOf`, `anyOf` and `not` that is present
abbrev pub possible_sort : Tree → List (Entry Tree) → Sort
possible_sort (text s) es = named_sort s
possible_sort null es =
    cond (is_present es (codes "oneOf")) one_of_sort
    (cond (is_present es (codes "allOf")) all_of_sort
    (cond (is_present es (codes "anyOf")) any_of_sort
    (cond (is_present es (codes "not")) not_sort any_sort)))
possible_sort _ es = any_sort

-- whether no kind name is present that the sort does not allow, and the further condition of the sort holds
abbrev pub meets : Sort → List (Entry Tree) → Bool
meets s es = every (λ n. has (allowed s) n || is_null (held n es)) kind_names && further s es

-- the sort of a schema: the possible one if the members meet it, and otherwise `any_sort`
abbrev pub sort_of : List (Entry Tree) → Sort
sort_of es = let s = possible_sort (held (codes "type") es) es in cond (meets s es) s any_sort

-- Which rows an object is read by: those of its table, those that the text of its tag selects, or those of its sort.
pub data Choice : Type 0 where
  plain : Choice
  tag : List ℕ → Choice
  sort : Sort → Choice

-- whether a text is one of those that a tag may have
abbrev pub is_case : List Case → List ℕ → Bool
is_case [] s = false
is_case (c ∷ cs) s = same_text c.word s || is_case cs s

-- the rows of the table that the text of a tag selects, or none if the tag may not have the text
abbrev pub case_rows : Tables → List Case → List ℕ → List Row
case_rows T [] s = []
case_rows T (c ∷ cs) s = cond (same_text c.word s) (T c.table) (case_rows T cs s)

-- the choice by the node of a tag, if it is a string that the tag may have
abbrev pub tag_choice : List Case → Tree → Option Choice
tag_choice cs (text s) = cond (is_case cs s) (Some (tag s)) None
tag_choice cs _ = None

-- the choice of rows by which an object kind reads an object, if there is one
abbrev pub choice : Kind → List (Entry Tree) → Option Choice
choice (by i) es = Some plain
choice (tagged n cs) es = tag_choice cs (held n es)
choice a_schema es = Some (sort (sort_of es))
choice a_schema_kind es = Some (sort (sort_of es))
choice _ es = None

-- the rows of an object kind, under a choice, for reading and writing
unfoldable pub rows_of : Tables → Kind → Choice → List Row
rows_of T (by i) c = T i
rows_of T (tagged n cs) (tag s) = constant n s ∷ case_rows T cs s
rows_of T a_schema (sort s) = join (T schema_data) (sort_rows s)
rows_of T a_schema_kind (sort s) = sort_rows s
rows_of T _ c = []

-- a row of a kind name before the sort is known: it is optional
abbrev pub made_optional : Row → Row
made_optional (row n m k) = row n optional k
made_optional (either a j b k) = either a j b k
made_optional (class c k) = class c k
made_optional (constant n v) = constant n v

-- the rows that must hold for an object to conform. For a schema, these include all 24 kind names, each optional
unfoldable pub checked_rows : Tables → Kind → Choice → List Row
checked_rows T (by i) c = T i
checked_rows T (tagged n cs) (tag s) = constant n s ∷ case_rows T cs s
checked_rows T a_schema (sort s) = join (T schema_data) (each made_optional any_rows)
checked_rows T a_schema_kind (sort s) = each made_optional any_rows
checked_rows T _ c = []
