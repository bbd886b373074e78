-- The operations of a path item and of a document, given their forms.
use Rattle.std.specs.Prelude.{ℕ, List, [], ◌∷◌, codes}
use Rattle.openapi_tables.specs.Lists.{join}
use Rattle.openapi_tables.specs.Tree.{Entry}
use Rattle.openapi_tables.specs.Form.{Form, absent, an_item, named, fields, Forms, no_forms, more, Named, no_named}
use Rattle.openapi_tables.specs.Form.{under, Key, name}

-- the HTTP methods of a Path Item Object, in the order of its fields
abbrev pub methods : List (List ℕ)
methods = codes "get" ∷ codes "put" ∷ codes "post" ∷ codes "delete" ∷ codes "options" ∷ codes "head" ∷ codes "patch"
    ∷ codes "trace" ∷ []

-- a slot with its name, or none if it is absent
abbrev pub unless_absent : List ℕ → Form → List (Entry Form)
unless_absent n absent = []
unless_absent n f = record { name = n; value = f } ∷ []

-- the slots that are not absent, each with its name
abbrev pub those_there : List (List ℕ) → Forms → List (Entry Form)
those_there [] fs = []
those_there (n ∷ ns) no_forms = []
those_there (n ∷ ns) (more f fs) = join (unless_absent n f) (those_there ns fs)

-- the operations that are present in a path item: its slots after those of the summary and the description
abbrev pub present_ops : Form → List (Entry Form)
present_ops (fields c (more s (more d fs))) = those_there methods fs
present_ops f = []

-- An operation with its path and method.
pub record Operation : Type 0 where
  pub path : List ℕ
  pub method : List ℕ
  pub value : Form

-- the operations of a path item, each with the path of the item
abbrev pub at_path : List ℕ → List (Entry Form) → List Operation
at_path p [] = []
at_path p (e ∷ es) = record { path = p; method = e.name; value = e.value } ∷ at_path p es

-- the operations of the path item at a path. A path item that is a reference has none
abbrev pub ops_of_item : Key → Form → List Operation
ops_of_item (name p) (an_item f) = at_path p (present_ops f)
ops_of_item n f = []

-- the operations of all paths, in the order of the map
abbrev pub ops_of_paths : Named → List Operation
ops_of_paths no_named = []
ops_of_paths (under n f es) = join (ops_of_item n f) (ops_of_paths es)

-- the operations of a Paths Object, whose first slot is the map of paths
abbrev pub ops_of_slot : Form → List Operation
ops_of_slot (fields c (more (named es) fs)) = ops_of_paths es
ops_of_slot f = []

-- the operations of a document, whose paths are the fourth slot, after `openapi`, `info` and `servers`
abbrev pub ops : Form → List Operation
ops (fields c (more a (more b (more d (more paths fs))))) = ops_of_slot paths
ops f = []
