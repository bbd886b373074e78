-- Forms whose maps hold no key twice, and whose leaves hold no member name twice in an object.
use Rattle.std.specs.Prelude.{Bool, true, not, ◌&&◌, List, [], ◌∷◌}
use Rattle.openapi_tables.specs.Lists.{every}
use Rattle.openapi_node.specs.Named.{well_named}
use Rattle.openapi_tables.specs.Form.{Form, Pair, Face, f_leaf, f_item, f_sequence, f_named, f_deciding, f_fields}
use Rattle.openapi_tables.specs.Form.{Shown, of_form}
use Rattle.openapi_tables.specs.Read.{same_key}

-- whether no two entries have the same key
abbrev pub keys_differ : {X : Type 0} → List (Pair X) → Bool
keys_differ [] = true
keys_differ (e ∷ es) = every (λ d. not (same_key e.key d.key)) es && keys_differ es

-- whether the root of a form has entries with distinct keys, or a node with distinct names, and all forms inside are
-- distinct
abbrev pub face_distinct : Face (Shown Bool) → Bool
face_distinct (f_leaf t) = well_named t
face_distinct (f_item p) = p.answer
face_distinct (f_sequence ps) = every (λ p. p.answer) ps
face_distinct (f_named es) = keys_differ es && every (λ e. e.value.answer) es
face_distinct (f_deciding n p) = p.answer
face_distinct (f_fields c ps) = every (λ p. p.answer) ps
face_distinct _ = true

-- whether, at every depth of a form, each map and class of names has distinct names and codes, and each node in a leaf
-- has members of distinct names
abbrev pub distinct : Form → Bool
distinct f = of_form face_distinct f
