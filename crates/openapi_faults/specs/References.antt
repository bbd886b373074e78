-- The references of a value, each at its location, with the kind of its target.
use Rattle.std.specs.Prelude.{ℕ, List, [], ◌∷◌, Option, Some, map, string_bytes}
use Rattle.openapi_node.specs.Fault.{step_of}
use Rattle.openapi_node.specs.Place.{Place}
use Rattle.openapi_node.specs.Tree.{Tree}
use Rattle.openapi_tables.specs.Faults.{Asking, asked}
use Rattle.openapi_tables.specs.Kind.{Kind, ref_to}
use Rattle.openapi_tables.specs.Lists.{each, flat}
use Rattle.openapi_tables.specs.Tables.{final_tables}
use Rattle.openapi_faults.specs.Meaning.{kind_of}
use Rattle.openapi_faults.specs.Walk.{reference_text}
use Rattle.openapi_faults.specs.declared.reference.Reference.{Reference}

-- the location of a reference, the text under its `$ref` and the kind of its target; nothing if the kind allows no reference
-- or there is no text
abbrev pub refers : Place → Kind → Option (List ℕ) → List (Place × List ℕ × Kind)
refers p (ref_to k) (Some s) = (p, s, k) ∷ []
refers p k o = []

-- the reference that a node is, if its required kind allows one and it is one
abbrev pub references_at : Asking → List (Place × List ℕ × Kind)
references_at a = refers a.place a.kind (reference_text a.kind a.tree)

-- all references, each with its location, its text and the kind of its target, in the order of `asked`
abbrev pub references_in : Kind → Tree → List (Place × List ℕ × Kind)
references_in k t = flat (each references_at (asked final_tables k t))

-- the location, the text and the kind of the target that a `Reference` contains
abbrev pub reference_of : Reference → Place × List ℕ × Kind
reference_of r = (map step_of r.place.items, string_bytes r.text, kind_of r.target)
