-- The laws that the functions of `laws` state.
use Rattle.std.specs.Prelude.{◌≡◌, ◌↔◌, ◌⊎◌, ℕ, true, List, [], ◌∷◌, Some}
use Rattle.openapi_node.specs.Named.{well_named}
use Rattle.openapi_node.specs.Place.{Place}
use Rattle.openapi_node.specs.Tree.{Tree}
use Rattle.openapi_node.specs.declared.fault.Cause.TheVariants.{Memory}
use Rattle.openapi_node.specs.declared.fault.Fault.{Fault}
use Rattle.openapi_tables.specs.ByRow.{Broken}
use Rattle.openapi_tables.specs.Conforms.{conforms}
use Rattle.openapi_tables.specs.Faults.{Cause}
use Rattle.openapi_tables.specs.Kind.{Kind, TableName}
use Rattle.openapi_tables.specs.Laws.{Among}
use Rattle.openapi_tables.specs.Lists.{each}
use Rattle.openapi_tables.specs.Read.{form}
use Rattle.openapi_tables.specs.Tables.{final_tables}
use Rattle.openapi_fields.specs.Returned.{Fails}
use Rattle.openapi_faults.specs.Dropped.{dropped_in, tag_of_table}
use Rattle.openapi_faults.specs.Meaning.{cases_of, kind_of, tag_name}
use Rattle.openapi_faults.specs.Told.{fault_in, known, told}
use Rattle.openapi_faults.specs.Without.{without}
use Rattle.openapi_faults.specs.declared.kind.Kind as declared
use Rattle.openapi_faults.specs.declared.tag.Tag.{Tag}

-- a JSON value has no fault if and only if it conforms to its kind
abbrev pub NothingWrong : Type 0
NothingWrong = (k : declared.Kind) (t : Tree)
    → (told final_tables (kind_of k) t ≡ []) ↔ (conforms final_tables (kind_of k) t ≡ true)

-- `told` contains exactly the causes that are broken, each with the location of the value that breaks it
abbrev pub AllTold : Type 0
AllTold = (k : Kind) (t : Tree) (p : Place) (c : Cause)
    → Broken final_tables k t p c ↔ Among (p, c) (told final_tables k t)

-- no element of a list occurs twice
abbrev pub AreDistinct : {A : Type 0} → List A → Type 0
AreDistinct [] = Unit {0}
AreDistinct (x ∷ xs) = (Among x xs → ⊥) × AreDistinct xs

-- `told` contains no cause twice for one location, if, as in a `Node`, no object in the value has two members of one name
abbrev pub ToldOnce : Type 0
ToldOnce = (k : declared.Kind) (t : Tree) → well_named t ≡ true → AreDistinct (told final_tables (kind_of k) t)

-- the error of a reader is one of the faults in `told`, unless an allocation failed
abbrev pub RefusalTold : Type 0
RefusalTold = (f : Fault) (k : Kind) (t : Tree) → Fails f k t
    → (f.cause ≡ Memory) ⊎ Among (fault_in f) (each known (told final_tables k t))

-- the locations of the members that are dropped
abbrev pub dropped_places : Kind → Tree → List Place
dropped_places k t = each (λ d. d.0) (dropped_in k t)

-- The value `u` is read as `t` is: both have the same form, and `u` conforms if and only if `t` does. No member of `u` is
-- dropped. Where this is stated, `u` is `t` without the members that are dropped.
pub record CountsForNothing (k : Kind) (t u : Tree) : Type 0 where
  pub read : form final_tables k u ≡ form final_tables k t
  pub verdict : conforms final_tables k u ≡ conforms final_tables k t
  pub rest : dropped_in k u ≡ []

-- a value without its dropped members is read as before, and nothing more is dropped. It is required that no object in the
-- value has two members of one name, as in a `Node`
abbrev pub DroppedIgnored : Type 0
DroppedIgnored = (k : declared.Kind) (t : Tree) → well_named t ≡ true
    → CountsForNothing (kind_of k) t (without (dropped_places (kind_of k) t) t)

-- `tag_of_table` gives a name for a table if and only if it is the name of a tag with a case for that table
abbrev pub TagsOfTables : Type 0
TagsOfTables = (i : TableName) (n : List ℕ)
    → (tag_of_table i ≡ Some n) ↔ ((g : Tag) × (n ≡ tag_name g) × Among i (each (λ c. c.table) (cases_of g)))
