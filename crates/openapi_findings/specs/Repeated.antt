-- The names that occur more than once in one object of a JSON value, each at its location.
use Rattle.std.specs.Prelude.{ℕ, ◌+◌, Bool, cond, List, [], ◌∷◌, ◌++◌, is_some, map}
use Rattle.std.specs.Global.{Vec}
use Rattle.json.specs.Json as json
use Rattle.openapi_map.specs.Entries.{Entries, get, insert_entry}
use Rattle.openapi_node.specs.Place.{Place, named, indexed}
use Rattle.openapi_findings.specs.Stated.{Statement, repeated_at, statement_of}
use Rattle.openapi_findings.specs.declared.report.Report.{Report}

-- the statement about the member at a location, if `b` is true: its name occurred before in the object
abbrev pub repeated_if : Bool → Place → List Statement
repeated_if b p = cond b (repeated_at p ∷ []) []

-- the statements about all members of an object
abbrev pub of_all : Entries (List Statement) → List Statement
of_all [] = []
of_all (e ∷ es) = e.1 ++ of_all es

-- The statements about the value at a location. If a name occurs more than once in an object, its last value counts, so
-- names inside an earlier one are not reported.
abbrev mutual
  pub repeated_in : Place → json.Json → List Statement
  repeated_in p json.null = []
  repeated_in p (json.boolean b) = []
  repeated_in p (json.number s) = []
  repeated_in p (json.string s) = []
  repeated_in p (json.array js) = repeated_in_items p 0 js
  repeated_in p (json.object ms) = of_all (repeated_in_members p ms [])

  -- those about the items of an array, counted from an index
  pub repeated_in_items : Place → ℕ → json.Items → List Statement
  repeated_in_items p i json.no_items = []
  repeated_in_items p i (json.item j js) = repeated_in (p ++ indexed i ∷ []) j ++ repeated_in_items p (i + 1) js

  -- those about the members of an object, by name, added to those about earlier members
  pub repeated_in_members : Place → json.Members → Entries (List Statement) → Entries (List Statement)
  repeated_in_members p json.no_members es = es
  repeated_in_members p (json.member k j ms) es =
      repeated_in_members p ms
      (insert_entry es k (repeated_if (is_some (get k es)) (p ++ named k ∷ []) ++ repeated_in (p ++ named k ∷ []) j))

-- ---- for private clauses

-- the name of a member, and the statements of its reports
abbrev pub stated_of_entry : List ℕ × Vec Report → List ℕ × List Statement
stated_of_entry e = (e.0, map statement_of e.1.items)
