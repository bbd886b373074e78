-- The findings of a text: what is to be reported about it, each at its position, in the order of the text.
use Rattle.std.specs.Prelude.{◌≡◌, ◌⊎◌, ℕ, Bool, cond, List, [], ◌∷◌, ◌++◌, All, Option, Some, None, IfSome, map, option_map}
use Rattle.std.specs.List.Sorted.{IsNonDecreasingBy, IsPermutation}
use Rattle.json.specs.Json.{Json}
use Rattle.openapi_json.specs.Positions.{IsPositionAt}
use Rattle.openapi_json.specs.Reading.{Explains}
use Rattle.openapi_json.specs.Zeros.{IsTreeWithZeros, NumberAt}
use Rattle.openapi_json.specs.declared.fault.JsonFault.TheVariants as unread
use Rattle.openapi_json.specs.declared.position.Point.{Point}
use Rattle.openapi_node.specs.Fault.{step_of}
use Rattle.openapi_node.specs.Place.{Place}
use Rattle.openapi_node.specs.Tree.{Tree}
use Rattle.openapi_findings.specs.Numbers.{numbers_stated}
use Rattle.openapi_findings.specs.Repeated.{repeated_in}
use Rattle.openapi_findings.specs.Stated.{Statement, errors_in, is_about_member, losses_in, unresolved_in}
use Rattle.openapi_findings.specs.declared.code.Code.{Code}
use Rattle.openapi_findings.specs.declared.code.Code.TheVariants as code
use Rattle.openapi_findings.specs.declared.finding.Finding.{Finding}

-- the location of a finding, if it has one
abbrev pub place_in : Finding → Option Place
place_in f = option_map (λ p. map step_of p.items) f.place

-- the location and the code of a finding
abbrev pub finds : Finding → Option Place × Code
finds f = (place_in f, f.code)

-- the same for a statement
abbrev pub found : Statement → Option Place × Code
found s = (Some s.0, s.1)

-- the point of the name if there is one and `b` is true, and otherwise that of the value
abbrev pub name_or_value : Bool → Option Point → Point → Point
name_or_value b None p = p
name_or_value b (Some q) p = cond b q p

-- the point at which a finding is shown: that of the name if it is about a member as a whole, and else that of the value
abbrev pub point_of : Finding → Option Point
point_of f = option_map (λ p. name_or_value (is_about_member f.code) p.name p.value) f.position

-- the offset of a point; 0 if there is none
abbrev pub offset_in : Option Point → ℕ
offset_in None = 0
offset_in (Some p) = p.offset

abbrev pub offset_of : Finding → ℕ
offset_of f = offset_in (point_of f)

-- if a finding has a location, its position is that of the value at the location in the text
abbrev pub IsPlaced : List ℕ → Finding → Type 0
IsPlaced bytes f = IfSome (place_in f) (λ p. IsPositionAt bytes p f.position)

-- what is to be reported about a document: about its node `t`, its numbers `ns` that no node can hold, and its JSON
-- value `j` as it is written
abbrev pub stated_in : Tree → List NumberAt → Json → List Statement
stated_in t ns j = errors_in t ++ numbers_stated t ns ++ losses_in t ++ unresolved_in t ++ repeated_in [] j

-- the bytes are JSON in UTF-8, and the findings are what is to be reported about them as a document, in any order
pub record AreOfDocument (bytes : List ℕ) (fs : List Finding) : Type 0 where
  pub tree : Tree
  pub numbers : List NumberAt
  pub reads : IsTreeWithZeros bytes tree numbers
  pub all : IsPermutation (map found (stated_in tree numbers reads.value)) (map finds fs)

-- the bytes are not JSON in UTF-8, and the only finding reports this, without a location
pub record AreOfNoJson (bytes : List ℕ) (fs : List Finding) : Type 0 where
  pub unread : Explains bytes unread.NotJson
  pub one : map finds fs ≡ (None, code.NotJson) ∷ []

-- the findings of a text, each at its position, sorted by the offsets at which they are shown
pub record AreFindings (bytes : List ℕ) (fs : List Finding) : Type 0 where
  pub stated : AreOfDocument bytes fs ⊎ AreOfNoJson bytes fs
  pub placed : All (IsPlaced bytes) fs
  pub in_order : IsNonDecreasingBy offset_of fs
