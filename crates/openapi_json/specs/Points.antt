-- The points at which the tokens of a JSON text begin.
use Rattle.std.specs.Prelude.{◌≡◌, ℕ, ◌+◌, ◌-◌, List, [], ◌∷◌, cond, Option, Some, None, IfSome, is_some, slice_get}
use Rattle.json.specs.Json.{Json}
use Rattle.json.specs.Lex.{class}
use Rattle.json.specs.Lex as lexing
use Rattle.openapi_node.specs.Place.{Place}
use Rattle.openapi_json.specs.Positions.{behind_byte, last_name, Spot, tokens_before}
use Rattle.openapi_json.specs.Scanned.{begins, next_mode}
use Rattle.openapi_json.specs.declared.position.Point.{Point}
use Rattle.openapi_json.specs.declared.position.Position.{Position}

-- the point with an offset, a line and a column
abbrev pub point_of : ℕ → Spot → Point
point_of i s = record { offset = i; line = s.0; column = s.1 }

-- the point after one more byte
abbrev pub next_point : Point → ℕ → Point
next_point p b = point_of (p.offset + 1) (behind_byte (p.line, p.column) b)

-- the points at which tokens begin in bytes, where the first byte is at the point `p` and is read in the mode `m`
abbrev pub points_from : lexing.Mode → Point → List ℕ → List Point
points_from m p [] = []
points_from m p (x ∷ xs) =
    let later = points_from (next_mode m (class x)) (next_point p x) xs in
    cond (begins m (class x) x) (p ∷ later) later

-- the points at which the tokens of a text begin, one after another
abbrev pub points : List ℕ → List Point
points text = points_from lexing.between (point_of 0 (1, 1)) text

-- the value at the location `p` of `j` has the position `it`, where `ps` are the points at which the tokens of `j` begin
pub record StandsAmong (ps : List Point) (p : Place) (j : Json) (it : Position) : Type 0 where
  pub number : ℕ
  pub counted : tokens_before p j ≡ Some number
  pub value : slice_get ps number ≡ Some it.value
  pub name : it.name ≡ cond (is_some (last_name p)) (slice_get ps (number - 1)) None

-- the position of the value at a location of `j`, if there is one, by the points `ps` at which the tokens of `j` begin
pub record IsPositionAmong (ps : List Point) (j : Json) (p : Place) (o : Option Position) : Type 0 where
  pub some : IfSome o (StandsAmong ps p j)
  pub none : o ≡ None → tokens_before p j ≡ None
