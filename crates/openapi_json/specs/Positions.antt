-- The position of the value at a location in a JSON text.
use Rattle.std.specs.Prelude.{◌≡◌, ℕ, zero, suc, ◌+◌, ◌-◌, ◌<◌, nat_le, nat_lt, ◌==◌, ◌&&◌, Bool, cond, List, [], ◌∷◌, ◌++◌}
use Rattle.std.specs.Prelude.{drop, take, length, slice_get, slice_index_or, true, Option, Some, None, IfSome, is_some, option_map, option_and_then, MatchOption}
use Rattle.std.specs.Str.{bytes_eq, IsUtf8}
use Rattle.std.specs.Borrow.{Bor}
use Rattle.json.specs.Find.{get, get_member, at}
use Rattle.json.specs.Json as json
use Rattle.json.specs.Json.{Json, Items, no_items, item, Members, no_members, member}
use Rattle.json.specs.Lex.{tokens}
use Rattle.json.specs.Token.{Token, key}
use Rattle.json.specs.Tree.{json_tokens}
use Rattle.json.specs.Value.{members_view, value_view}
use Rattle.json.specs.declared.value.Value.{Value}
use Rattle.openapi_node.specs.Place.{Place, Step, named, indexed}
use Rattle.openapi_json.specs.Ordered.{parsed}
use Rattle.openapi_json.specs.Scanned.{starts}
use Rattle.openapi_json.specs.declared.position.Point.{Point}
use Rattle.openapi_json.specs.declared.position.Position.{Position}

-- the value to which a step leads; if a name is repeated, its last value
abbrev pub child : Step → Json → Option Json
child (named k) j = get k j
child (indexed i) j = at i j

-- the value at a location
abbrev pub json_at : Place → Json → Option Json
json_at [] j = Some j
json_at (s ∷ p) j = option_and_then (json_at p) (child s j)

-- the value that a text has at a location
abbrev pub value_at : List ℕ → Place → Option Json
value_at text p = option_and_then (json_at p) (parsed text)

-- ---- how many tokens of a value come before one inside it

-- How many tokens of members come before the value of the last member with a name. The name of the first member is one of
-- them. If a later member has the name too, the tokens of the first member's value count, and those before that value in the
-- later members.
abbrev pub before_member : List ℕ → Members → ℕ
before_member name no_members = 0
before_member name (member k j ms) =
    1 + cond (is_some (get_member name ms)) (length (json_tokens j) + before_member name ms) 0

-- how many tokens of items come before the n-th of them
abbrev pub before_item : ℕ → Items → ℕ
before_item n no_items = 0
before_item zero (item j js) = 0
before_item (suc n) (item j js) = length (json_tokens j) + before_item n js

-- how many tokens of a value come before the value to which a step leads: the opening bracket, and the tokens between
abbrev pub before : Step → Json → ℕ
before s json.null = 0
before s (json.boolean b) = 0
before s (json.number t) = 0
before s (json.string t) = 0
before (named k) (json.array js) = 0
before (indexed i) (json.array js) = 1 + before_item i js
before (named k) (json.object ms) = 1 + before_member k ms
before (indexed i) (json.object ms) = 0

-- how many tokens of a value come before the one at a location in it, if there is one
abbrev pub tokens_before : Place → Json → Option ℕ
tokens_before [] j = Some 0
tokens_before (s ∷ p) j = option_and_then (λ k. option_map (λ n. before s j + n) (tokens_before p k)) (child s j)

-- the number of the token with which the value at a location of a text begins; the first token has the number 0
abbrev pub number_in : List ℕ → Place → Option ℕ
number_in text p = option_and_then (tokens_before p) (parsed text)

-- ---- names, lines and columns

-- the name of a step
abbrev pub name_of : Step → Option (List ℕ)
name_of (named k) = Some k
name_of (indexed i) = None

-- the name with which a location ends
abbrev pub last_name : Place → Option (List ℕ)
last_name [] = None
last_name (s ∷ []) = name_of s
last_name (s ∷ t ∷ p) = last_name (t ∷ p)

-- whether a byte continues a character of UTF-8, which means that it is not its first byte
abbrev pub continues : ℕ → Bool
continues b = nat_le 128 b && nat_lt b 192

-- A line and a column, and what they are after one more byte. A line feed ends a line, and each character counts once.
abbrev pub Spot : Type 0
Spot = ℕ × ℕ

abbrev pub behind_byte : Spot → ℕ → Spot
behind_byte s b = cond (b == 10) (s.0 + 1, 1) (cond (continues b) s (s.0, s.1 + 1))

abbrev pub spot_from : Spot → List ℕ → Spot
spot_from s [] = s
spot_from s (b ∷ bs) = spot_from (behind_byte s b) bs

-- the line and the column after bytes, from line 1 and column 1
abbrev pub spot_behind : List ℕ → Spot
spot_behind bs = spot_from (1, 1) bs

-- the point after bytes
pub record IsBehind (bytes : List ℕ) (p : Point) : Type 0 where
  pub offset : p.offset ≡ length bytes
  pub spot : (p.line, p.column) ≡ spot_behind bytes

-- the token of this number begins at this point of a text
pub record IsToken (text : List ℕ) (n : ℕ) (p : Point) : Type 0 where
  pub offset : slice_get (starts text) n ≡ Some p.offset
  pub point : IsBehind (take p.offset text) p

-- the point is within the text, and the tokens of the text from that point are these
pub record BeginsAt (text : List ℕ) (p : Point) (ts : List Token) : Type 0 where
  pub within : p.offset < length text
  pub point : IsBehind (take p.offset text) p
  pub tokens : tokens (drop p.offset text) ≡ ts

-- The text has a value at a location, and this is its position: the point of its first token, found by the number of tokens
-- before it. So it is never the position of an equal value elsewhere. The position has the point of the name, which is the
-- token before, if and only if the location ends with a name. Each token of the text has an offset. From the point of the
-- value, the tokens of the text are those of the value and the rest. From the point of the name, they are the name and the
-- same tokens.
pub record StandsAt (text : List ℕ) (p : Place) (it : Position) : Type 0 where
  pub utf8 : IsUtf8 text
  pub value : Json
  pub there : value_at text p ≡ Some value
  pub number : ℕ
  pub counted : number_in text p ≡ Some number
  pub each : length (starts text) ≡ length (tokens text)
  pub first : IsToken text number it.value
  pub rest : List Token
  pub passed : drop number (tokens text) ≡ json_tokens value ++ rest
  pub begins : BeginsAt text it.value (json_tokens value ++ rest)
  pub name : MatchOption (last_name p) (it.name ≡ None) (λ k. (q : Point) × (it.name ≡ Some q)
      × IsToken text (number - 1) q × BeginsAt text q (key k ∷ (json_tokens value ++ rest)))

-- The position of the value at a location of a text, if the text has one there. It is `None` only if the text is not UTF-8
-- or has no value at the location, as when it is not JSON.
pub record IsPositionAt (text : List ℕ) (p : Place) (o : Option Position) : Type 0 where
  pub some : IfSome o (StandsAt text p)
  pub none : o ≡ None → IsUtf8 text → value_at text p ≡ None

-- ---- for contracts of private functions

-- the tokens of each element, one after another
abbrev pub flat : {X : Type 0} → (X → List Token) → List X → List Token
flat f [] = []
flat f (x ∷ xs) = f x ++ flat f xs

-- the tokens of an item of an array
abbrev pub item_tokens : {A : Type 0} → Value A → List Token
item_tokens v = json_tokens (value_view v)

-- the tokens of a member of an object
abbrev pub member_tokens : {A : Type 0} → Bor (List ℕ) × Value A → List Token
member_tokens m = key m.0.now ∷ json_tokens (value_view m.1)

-- a step leads from j to k, and n tokens of j come before those of k
pub record StepsTo (s : Step) (j : Json) (n : ℕ) (k : Json) : Type 0 where
  pub found : child s j ≡ Some k
  pub number : n ≡ before s j

-- the member at index `i` is the last one with the name
pub record IsLastNamed {A : Type 0} (name : List ℕ) (ms : List (Bor (List ℕ) × Value A)) (i : ℕ) : Type 0 where
  pub within : i < length ms
  pub named : (d : Bor (List ℕ) × Value A) → bytes_eq (slice_index_or ms i d).0.now name ≡ true
  pub last : get_member name (members_view (drop (i + 1) ms)) ≡ None
