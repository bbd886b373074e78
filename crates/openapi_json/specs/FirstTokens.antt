-- The first tokens of a JSON value and of the values in it, by their numbers.
use Rattle.std.specs.Prelude.{◌≡◌, ℕ, ◌+◌, List, [], ◌∷◌, length}
use Rattle.json.specs.Json.{Json, null, boolean, number, string, array, object, Items, no_items, item, Members, no_members, member}
use Rattle.json.specs.Tree.{json_tokens}
use Rattle.openapi_node.specs.Place.{Step}
use Rattle.openapi_json.specs.Positions.{StepsTo}
use Rattle.openapi_json.specs.declared.first_tokens.FirstToken.{FirstToken}
use Rattle.openapi_json.specs.declared.first_tokens.FirstToken.TheViews.{out-FirstToken}

abbrev pub number_of : FirstToken → ℕ
number_of t = (out-FirstToken t).number

abbrev pub below_of : FirstToken → List FirstToken
below_of t = (out-FirstToken t).below.items

abbrev mutual
  -- `t` is the first token of a value that has `n` tokens of the text before it. For an array or an object, `below_of t`
  -- holds the first tokens of the values directly inside
  pub IsFirst : Json → ℕ → FirstToken → Type 0
  IsFirst null n t = number_of t ≡ n
  IsFirst (boolean b) n t = number_of t ≡ n
  IsFirst (number s) n t = number_of t ≡ n
  IsFirst (string s) n t = number_of t ≡ n
  IsFirst (array js) n t = (number_of t ≡ n) × ItemsAreFirst js (n + 1) (below_of t)
  IsFirst (object ms) n t = (number_of t ≡ n) × MembersAreFirst ms (n + 1) (below_of t)

  -- the tokens are the first ones of items, with `n` tokens of the text before the first item
  pub ItemsAreFirst : Items → ℕ → List FirstToken → Type 0
  ItemsAreFirst no_items n ts = ts ≡ []
  ItemsAreFirst (item j js) n [] = ⊥
  ItemsAreFirst (item j js) n (t ∷ ts) = IsFirst j n t × ItemsAreFirst js (n + length (json_tokens j)) ts

  -- the tokens are the first ones of the values of members, with `n` tokens of the text before the name of the first member
  pub MembersAreFirst : Members → ℕ → List FirstToken → Type 0
  MembersAreFirst no_members n ts = ts ≡ []
  MembersAreFirst (member k j ms) n [] = ⊥
  MembersAreFirst (member k j ms) n (t ∷ ts) = IsFirst j (n + 1) t × MembersAreFirst ms (n + 1 + length (json_tokens j)) ts

-- a step leads from `j`, whose first token has the number `n`, to `k`, whose first token is `t`
pub record LeadsFrom (n : ℕ) (s : Step) (j : Json) (t : FirstToken) (k : Json) : Type 0 where
  pub more : ℕ
  pub step : StepsTo s j more k
  pub number : number_of t ≡ n + more
  pub first : IsFirst k (number_of t) t
