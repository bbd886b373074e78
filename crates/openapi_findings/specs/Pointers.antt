-- The value to which a reference leads in its document. The reference is a JSON Pointer (RFC 6901) as the fragment of a URI.
use Rattle.std.specs.Prelude.{ℕ, suc, zero, Bool, false, cond, not, ◌&&◌, ◌||◌, ◌==◌, List, [], ◌∷◌, codes, drop, is_some, length, nat_lt, slice_index, Option, Some, None, option_and_then}
use Rattle.std.specs.Str.{all_ascii_digits, is_utf8}
use Rattle.std.specs.Str.Parse.{digits_value}
use Rattle.percent_encoding.specs.Percent.{percent_decode}
use Rattle.openapi_node.specs.Tree.{Tree, list, object, Items, no_items, item, find}
use Rattle.openapi_pointer.specs.Tokens.{digit_0, name_in, tokens_in}
use Rattle.openapi_tables.specs.Kind.{begins}

-- whether a token begins with `0` and is longer than one byte
abbrev pub has_leading_zero : List ℕ → Bool
has_leading_zero token = nat_lt 1 (length token) && slice_index token 0 == digit_0

-- whether a reference token is an index: digits without a leading zero
abbrev pub is_index : List ℕ → Bool
is_index [] = false
is_index (b ∷ bs) = all_ascii_digits (b ∷ bs) && not (has_leading_zero (b ∷ bs))

-- the index that a reference token represents, if it is one
abbrev pub index_in : List ℕ → Option ℕ
index_in token = cond (is_index token) (Some (digits_value 10 token)) None

-- the item at an index
abbrev pub item_at : ℕ → Items → Option Tree
item_at i no_items = None
item_at zero (item t ts) = Some t
item_at (suc i) (item t ts) = item_at i ts

-- the value to which a reference token leads from another
abbrev pub value_below : List ℕ → Tree → Option Tree
value_below token (object ms) = option_and_then (λ n. find n ms) (name_in token)
value_below token (list ts) = option_and_then (λ i. item_at i ts) (index_in token)
value_below token t = None

-- the value to which reference tokens lead
abbrev pub value_at : List (List ℕ) → Tree → Option Tree
value_at [] t = Some t
value_at (token ∷ tokens) t = option_and_then (value_at tokens) (value_below token t)

-- whether a pointer, given without its first `/`, leads to a value
abbrev pub pointer_leads : List ℕ → Tree → Bool
pointer_leads pointer t = is_some (value_at (tokens_in pointer) t)

-- the same for the fragment of a URI after `#/`: a pointer in UTF-8, with percent-encoding
abbrev pub fragment_leads : List ℕ → Tree → Bool
fragment_leads fragment t = is_utf8 (percent_decode fragment) && pointer_leads (percent_decode fragment) t

-- whether a reference leads to a value of a document, or does not begin with `#/`, so is not within it
abbrev pub leads_to_value : List ℕ → Tree → Bool
leads_to_value reference t = not (begins (codes "#/") reference) || fragment_leads (drop 2 reference) t
