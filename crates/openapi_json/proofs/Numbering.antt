-- The first tokens of the values inside a value, by their numbers.
use Rattle.std.proofs.Common.{◌≡◌, ℕ, zero, suc, ◌+◌, ◌<◌, ◌≤◌, List, [], ◌∷◌, ◌++◌, Option, Some, None, option_map, drop, get_or, length, take}
use Rattle.std.proofs.Common.{append-nil, length-append, sym, ap, subst, arith, refl}
use Rattle.std.proofs.lemmas.List.{drop_all}
use Rattle.std.specs.Borrow.{Bor}
use Rattle.json.proofs.Found.{not_found, Some_inj}
use Rattle.json.specs.Json.{Json, null, boolean, number, string, array, object}
use Rattle.json.specs.Tree.{json_tokens}
use Rattle.json.specs.Value.{value_view, items_view, members_view}
use Rattle.json.specs.declared.value.Value.{Value}
use Rattle.openapi_node.specs.Place.{indexed, named}
use Rattle.openapi_json.specs.FirstTokens.{IsFirst, ItemsAreFirst, LeadsFrom, MembersAreFirst, number_of}
use Rattle.openapi_json.specs.Positions.{flat, IsLastNamed, item_tokens, member_tokens}
use Rattle.openapi_json.specs.declared.first_tokens.FirstToken.{FirstToken}
use Rattle.openapi_json.proofs.Positions.{item_steps, member_steps}

-- there is one first token for each item, and for each member
pub items_length : {A : Type 0} (vs : List (Value A)) (n : ℕ) (ts : List FirstToken) → ItemsAreFirst (items_view vs) n ts
    → length ts ≡ length vs
items_length [] n ts h = ap length h
items_length (v ∷ vs) n [] h = absurd h
items_length (v ∷ vs) n (t ∷ ts) h = ap suc (items_length vs (n + length (json_tokens (value_view v))) ts h.1)

pub members_length : {A : Type 0} (ms : List (Bor (List ℕ) × Value A)) (n : ℕ) (ts : List FirstToken)
    → MembersAreFirst (members_view ms) n ts → length ts ≡ length ms
members_length [] n ts h = ap length h
members_length (m ∷ ms) n [] h = absurd h
members_length (m ∷ ms) n (t ∷ ts) h = ap suc (members_length ms (n + 1 + length (json_tokens (value_view m.1))) ts h.1)

-- the first token of a value has the number of tokens before the value as its number
pub first_number : (j : Json) (n : ℕ) (t : FirstToken) → IsFirst j n t → number_of t ≡ n
first_number null n t h = h
first_number (boolean b) n t h = h
first_number (number s) n t h = h
first_number (string s) n t h = h
first_number (array js) n t h = h.0
first_number (object ms) n t h = h.0

pub first_of_own : (j : Json) (n : ℕ) (t : FirstToken) → IsFirst j n t → IsFirst j (number_of t) t
first_of_own j n t h = subst (λ m. IsFirst j m t) (sym (first_number j n t h)) h

-- the first token at an index is that of the item there, or that of the value of the member there
item_first : {A : Type 0} (vs : List (Value A)) (i n : ℕ) (ts : List FirstToken) (d : Value A) (e : FirstToken) → i < length vs
    → ItemsAreFirst (items_view vs) n ts
    → IsFirst (value_view (get_or vs i d)) (n + length (flat item_tokens (take i vs))) (get_or ts i e)
item_first [] i n ts d e h a = absurd (omega (arith, h))
item_first (v ∷ vs) i n [] d e h a = absurd a
item_first (v ∷ vs) zero n (t ∷ ts) d e h a = subst (λ m. IsFirst (value_view v) m t) (omega arith) a.0
item_first (v ∷ vs) (suc i) n (t ∷ ts) d e h a =
    subst (λ m. IsFirst (value_view (get_or vs i d)) m (get_or ts i e))
    (omega (arith, length-append (item_tokens v) (flat item_tokens (take i vs))))
    (item_first vs i (n + length (json_tokens (value_view v))) ts d e (omega (arith, h)) a.1)

member_first : {A : Type 0} (ms : List (Bor (List ℕ) × Value A)) (i n : ℕ) (ts : List FirstToken) (d : Bor (List ℕ) × Value A)
    (e : FirstToken) → i < length ms → MembersAreFirst (members_view ms) n ts
    → IsFirst (value_view (get_or ms i d).1) (n + 1 + length (flat member_tokens (take i ms))) (get_or ts i e)
member_first [] i n ts d e h a = absurd (omega (arith, h))
member_first (m ∷ ms) i n [] d e h a = absurd a
member_first (m ∷ ms) zero n (t ∷ ts) d e h a = subst (λ k. IsFirst (value_view m.1) k t) (omega arith) a.0
member_first (m ∷ ms) (suc i) n (t ∷ ts) d e h a =
    subst (λ k. IsFirst (value_view (get_or ms i d).1) k (get_or ts i e))
    (omega (arith, length-append (json_tokens (value_view m.1)) (flat member_tokens (take i ms))))
    (member_first ms i (n + 1 + length (json_tokens (value_view m.1))) ts d e (omega (arith, h)) a.1)

-- after the loops, the first tokens are those of all items or members
pub all_items : {A : Type 0} (vs ws : List (Value A)) (n m i : ℕ) (ts : List FirstToken) → ws ≡ vs → length ws ≤ i
    → ((us : List FirstToken) → ItemsAreFirst (items_view (drop i ws)) m us → ItemsAreFirst (items_view ws) n (ts ++ us))
    → ItemsAreFirst (items_view vs) n ts
all_items vs ws n m i ts same h f =
    subst (λ xs. ItemsAreFirst (items_view xs) n ts) same
    (subst (ItemsAreFirst (items_view ws) n) (append-nil ts)
    (f [] (subst (λ xs. ItemsAreFirst (items_view xs) m []) (sym (drop_all i ws h)) refl)))

pub all_members : {A : Type 0} (ms ns : List (Bor (List ℕ) × Value A)) (n m i : ℕ) (ts : List FirstToken) → ns ≡ ms → length ns ≤ i
    → ((us : List FirstToken) → MembersAreFirst (members_view (drop i ns)) m us → MembersAreFirst (members_view ns) n (ts ++ us))
    → MembersAreFirst (members_view ms) n ts
all_members ms ns n m i ts same h f =
    subst (λ xs. MembersAreFirst (members_view xs) n ts) same
    (subst (MembersAreFirst (members_view ns) n) (append-nil ts)
    (f [] (subst (λ xs. MembersAreFirst (members_view xs) m []) (sym (drop_all i ns h)) refl)))

-- a step leads to the value at the index, whose first token is the one at the index
pub leads_to_item : {A : Type 0} (vs : List (Value A)) (i n : ℕ) (ts : List FirstToken) (d : Value A) (e : FirstToken)
    → i < length vs → ItemsAreFirst (items_view vs) (n + 1) ts
    → LeadsFrom n (indexed i) (array (items_view vs)) (get_or ts i e) (value_view (get_or vs i d))
leads_to_item vs i n ts d e h a =
    let k = value_view (get_or vs i d) in
    let first = item_first vs i (n + 1) ts d e h a in
    let number = first_number k (n + 1 + length (flat item_tokens (take i vs))) (get_or ts i e) first in
    record {
      more = 1 + length (flat item_tokens (take i vs));
      step = item_steps vs i d h;
      number = omega (arith, number);
      first = first_of_own k (n + 1 + length (flat item_tokens (take i vs))) (get_or ts i e) first;
    }

pub leads_to_member : {A : Type 0} (name : List ℕ) (ms : List (Bor (List ℕ) × Value A)) (i n : ℕ) (ts : List FirstToken)
    (d : Bor (List ℕ) × Value A) (e : FirstToken) → IsLastNamed name ms i → MembersAreFirst (members_view ms) (n + 1) ts
    → LeadsFrom n (named name) (object (members_view ms)) (get_or ts i e) (value_view (get_or ms i d).1)
leads_to_member name ms i n ts d e it a =
    let k = value_view (get_or ms i d).1 in
    let first = member_first ms i (n + 1) ts d e it.within a in
    let number = first_number k (n + 1 + 1 + length (flat member_tokens (take i ms))) (get_or ts i e) first in
    record {
      more = 2 + length (flat member_tokens (take i ms));
      step = member_steps name d ms i it.within (it.named d) it.last;
      number = omega (arith, number);
      first = first_of_own k (n + 1 + 1 + length (flat member_tokens (take i ms))) (get_or ts i e) first;
    }

-- if a first token has the number 0, a number counted from it is the number itself
pub from_zero : (t n : ℕ) (o : Option ℕ) → t ≡ 0 → Some n ≡ option_map (λ k. t + k) o → o ≡ Some n
from_zero t n None e h = not_found n (sym h)
from_zero t n (Some k) e h = let is : k ≡ n = omega (arith, e, Some_inj n (t + k) h) in ap Some is

pub none_below : (t : ℕ) (o : Option ℕ) → None ≡ option_map (λ k. t + k) o → o ≡ None
none_below t None h = refl
none_below t (Some k) h = not_found (t + k) h
