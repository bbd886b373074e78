-- The values in a part of a list or of an object, one child after another.
use Rattle.std.proofs.Common.{◌≡◌, ℕ, ◌+◌, ◌<◌, ◌≤◌, List, [], ◌∷◌, ◌++◌, length, get_or, take, drop, Bool, true, false}
use Rattle.std.proofs.Common.{cond, Option, None, Some, IfSome, slice_get, refl, sym, ap, ◌∙◌, arith, append_assoc}
use Rattle.std.proofs.lemmas.List.{take_more, take-append-drop}
use Rattle.std.proofs.lemmas.Option.{slice_get_within, get_or_from_slice_get}
use Rattle.std.specs.Str.{bytes_eq}
use Rattle.openapi_map.specs.Entries.{get}
use Rattle.openapi_node.specs.Tree.{Tree, find, object, size_of, items_size, members_size, items_of, members_of}

-- the first i + 1 elements are the first i and the one at index i
pub take_next : {X : Type 0} (xs : List X) (i : ℕ) (x : X) → slice_get xs i ≡ Some x
    → take (i + 1) xs ≡ take i xs ++ x ∷ []
take_next xs i x at = take_more xs i x (slice_get_within xs i x at)
    ∙ ap (λ y. take i xs ++ y ∷ []) (get_or_from_slice_get xs i x x at)

items_size-append : (ts us : List Tree)
    → items_size (items_of (ts ++ us)) ≡ items_size (items_of ts) + items_size (items_of us)
items_size-append [] us = omega arith
items_size-append (t ∷ ts) us = omega (arith, items_size-append ts us)

members_size-append : (ms ns : List (List ℕ × Tree))
    → members_size (members_of (ms ++ ns)) ≡ members_size (members_of ms) + members_size (members_of ns)
members_size-append [] ns = omega arith
members_size-append (m ∷ ms) ns = omega (arith, members_size-append ms ns)

-- a list is the elements before an index, the element at the index, and the rest
split_at : {X : Type 0} (xs : List X) (i : ℕ) (x : X) → take (i + 1) xs ≡ take i xs ++ x ∷ []
    → xs ≡ take i xs ++ x ∷ drop (i + 1) xs
split_at xs i x next = sym (take-append-drop (i + 1) xs) ∙ ap (λ ys. ys ++ drop (i + 1) xs) next
    ∙ append_assoc (take i xs) (x ∷ []) (drop (i + 1) xs)

-- the item at an index adds its size to that of those before it, and the sum is at most the size of all items
pub record NextItem (ts : List Tree) (i : ℕ) (t : Tree) : Type 0 where
  pub adds : items_size (items_of (take (i + 1) ts)) ≡ items_size (items_of (take i ts)) + size_of t
  pub within : items_size (items_of (take i ts)) + size_of t ≤ items_size (items_of ts)

-- this holds for the item at each index within the list
pub next_item : (ts : List Tree) (i : ℕ) (t : Tree) → i < length ts → t ≡ get_or ts i t → NextItem ts i t
next_item ts i t h e =
    let next : take (i + 1) ts ≡ take i ts ++ t ∷ [] =
    take_more ts i t h ∙ ap (λ u. take i ts ++ u ∷ []) (sym e) in
    let longer : items_size (items_of (take i ts ++ t ∷ [])) ≡ items_size (items_of (take i ts)) + size_of t =
    omega (arith, items_size-append (take i ts) (t ∷ [])) in
    let whole : items_size (items_of ts)
    ≡ items_size (items_of (take i ts)) + items_size (items_of (t ∷ drop (i + 1) ts)) =
    ap (λ us. items_size (items_of us)) (split_at ts i t next) ∙ items_size-append (take i ts) (t ∷ drop (i + 1) ts) in
    record { adds = ap (λ us. items_size (items_of us)) next ∙ longer; within = omega (arith, whole) }

pub record NextMember (ms : List (List ℕ × Tree)) (i : ℕ) (t : Tree) : Type 0 where
  pub adds : members_size (members_of (take (i + 1) ms)) ≡ members_size (members_of (take i ms)) + size_of t
  pub within : members_size (members_of (take i ms)) + size_of t ≤ members_size (members_of ms)

-- the member at an index adds its size to that of those before it, and the sum is at most the size of all members
pub next_member : (ms : List (List ℕ × Tree)) (i : ℕ) (m : List ℕ × Tree) → slice_get ms i ≡ Some m
    → NextMember ms i m.1
next_member ms i m at =
    let next = take_next ms i m at in
    let longer : members_size (members_of (take i ms ++ m ∷ [])) ≡ members_size (members_of (take i ms)) + size_of m.1 =
    omega (arith, members_size-append (take i ms) (m ∷ [])) in
    let whole : members_size (members_of ms)
    ≡ members_size (members_of (take i ms)) + members_size (members_of (m ∷ drop (i + 1) ms)) =
    ap (λ ns. members_size (members_of ns)) (split_at ms i m next)
    ∙ members_size-append (take i ms) (m ∷ drop (i + 1) ms) in
    record { adds = ap (λ ns. members_size (members_of ns)) next ∙ longer; within = omega (arith, whole) }

-- the members before an index have no more values than all members
pub members_size-take : (ms : List (List ℕ × Tree)) (i : ℕ)
    → members_size (members_of (take i ms)) ≤ members_size (members_of ms)
members_size-take ms i =
    let whole : members_size (members_of ms)
    ≡ members_size (members_of (take i ms)) + members_size (members_of (drop i ms)) =
    ap (λ ns. members_size (members_of ns)) (sym (take-append-drop i ms))
    ∙ members_size-append (take i ms) (drop i ms) in
    omega (arith, whole)

find_cond : (b : Bool) (t : Tree) (r s : Option Tree) → r ≡ s → cond b (Some t) r ≡ cond b (Some t) s
find_cond b t r s e = ap (λ x. cond b (Some t) x) e

-- the value of a name among entries is the member of that name in the object made of them
pub get-find : (name : List ℕ) (ms : List (List ℕ × Tree)) → get name ms ≡ find name (members_of ms)
get-find name [] = refl
get-find name (m ∷ ms) = find_cond (bytes_eq name m.0) m.1 _ _ (get-find name ms)

-- a member is smaller than its object
pub find-smaller : (name : List ℕ) (ms : List (List ℕ × Tree))
    → IfSome (find name (members_of ms)) (λ t. size_of t < size_of (object (members_of ms)))
find-smaller name [] = tt
find-smaller name (m ∷ ms) = by (bytes_eq name m.0) (find name (members_of ms)) (find-smaller name ms)
  where
    by : (b : Bool) (r : Option Tree) → IfSome r (λ t. size_of t < size_of (object (members_of ms)))
        → IfSome (cond b (Some m.1) r) (λ t. size_of t < size_of (object (members_of (m ∷ ms))))
    by true r h = omega arith
    by false None h = tt
    by false (Some t) h = omega arith
