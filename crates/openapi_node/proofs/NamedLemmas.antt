-- A node has no repeated names if the names of its members are distinct and its children have no repeated names.
use Rattle.std.proofs.Common.{◌≡◌, ℕ, zero, suc, ◌+◌, ◌<◌, not, true, false, List, [], ◌∷◌, ◌++◌, length, take}
use Rattle.std.proofs.Common.{slice_get, Some, refl, sym, ap, subst, ◌∙◌, arith}
use Rattle.std.proofs.lemmas.Bool.{and_parts, and_from}
use Rattle.std.proofs.lemmas.List.{take_more, take_all}
use Rattle.std.proofs.lemmas.Option.{slice_get_within, get_or_from_slice_get}
use Rattle.std.specs.List.{IsDistinct, AllByRecursion}
use Rattle.std.specs.Map.{keys_of, values_of}
use Rattle.std.specs.Str.{bytes_eq}
use Rattle.openapi_map.specs.Entries.{Entries, HasDistinctNames}
use Rattle.openapi_node.specs.Named.{lacks, well_named, items_named, members_named}
use Rattle.openapi_node.specs.Tree.{Tree, items_of, members_of}

items_named-push : (ts : List Tree) (t : Tree) → items_named (items_of ts) ≡ true → well_named t ≡ true
    → items_named (items_of (ts ++ t ∷ [])) ≡ true
items_named-push [] t h g = and_from (well_named t) _ g refl
items_named-push (u ∷ ts) t h g =
    let p = and_parts (well_named u) (items_named (items_of ts)) h in
    and_from (well_named u) _ p.0 (items_named-push ts t p.1 g)

-- if the first `i` items and the next one have no repeated names, the first `i + 1` items have none
pub items_named-next : (ts : List Tree) (i : ℕ) (t : Tree) → slice_get ts i ≡ Some t
    → items_named (items_of (take i ts)) ≡ true → well_named t ≡ true
    → items_named (items_of (take (i + 1) ts)) ≡ true
items_named-next ts i t at h g =
    let within = slice_get_within ts i t at in
    let more : take (i + 1) ts ≡ take i ts ++ t ∷ [] =
    take_more ts i t within ∙ ap (λ x. take i ts ++ x ∷ []) (get_or_from_slice_get ts i t t at) in
    subst (λ us. items_named (items_of us) ≡ true) (sym more) (items_named-push (take i ts) t h g)

-- all items have no repeated names, if the first `i` items have none and are all
pub items_named-all : (ts : List Tree) (i : ℕ) → length ts < i + 1 → items_named (items_of (take i ts)) ≡ true
    → items_named (items_of ts) ≡ true
items_named-all ts i past h = subst (λ us. items_named (items_of us) ≡ true) (take_all i ts (omega (arith, past))) h

lacks-apart : (k : List ℕ) (ms : Entries Tree) → AllByRecursion (λ l. bytes_eq k l ≡ false) (keys_of ms)
    → lacks k (members_of ms) ≡ true
lacks-apart k [] h = refl
lacks-apart k (m ∷ ms) h = and_from (not (bytes_eq k m.0)) _ (ap not h.0) (lacks-apart k ms h.1)

-- members with distinct names, whose values have no repeated names, have none
pub members_named-from : (ms : Entries Tree) → HasDistinctNames ms → items_named (items_of (values_of ms)) ≡ true
    → members_named (members_of ms) ≡ true
unfolding IsDistinct
members_named-from [] d h = refl
members_named-from (m ∷ ms) d h =
    let p = and_parts (well_named m.1) (items_named (items_of (values_of ms))) h in
    and_from (lacks m.0 (members_of ms)) _ (lacks-apart m.0 ms d.0)
    (and_from (well_named m.1) _ p.0 (members_named-from ms d.1 p.1))

-- the value at an index is that of the member there
pub value-at : (ms : Entries Tree) (i : ℕ) (m : List ℕ × Tree) → slice_get ms i ≡ Some m
    → slice_get (values_of ms) i ≡ Some m.1
value-at [] i m h = cc
value-at (n ∷ ms) zero m h = let same : n ≡ m = cc in ap (λ x. Some x.1) same
value-at (n ∷ ms) (suc i) m h = value-at ms i m h

-- there are as many values as members
pub length-values_of : (ms : Entries Tree) → length (values_of ms) ≡ length ms
length-values_of [] = refl
length-values_of (m ∷ ms) = ap suc (length-values_of ms)
