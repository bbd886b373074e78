-- The sizes of the elements of a list.
use Rattle.std.proofs.Common.{◌≡◌, ℕ, ◌+◌, ◌<◌, ◌≤◌, List, [], ◌∷◌, length, get_or, drop, sym, ap, ◌∙◌, add-one, arith}
use Rattle.std.proofs.Math.Seq.{drop-cons}
use Rattle.openapi_node.specs.Tree.{Tree, size_of, items_of, items_size}
use Rattle.openapi_fields.proofs.Below.{size-positive}

-- the size of the items from an index on is that of the item at it, and that of the items after it
pub items_size_drop : (ts : List Tree) (i : ℕ) (t : Tree) → i < length ts → t ≡ get_or ts i t
    → items_size (items_of (drop i ts)) ≡ size_of t + items_size (items_of (drop (i + 1) ts))
items_size_drop ts i t low is =
    ap (λ l. items_size (items_of l)) (drop-cons ts i t low)
    ∙ ap (λ u. size_of u + items_size (items_of (drop (ℕ.suc i) ts))) (sym is)
    ∙ ap (λ k. size_of t + items_size (items_of (drop k ts))) (sym (add-one i))

-- a list has at most as many items as its items contain values
pub length-items_size : (ts : List Tree) → length ts ≤ items_size (items_of ts)
length-items_size [] = omega arith
length-items_size (t ∷ ts) = omega (arith, size-positive t, length-items_size ts)
