-- The entries of an enumeration, which are held as nodes.
use Rattle.std.proofs.Common.{◌≡◌, ℕ, ◌+◌, ◌*◌, ◌<◌, ◌≤◌, true, ◌&&◌, List, [], ◌∷◌, Option, Some, None, Result, Ok}
use Rattle.std.proofs.Common.{Err, IfOk, refl, ap, arith}
use Rattle.std.specs.Borrow.{Bor}
use Rattle.openapi_node.specs.Tree.{Tree, list, items_of, items_size, size_of}
use Rattle.openapi_node.specs.declared.fault.Fault.{Fault}
use Rattle.openapi_tables.specs.Prelude.{each, every, any_tree, list_of, final_tables, conforms, leaf, form}
use Rattle.openapi_tables.proofs.ByRowLaws.{any_conforms, any_form}
use Rattle.openapi_fields.specs.Presence.{AtMember}
use Rattle.openapi_fields.proofs.Elements.{list_gives}
use Rattle.openapi_schema.specs.KindNames.{trees_form}
use Rattle.openapi_schema.specs.Kinds.{entries_weight, trees_in}

-- every node conforms to the kind `any_tree`, and its form is the node itself
all_conform : (ts : List Tree) → every (conforms final_tables any_tree) ts ≡ true
all_conform [] = refl
all_conform (t ∷ ts) = λ i. any_conforms final_tables t i && all_conform ts i

all_leaves : (ts : List Tree) → each (form final_tables any_tree) ts ≡ each leaf ts
all_leaves [] = refl
all_leaves (t ∷ ts) = λ i. any_form final_tables t i ∷ all_leaves ts i

-- a list of any nodes conforms, and its form holds them as they are
pub trees_read : (ts : List Tree) → (conforms final_tables (list_of any_tree) (list (items_of ts)) ≡ true)
    × (form final_tables (list_of any_tree) (list (items_of ts)) ≡ trees_form ts)
trees_read ts = list_gives any_tree ts (each leaf ts) (all_conform ts) (all_leaves ts)

-- after one access to a list, a bound of three accesses for each value leaves two for each value in its elements
pub entries_left : (n : List ℕ) (r : Result (Bor (List Tree)) Fault) (s : Result (Option (Bor (List Tree))) Fault)
    (t : Tree) (w old new : ℕ) → AtMember n r s → IfOk r (λ nodes. items_size (items_of nodes.now) < size_of t)
    → new ≡ old + 1 → size_of t ≤ w → IfOk s (λ o. new + 2 * entries_weight (trees_in o) ≤ old + 3 * w)
entries_left n (Ok x) (Ok (Some y)) t w old new e h c l =
    let same = ap (λ (nodes : Bor (List Tree)). items_size (items_of nodes.now)) e in
    omega (arith, same, h, c, l)
entries_left n (Ok x) (Ok None) t w old new e h c l = absurd e
entries_left n (Ok x) (Err f) t w old new e h c l = tt
entries_left n (Err d) (Ok y) t w old new e h c l = absurd e
entries_left n (Err d) (Err f) t w old new e h c l = tt
