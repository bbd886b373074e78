-- Induction on nodes whose objects name no member twice.
use Rattle.std.proofs.Common.{◌≡◌, true, List, [], ◌∷◌, sym, subst}
use Rattle.openapi_node.specs.Named.{well_named}
use Rattle.openapi_node.specs.Tree.{Tree, list, object}
use Rattle.openapi_tables.specs.Tree.{Entry, items_list, members_list}
use Rattle.openapi_tables.proofs.DistinctLaws.{Differ, of_list_named, of_object}
use Rattle.openapi_tables.proofs.ListLaws.{Each}
use Rattle.openapi_tables.proofs.TreeLaws.{Inside, by_trees, members_of-list}

-- the members of an object have different names
abbrev pub NamesDiffer : Tree → Type 0
NamesDiffer (object ms) = Differ (members_list ms)
NamesDiffer t = Unit {0}

each_then : {X : Type 0} → (P Q : X → Type 0) (xs : List X) → Each P xs → Each (λ x. P x → Q x) xs → Each Q xs
each_then P Q [] h f = tt
each_then P Q (x ∷ xs) h f = (f.0 h.0, each_then P Q xs h.1 f.1)

-- if a claim follows for a node from the same claim for the nodes directly inside it, it holds for every node
pub by_named_trees : (P : Tree → Type 0) → ((t : Tree) → Inside P t → NamesDiffer t → P t) → (t : Tree)
    → well_named t ≡ true → P t
by_named_trees P f t = by_trees (λ u. well_named u ≡ true → P u) step t
  where
    step : (u : Tree) → Inside (λ v. well_named v ≡ true → P v) u → well_named u ≡ true → P u
    step (list ts) g h = f (list ts) (each_then (λ v. well_named v ≡ true) P (items_list ts) (of_list_named ts h) g) tt
    step (object ms) g h =
        let w = of_object (members_list ms) (subst (λ m. well_named (object m) ≡ true) (sym (members_of-list ms)) h) in
        f (object ms)
        (each_then (λ (e : Entry Tree). well_named e.value ≡ true) (λ e. P e.value) (members_list ms) w.1 g) w.0
    step u g h = f u tt tt
