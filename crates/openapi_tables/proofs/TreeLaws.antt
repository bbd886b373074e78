-- A node and its root: the result of a function for a node, given the root. Also induction on nodes.
use Rattle.std.proofs.Common.{List, [], ◌∷◌, ◌≡◌, refl, ap, ◌∙◌, true}
use Rattle.openapi_tables.specs.Prelude.{each, Entry, Shape, a_null, a_flag, a_whole, a_text, a_list, an_object, Seen}
use Rattle.openapi_tables.specs.Prelude.{items_list, members_list, members_of, on_entry, of_tree, of_items, of_members}
use Rattle.openapi_tables.specs.Prelude.{tree_of_root, is_null}
use Rattle.openapi_node.specs.Tree.{Tree, null, flag, whole, text, list, object, Items, no_items, item, Members}
use Rattle.openapi_node.specs.Tree.{no_members, member, items_of}
use Rattle.openapi_tables.proofs.ListLaws.{Each}

-- items made from a list are listed as that list
pub items_list-of : (ts : List Tree) → items_list (items_of ts) ≡ ts
items_list-of [] = refl
items_list-of (t ∷ ts) = ap (λ l. t ∷ l) (items_list-of ts)

-- items made from the list of some items are those items
pub items_of-list : (ts : Items) → items_of (items_list ts) ≡ ts
items_of-list no_items = refl
items_of-list (item t ts) = ap (item t) (items_of-list ts)

-- members made from a list are listed as that list
pub members_list-of : (es : List (Entry Tree)) → members_list (members_of es) ≡ es
members_list-of [] = refl
members_list-of (e ∷ es) = ap (λ l. e ∷ l) (members_list-of es)

-- members made from the list of some members are those members
pub members_of-list : (ms : Members) → members_of (members_list ms) ≡ ms
members_of-list no_members = refl
members_of-list (member n t ms) = ap (member n t) (members_of-list ms)

-- a node and the result of a function for it
abbrev pub see : {X : Type 0} → (Shape (Seen X) → X) → Tree → Seen X
see f t = record { tree = t; answer = of_tree f t }

-- the results of a function for items are those for each item of their list
pub of_items_lem : {X : Type 0} → (f : Shape (Seen X) → X) (ts : Items) → of_items f ts ≡ each (see f) (items_list ts)
of_items_lem f no_items = refl
of_items_lem f (item t ts) = ap (λ l. see f t ∷ l) (of_items_lem f ts)

-- the results of a function for members are those for each member of their list
pub of_members_lem : {X : Type 0} → (f : Shape (Seen X) → X) (ms : Members)
    → of_members f ms ≡ each (on_entry (see f)) (members_list ms)
of_members_lem f no_members = refl
of_members_lem f (member n t ms) = ap (λ l. on_entry (see f) (record { name = n; value = t }) ∷ l) (of_members_lem f ms)

-- the results of a function for items made from a list are those for each node of the list
pub of_items-of : {X : Type 0} → (f : Shape (Seen X) → X) (ts : List Tree) → of_items f (items_of ts) ≡ each (see f) ts
of_items-of f ts = of_items_lem f (items_of ts) ∙ ap (each (see f)) (items_list-of ts)

-- the results of a function for members made from a list are those for each entry of the list
pub of_members-of : {X : Type 0} → (f : Shape (Seen X) → X) (es : List (Entry Tree))
    → of_members f (members_of es) ≡ each (on_entry (see f)) es
of_members-of f es = of_members_lem f (members_of es) ∙ ap (each (on_entry (see f))) (members_list-of es)

seen_items : {X : Type 0} → (f : Shape (Seen X) → X) (ts : Items) → items_of (each (λ x. x.tree) (of_items f ts)) ≡ ts
seen_items f no_items = refl
seen_items f (item t ts) = ap (item t) (seen_items f ts)

seen_members : {X : Type 0} → (f : Shape (Seen X) → X) (ms : Members)
    → members_of (each (on_entry (λ (x : Seen X). x.tree)) (of_members f ms)) ≡ ms
seen_members f no_members = refl
seen_members f (member n t ms) = ap (member n t) (seen_members f ms)

-- the root of a node, with the results of a function for the nodes inside
abbrev pub seen_root : {X : Type 0} → (Shape (Seen X) → X) → Tree → Shape (Seen X)
seen_root f null = a_null
seen_root f (flag b) = a_flag b
seen_root f (whole z) = a_whole z
seen_root f (text s) = a_text s
seen_root f (list ts) = a_list (of_items f ts)
seen_root f (object ms) = an_object (of_members f ms)

-- the result for a node is `f` of its root with the results for the nodes inside
pub of_tree_lem : {X : Type 0} → (f : Shape (Seen X) → X) (t : Tree) → of_tree f t ≡ f (seen_root f t)
of_tree_lem f null = refl
of_tree_lem f t = refl

-- the node of the root of a node is that node, whatever results the root holds
pub tree_of_root-seen : {X : Type 0} → (f : Shape (Seen X) → X) (t : Tree) → tree_of_root (seen_root f t) ≡ t
tree_of_root-seen f (list ts) = ap list (seen_items f ts)
tree_of_root-seen f (object ms) = ap object (seen_members f ms)
tree_of_root-seen f t = refl

-- `P` holds for each node directly inside
abbrev pub Inside : (Tree → Type 0) → Tree → Type 0
Inside P null = Unit {0}
Inside P (flag b) = Unit {0}
Inside P (whole z) = Unit {0}
Inside P (text s) = Unit {0}
Inside P (list ts) = Each P (items_list ts)
Inside P (object ms) = Each (λ (e : Entry Tree). P e.value) (members_list ms)

-- induction on nodes
mutual
  -- `P` holds for every node, if for each node it follows from `P` for the nodes directly inside
  pub by_trees : (P : Tree → Type 0) → ((t : Tree) → Inside P t → P t) → (t : Tree) → P t
  by_trees P h (list ts) = h (list ts) (by_items P h ts)
  by_trees P h (object ms) = h (object ms) (by_members P h ms)
  by_trees P h t = h t tt

  by_items : (P : Tree → Type 0) → ((t : Tree) → Inside P t → P t) → (ts : Items) → Each P (items_list ts)
  by_items P h no_items = tt
  by_items P h (item t ts) = (by_trees P h t, by_items P h ts)

  by_members : (P : Tree → Type 0) → ((t : Tree) → Inside P t → P t) → (ms : Members)
      → Each (λ (e : Entry Tree). P e.value) (members_list ms)
  by_members P h no_members = tt
  by_members P h (member n t ms) = (by_trees P h t, by_members P h ms)

-- a node that is null by `is_null` is null
pub null_tree : (t : Tree) → is_null t ≡ true → t ≡ null
null_tree null h = refl
null_tree t h = cc
