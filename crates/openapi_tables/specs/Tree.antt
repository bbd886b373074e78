-- Nodes (JSON values): their items and members as lists, the root of a node, and recursion over a node.
use Rattle.std.specs.Prelude.{ℕ, ℤ, Bool, List, [], ◌∷◌}
use Rattle.openapi_node.specs.Tree.{Tree, null, flag, whole, text, list, object, Items, no_items, item, Members}
use Rattle.openapi_node.specs.Tree.{no_members, member}

-- A name and the value at that name, such as a member of an object.
pub record Entry (X : Type 0) : Type 0 where
  pub name : List ℕ
  pub value : X

-- The root of a node: its type of JSON value with its data, and an X for each item or member value inside.
pub data Shape (X : Type 0) : Type 0 where
  a_null : Shape X
  a_flag : Bool → Shape X
  a_whole : ℤ → Shape X
  a_text : List ℕ → Shape X
  a_list : List X → Shape X
  an_object : List (Entry X) → Shape X

-- A node and the result of a function for it.
pub record Seen (X : Type 0) : Type 0 where
  pub tree : Tree
  pub answer : X

-- items as a list of nodes
abbrev pub items_list : Items → List Tree
items_list no_items = []
items_list (item t ts) = t ∷ items_list ts

-- members as a list of entries
abbrev pub members_list : Members → List (Entry Tree)
members_list no_members = []
members_list (member n t ms) = record { name = n; value = t } ∷ members_list ms

-- a list of entries as members
abbrev pub members_of : List (Entry Tree) → Members
members_of [] = no_members
members_of (e ∷ es) = member e.name e.value (members_of es)

-- an entry with the same name and with `f` of its value
abbrev pub on_entry : {X Y : Type 0} → (X → Y) → Entry X → Entry Y
on_entry f e = record { name = e.name; value = f e.value }

-- Recursion over a node: `of_tree f` is `f` of the root, which holds each item and member value with its own result.
abbrev mutual
  pub of_tree : {X : Type 0} → (Shape (Seen X) → X) → Tree → X
  of_tree f null = f a_null
  of_tree f (flag b) = f (a_flag b)
  of_tree f (whole z) = f (a_whole z)
  of_tree f (text s) = f (a_text s)
  of_tree f (list ts) = f (a_list (of_items f ts))
  of_tree f (object ms) = f (an_object (of_members f ms))

  pub of_items : {X : Type 0} → (Shape (Seen X) → X) → Items → List (Seen X)
  of_items f no_items = []
  of_items f (item t ts) = record { tree = t; answer = of_tree f t } ∷ of_items f ts

  pub of_members : {X : Type 0} → (Shape (Seen X) → X) → Members → List (Entry (Seen X))
  of_members f no_members = []
  of_members f (member n t ms) = record { name = n; value = record { tree = t; answer = of_tree f t } }
      ∷ of_members f ms
