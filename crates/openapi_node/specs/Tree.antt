-- What a node is: a JSON value whose numbers are whole, with an order of the members of each object.
use Rattle.std.specs.Prelude.{◌≡◌, ℕ, suc, ◌+◌, Bool, ℤ, List, [], ◌∷◌, Option, Some, None, if◌then◌else◌}
use Rattle.std.specs.Coded.{Coded, coded_bool, coded_ℤ, coded_ℕ, coded_list}
use Rattle.std.proofs.Common.{refl, ap}
use Rattle.std.specs.Str.{bytes_eq}
use base.Stored.{Gv, gnil, gnum, gcons}

-- a JSON value, the items of a list, and the members of an object, each with its name as bytes
mutual
  pub data Tree : Type 0 where
    null : Tree
    flag : Bool → Tree
    whole : ℤ → Tree
    text : List ℕ → Tree
    list : Items → Tree
    object : Members → Tree

  pub data Items : Type 0 where
    no_items : Items
    item : Tree → Items → Items

  pub data Members : Type 0 where
    no_members : Members
    member : List ℕ → Tree → Members → Members

-- these nodes as the items of a list
abbrev pub items_of : List Tree → Items
items_of [] = no_items
items_of (t ∷ ts) = item t (items_of ts)

-- these nodes, each beside its name, as the members of an object
abbrev pub members_of : List (List ℕ × Tree) → Members
members_of [] = no_members
members_of (m ∷ ms) = member m.0 m.1 (members_of ms)

-- the member of a name, the first one if the name is repeated
abbrev pub find : List ℕ → Members → Option Tree
find name no_members = None
find name (member k t ms) = if bytes_eq name k then Some t else find name ms

-- what a node holds, if it is of the variant: a flag, a whole number, a string, a list or an object
abbrev pub flag_in : Tree → Option Bool
flag_in (flag b) = Some b
flag_in _ = None

abbrev pub whole_in : Tree → Option ℤ
whole_in (whole z) = Some z
whole_in _ = None

abbrev pub text_in : Tree → Option (List ℕ)
text_in (text s) = Some s
text_in _ = None

abbrev pub items_in : Tree → Option Items
items_in (list ts) = Some ts
items_in _ = None

abbrev pub members_in : Tree → Option Members
members_in (object ms) = Some ms
members_in _ = None

-- the number of values in a node, itself included
abbrev mutual
  pub size_of : Tree → ℕ
  size_of null = 1
  size_of (flag b) = 1
  size_of (whole z) = 1
  size_of (text s) = 1
  size_of (list ts) = suc (items_size ts)
  size_of (object ms) = suc (members_size ms)

  pub items_size : Items → ℕ
  items_size no_items = 0
  items_size (item t ts) = size_of t + items_size ts

  pub members_size : Members → ℕ
  members_size no_members = 0
  members_size (member k t ms) = size_of t + members_size ms

-- how the logic stores a node
abbrev mutual
  pub tree_stored : Tree → Gv
  tree_stored null = gnil
  tree_stored (flag b) = gcons gnil (gcons gnil (coded_bool.code b))
  tree_stored (whole z) = gcons (gcons gnil gnil) (coded_ℤ.code z)
  tree_stored (text s) = gcons (gcons gnil (gcons gnil gnil)) ((coded_list coded_ℕ).code s)
  tree_stored (list ts) = gcons (gcons gnil (gcons gnil (gcons gnil gnil))) (items_stored ts)
  tree_stored (object ms) = gcons (gcons gnil (gcons gnil (gcons gnil (gcons gnil gnil)))) (members_stored ms)

  pub items_stored : Items → Gv
  items_stored no_items = gnil
  items_stored (item t ts) = gcons (tree_stored t) (items_stored ts)

  pub members_stored : Members → Gv
  members_stored no_members = gnil
  members_stored (member k t ms) = gcons ((coded_list coded_ℕ).code k) (gcons (tree_stored t) (members_stored ms))

-- the first and the second part of a stored pair, or `gnil` if it is no pair
abbrev first : Gv → Gv
first (gcons a b) = a
first gnil = gnil
first (gnum n) = gnil

abbrev second : Gv → Gv
second (gcons a b) = b
second gnil = gnil
second (gnum n) = gnil

-- different nodes are stored differently
mutual
  pub tree_inj : (t u : Tree) → tree_stored t ≡ tree_stored u → t ≡ u
  tree_inj null null p = refl
  tree_inj (flag a) (flag b) p = ap flag (coded_bool.inj a b (ap (λ g. second (second g)) p))
  tree_inj (whole a) (whole b) p = ap whole (coded_ℤ.inj a b (ap second p))
  tree_inj (text a) (text b) p = ap text ((coded_list coded_ℕ).inj a b (ap second p))
  tree_inj (list ts) (list us) p = ap list (items_inj ts us (ap second p))
  tree_inj (object ms) (object ns) p = ap object (members_inj ms ns (ap second p))
  tree_inj t u p = cc

  items_inj : (ts us : Items) → items_stored ts ≡ items_stored us → ts ≡ us
  items_inj no_items no_items p = refl
  items_inj (item t ts) (item u us) p = λ i. item (tree_inj t u (ap first p) i) (items_inj ts us (ap second p) i)
  items_inj ts us p = cc

  members_inj : (ms ns : Members) → members_stored ms ≡ members_stored ns → ms ≡ ns
  members_inj no_members no_members p = refl
  members_inj (member k t ms) (member l u ns) p =
      λ i. member ((coded_list coded_ℕ).inj k l (ap first p) i) (tree_inj t u (ap (λ g. first (second g)) p) i)
      (members_inj ms ns (ap (λ g. second (second g)) p) i)
  members_inj ms ns p = cc

-- nodes as values that the logic can store
abbrev pub tree_code : Coded Tree
tree_code = record { code = tree_stored; inj = tree_inj }
