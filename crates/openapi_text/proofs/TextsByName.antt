-- The node that a text is read as by name is sorted by name, and so is any node after sorting.
use Rattle.std.proofs.Common.{◌≡◌, ℕ, List, [], ◌∷◌, true, not, ◌&&◌, Option, Some, None, IfSome, option_map, option_and_then}
use Rattle.std.proofs.Common.{Ordering, Less, Equal, Greater, nat_cmp, is_eq, bytes_eq, refl, sym, ap, subst, ◌∙◌}
use Rattle.std.proofs.lemmas.Bool.{and_from}
use Rattle.std.proofs.lemmas.Map.Text.{is_eq-slice_cmp}
use Rattle.std.specs.Cmp.Lexicographic.{slice_cmp}
use Rattle.std.specs.Ordering.{match_ordering}
use Rattle.json.specs.Json as grammar
use Rattle.serde_json.specs.Data as json
use Rattle.serde_json.specs.Data.{Data, put}
use Rattle.serde_json.specs.Read.{number_of, of_json, of_items, of_members, read}
use Rattle.openapi_node.proofs.DataOrder as data_order
use Rattle.openapi_node.proofs.DataOrder.{InOrder, InOrder-put}
use Rattle.openapi_node.specs.Json.{data_of, items_data, items_of_data, members_data, members_of_data, number_tree, tree_of_data}
use Rattle.openapi_node.specs.Named.{items_named, lacks, members_named, well_named}
use Rattle.openapi_node.specs.Tree as tree
use Rattle.openapi_node.specs.Tree.{Tree, object}
use Rattle.openapi_json.specs.Ordered.{parsed}
use Rattle.openapi_json.specs.Reading.{IsTreeOfText}
use Rattle.openapi_json.specs.Writing.{tree_by_name}
use Rattle.openapi_json.proofs.Numbers.{whole_tree}
use Rattle.openapi_tables.specs.Prelude.{each, on_entry, members_list, members_of}
use Rattle.openapi_tables.proofs.TreeLaws.{members_of-list}
use Rattle.openapi_text.proofs.Sorting.{Ascends, Below, in_turn, sorted_object}

-- the members of each object are sorted by name
abbrev mutual
  IsOrdered : Data → Type 0
  IsOrdered json.null = Unit {0}
  IsOrdered (json.boolean b) = Unit {0}
  IsOrdered (json.number n) = Unit {0}
  IsOrdered (json.string s) = Unit {0}
  IsOrdered (json.array ds) = AreOrdered ds
  IsOrdered (json.object ms) = InOrder ms × AreMembersOrdered ms

  AreOrdered : json.Items → Type 0
  AreOrdered json.no_items = Unit {0}
  AreOrdered (json.item d ds) = IsOrdered d × AreOrdered ds

  AreMembersOrdered : json.Members → Type 0
  AreMembersOrdered json.no_members = Unit {0}
  AreMembersOrdered (json.member k d ms) = IsOrdered d × AreMembersOrdered ms

put_ordered : (k : List ℕ) (d : Data) (ms : json.Members) → IsOrdered d → AreMembersOrdered ms → AreMembersOrdered (put k d ms)
put_ordered k d json.no_members p g = (p, tt)
put_ordered k d (json.member l e ms) p g = by (slice_cmp nat_cmp k l) (put_ordered k d ms p g.1)
  where
    by : (o : Ordering) → AreMembersOrdered (put k d ms)
        → AreMembersOrdered (match_ordering o (json.member k d (json.member l e ms)) (json.member l d ms) (json.member l e (put k d ms)))
    by Less r = (p, g)
    by Equal r = (p, g.1)
    by Greater r = (g.0, r)

some_map : {A B : Type 0} (P : A → Type 0) (Q : B → Type 0) (f : A → B) → ((a : A) → P a → Q (f a)) → (o : Option A)
    → IfSome o P → IfSome (option_map f o) Q
some_map P Q f g None h = tt
some_map P Q f g (Some a) h = g a h

some_then : {A B : Type 0} (P : A → Type 0) (Q : B → Type 0) (f : A → Option B) → ((a : A) → P a → IfSome (f a) Q)
    → (o : Option A) → IfSome o P → IfSome (option_and_then f o) Q
some_then P Q f g None h = tt
some_then P Q f g (Some a) h = g a h

any_some : {A : Type 0} (o : Option A) → IfSome o (λ a. Unit {0})
any_some None = tt
any_some (Some a) = tt

abbrev FineMembers : json.Members → Type 0
FineMembers ms = InOrder ms × AreMembersOrdered ms

mutual
  ordered : (j : grammar.Json) → IfSome (of_json j) IsOrdered
  ordered grammar.null = tt
  ordered (grammar.boolean b) = tt
  ordered (grammar.number s) = some_map (λ n. Unit {0}) IsOrdered json.number (λ n h. tt) (number_of s) (any_some (number_of s))
  ordered (grammar.string s) = tt
  ordered (grammar.array js) = some_map AreOrdered IsOrdered json.array (λ ds h. h) (of_items js) (items_ordered js)
  ordered (grammar.object ms) =
      some_map FineMembers IsOrdered json.object (λ ds h. h) (of_members ms json.no_members)
      (members_ordered ms json.no_members (tt, tt))

  items_ordered : (js : grammar.Items) → IfSome (of_items js) AreOrdered
  items_ordered grammar.no_items = tt
  items_ordered (grammar.item j js) =
      some_then IsOrdered AreOrdered (λ d. option_map (json.item d) (of_items js))
      (λ d h. some_map AreOrdered AreOrdered (json.item d) (λ ds g. (h, g)) (of_items js) (items_ordered js)) (of_json j) (ordered j)

  members_ordered : (ms : grammar.Members) (done : json.Members) → FineMembers done → IfSome (of_members ms done) FineMembers
  members_ordered grammar.no_members done g = g
  members_ordered (grammar.member k j ms) done g =
      some_then IsOrdered FineMembers (λ d. of_members ms (put k d done))
      (λ d h. members_ordered ms (put k d done) (InOrder-put k d done g.0, put_ordered k d done h g.1)) (of_json j) (ordered j)

mutual
  data_ordered : (t : Tree) → IsOrdered (data_of t)
  data_ordered tree.null = tt
  data_ordered (tree.flag b) = tt
  data_ordered (tree.whole z) = tt
  data_ordered (tree.text s) = tt
  data_ordered (tree.list ts) = items_data_ordered ts
  data_ordered (tree.object ms) = members_data_ordered ms json.no_members (tt, tt)

  items_data_ordered : (ts : tree.Items) → AreOrdered (items_data ts)
  items_data_ordered tree.no_items = tt
  items_data_ordered (tree.item t ts) = (data_ordered t, items_data_ordered ts)

  members_data_ordered : (ms : tree.Members) (done : json.Members) → FineMembers done → FineMembers (members_data ms done)
  members_data_ordered tree.no_members done g = g
  members_data_ordered (tree.member k t ms) done g =
      members_data_ordered ms (put k (data_of t) done)
      (InOrder-put k (data_of t) done g.0, put_ordered k (data_of t) done (data_ordered t) g.1)

-- ---- the nodes of such data
below_tree : (k : List ℕ) (ms : json.Members) → data_order.Below k ms → Below k (members_list (members_of_data ms))
below_tree k json.no_members b = tt
below_tree k (json.member l d ms) b = (b.0, below_tree k ms b.1)

ascends_tree : (ms : json.Members) → InOrder ms → Ascends (members_list (members_of_data ms))
ascends_tree json.no_members o = tt
ascends_tree (json.member k d ms) o = (below_tree k ms o.0, ascends_tree ms o.1)

lacks_below : (k : List ℕ) (ms : json.Members) → data_order.Below k ms → lacks k (members_of_data ms) ≡ true
lacks_below k json.no_members b = refl
lacks_below k (json.member l d ms) b =
    and_from (not (bytes_eq k l)) (lacks k (members_of_data ms)) (ap not (sym (is_eq-slice_cmp k l) ∙ ap is_eq b.0))
    (lacks_below k ms b.1)

number_stands : (n : json.Num) → tree_by_name (number_tree n) ≡ number_tree n
number_stands (json.unsigned n) = refl
number_stands (json.negative z) = whole_tree z
number_stands (json.float x) = refl

number_named : (n : json.Num) → well_named (number_tree n) ≡ true
number_named (json.unsigned n) = refl
number_named (json.negative z) = refl
number_named (json.float x) = refl

mutual
  stands : (d : Data) → IsOrdered d → tree_by_name (tree_of_data d) ≡ tree_of_data d
  stands json.null h = refl
  stands (json.boolean b) h = refl
  stands (json.number n) h = number_stands n
  stands (json.string s) h = refl
  stands (json.array ds) h = ap tree.list (items_stand ds h)
  stands (json.object ms) h =
      let es = members_list (members_of_data ms) in
      let same = members_of-list (members_of_data ms) in
      subst (λ x. tree_by_name (object x) ≡ object x) same
      (sorted_object es ∙ ap (λ l. object (members_of l)) (in_turn [] es (ascends_tree ms h.0) ∙ members_stand ms h.1))

  items_stand : (ds : json.Items) → AreOrdered ds → items_of_data (items_data (items_of_data ds)) ≡ items_of_data ds
  items_stand json.no_items h = refl
  items_stand (json.item d ds) h = λ i. tree.item (stands d h.0 i) (items_stand ds h.1 i)

  members_stand : (ms : json.Members) → AreMembersOrdered ms
      → each (on_entry tree_by_name) (members_list (members_of_data ms)) ≡ members_list (members_of_data ms)
  members_stand json.no_members h = refl
  members_stand (json.member k d ms) h = λ i. record { name = k; value = stands d h.0 i } ∷ members_stand ms h.1 i

mutual
  named : (d : Data) → IsOrdered d → well_named (tree_of_data d) ≡ true
  named json.null h = refl
  named (json.boolean b) h = refl
  named (json.number n) h = number_named n
  named (json.string s) h = refl
  named (json.array ds) h = all_named ds h
  named (json.object ms) h = members_are_named ms h.0 h.1

  all_named : (ds : json.Items) → AreOrdered ds → items_named (items_of_data ds) ≡ true
  all_named json.no_items h = refl
  all_named (json.item d ds) h =
      and_from (well_named (tree_of_data d)) (items_named (items_of_data ds)) (named d h.0) (all_named ds h.1)

  members_are_named : (ms : json.Members) → InOrder ms → AreMembersOrdered ms → members_named (members_of_data ms) ≡ true
  members_are_named json.no_members o h = refl
  members_are_named (json.member k d ms) o h =
      and_from (lacks k (members_of_data ms)) (well_named (tree_of_data d) && members_named (members_of_data ms)) (lacks_below k ms o.0)
      (and_from (well_named (tree_of_data d)) (members_named (members_of_data ms)) (named d h.0) (members_are_named ms o.1 h.1))

-- a node that is sorted by name, with no name twice in one object
pub record IsByName (t : Tree) : Type 0 where
  pub stands : tree_by_name t ≡ t
  pub named : well_named t ≡ true

-- any node is one after sorting by name
pub put_by_name : (t : Tree) → IsByName (tree_by_name t)
put_by_name t = record { stands = stands (data_of t) (data_ordered t); named = named (data_of t) (data_ordered t) }

-- and so is the node that a text is read as by name
pub text_by_name : (text : List ℕ) (t : Tree) → IsTreeOfText text t → IsByName t
text_by_name text t it =
    let all : IfSome (read text) IsOrdered =
    some_then (λ j. Unit {0}) IsOrdered of_json (λ j h. ordered j) (parsed text) (any_some (parsed text)) in
    let here : IsOrdered it.value = subst (λ o. IfSome o IsOrdered) it.reads all in
    subst IsByName (sym it.is.same) (record { stands = stands it.value here; named = named it.value here })
