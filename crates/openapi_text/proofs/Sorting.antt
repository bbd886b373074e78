-- The members of an object sorted by name: which of them a row takes, if those that it takes were sorted before.
use Rattle.std.proofs.Common.{◌≡◌, ℕ, List, [], ◌∷◌, Bool, true, false, not, cond, ◌&&◌, Ordering, Less, Equal, Greater, nat_cmp}
use Rattle.std.proofs.Common.{refl, sym, ap, subst, ◌∙◌, bytes_eq}
use Rattle.std.proofs.lemmas.Bool.{and_parts, not-true}
use Rattle.std.proofs.lemmas.Cmp.{nat_list_cmp_total}
use Rattle.std.specs.Cmp.Lexicographic.{slice_cmp}
use Rattle.std.specs.Ordering.{match_ordering, ordering_reverse}
use Rattle.serde_json.specs.Data as json
use Rattle.serde_json.specs.Data.{Data, put}
use Rattle.openapi_node.proofs.DataOrder.{tied}
use Rattle.openapi_node.specs.Json.{data_of, items_data, items_of_data, members_data, members_of_data, tree_of_data}
use Rattle.openapi_node.specs.Named.{lacks, members_named, well_named}
use Rattle.openapi_node.specs.Tree as tree
use Rattle.openapi_node.specs.Tree.{Tree, Members, object}
use Rattle.openapi_json.specs.Writing.{tree_by_name}
use Rattle.openapi_tables.specs.Prelude.{each, first_tree, held, items_list, join, only, same_text, Entry, on_entry, members_in}
use Rattle.openapi_tables.specs.Prelude.{members_list, members_of}
use Rattle.openapi_tables.proofs.ListLaws.{Each, join-nil, join_assoc, same_bytes, same_text_eq}
use Rattle.openapi_tables.proofs.TreeLaws.{members_list-of, members_of-list}

-- a member inserted among others by its name; if one of them has that name, its value is replaced
abbrev pub ins : Entry Tree → List (Entry Tree) → List (Entry Tree)
ins e [] = e ∷ []
ins e (x ∷ xs) = match_ordering (slice_cmp nat_cmp e.name x.name) (e ∷ x ∷ xs)
    (record { name = x.name; value = e.value } ∷ xs) (x ∷ ins e xs)

abbrev pub inserted : List (Entry Tree) → List (Entry Tree) → List (Entry Tree)
inserted [] done = done
inserted (e ∷ es) done = inserted es (ins (on_entry tree_by_name e) done)

match_list : (o : Ordering) (a b c : json.Members)
    → members_list (members_of_data (match_ordering o a b c))
    ≡ match_ordering o (members_list (members_of_data a)) (members_list (members_of_data b)) (members_list (members_of_data c))
match_list Less a b c = refl
match_list Equal a b c = refl
match_list Greater a b c = refl

put_list : (k : List ℕ) (d : Data) (ds : json.Members)
    → members_list (members_of_data (put k d ds)) ≡ ins (record { name = k; value = tree_of_data d }) (members_list (members_of_data ds))
put_list k d json.no_members = refl
put_list k d (json.member l c ds) =
    let e : Entry Tree = record { name = k; value = tree_of_data d } in
    let x : Entry Tree = record { name = l; value = tree_of_data c } in
    let xs = members_list (members_of_data ds) in
    match_list (slice_cmp nat_cmp k l) (json.member k d (json.member l c ds)) (json.member l d ds) (json.member l c (put k d ds))
    ∙ ap (λ ys. match_ordering (slice_cmp nat_cmp k l) (e ∷ x ∷ xs) (record { name = l; value = tree_of_data d } ∷ xs) (x ∷ ys))
    (put_list k d ds)

pub data_list : (ms : Members) (ds : json.Members)
    → members_list (members_of_data (members_data ms ds)) ≡ inserted (members_list ms) (members_list (members_of_data ds))
data_list tree.no_members ds = refl
data_list (tree.member k t ms) ds =
    data_list ms (put k (data_of t) ds) ∙ ap (inserted (members_list ms)) (put_list k (data_of t) ds)

-- an object sorted by name has the members of the object, inserted one after another
pub sorted_object : (es : List (Entry Tree)) → tree_by_name (object (members_of es)) ≡ object (members_of (inserted es []))
sorted_object es =
    ap object (sym (members_of-list (members_of_data (members_data (members_of es) json.no_members)))
    ∙ ap members_of (data_list (members_of es) json.no_members ∙ ap (λ l. inserted l []) (members_list-of es)))

-- ---- names in order
abbrev pub Below : List ℕ → List (Entry Tree) → Type 0
Below n es = Each (λ (e : Entry Tree). slice_cmp nat_cmp n e.name ≡ Less) es

abbrev pub Ascends : List (Entry Tree) → Type 0
Ascends [] = Unit {0}
Ascends (e ∷ es) = Below e.name es × Ascends es

below-trans : (n m : List ℕ) (es : List (Entry Tree)) → slice_cmp nat_cmp n m ≡ Less → Below m es → Below n es
below-trans n m [] h b = tt
below-trans n m (e ∷ es) h b = (nat_list_cmp_total.trans n m e.name h b.0, below-trans n m es h b.1)

turned : (n m : List ℕ) → slice_cmp nat_cmp n m ≡ Greater → slice_cmp nat_cmp m n ≡ Less
turned n m h = nat_list_cmp_total.antisymm m n ∙ ap ordering_reverse h

below_ins : (n : List ℕ) (e : Entry Tree) (es : List (Entry Tree)) → slice_cmp nat_cmp n e.name ≡ Less → Below n es
    → Below n (ins e es)
below_ins n e [] h b = (h, tt)
below_ins n e (x ∷ xs) h b = by (slice_cmp nat_cmp e.name x.name) (below_ins n e xs h b.1)
  where
    by : (o : Ordering) → Below n (ins e xs)
        → Below n (match_ordering o (e ∷ x ∷ xs) (record { name = x.name; value = e.value } ∷ xs) (x ∷ ins e xs))
    by Less r = (h, b)
    by Equal r = b
    by Greater r = (b.0, r)

ascends_ins : (e : Entry Tree) (es : List (Entry Tree)) → Ascends es → Ascends (ins e es)
ascends_ins e [] o = (tt, tt)
ascends_ins e (x ∷ xs) o = by (slice_cmp nat_cmp e.name x.name) refl (ascends_ins e xs o.1)
  where
    by : (r : Ordering) → slice_cmp nat_cmp e.name x.name ≡ r → Ascends (ins e xs)
        → Ascends (match_ordering r (e ∷ x ∷ xs) (record { name = x.name; value = e.value } ∷ xs) (x ∷ ins e xs))
    by Less h rest = ((h, below-trans e.name x.name xs h o.0), o)
    by Equal h rest = o
    by Greater h rest = (below_ins x.name e xs (turned e.name x.name h) o.0, rest)

ins_first : (e : Entry Tree) (es : List (Entry Tree)) → Below e.name es → ins e es ≡ e ∷ es
ins_first e [] b = refl
ins_first e (x ∷ xs) b =
    ap (λ o. match_ordering o (e ∷ x ∷ xs) (record { name = x.name; value = e.value } ∷ xs) (x ∷ ins e xs)) b.0

below_only : (q : List ℕ → Bool) (n : List ℕ) (es : List (Entry Tree)) → Below n es
    → Below n (only (λ (e : Entry Tree). q e.name) es)
below_only q n [] b = tt
below_only q n (e ∷ es) b = by (q e.name) (below_only q n es b.1)
  where
    by : (c : Bool) → Below n (only (λ (x : Entry Tree). q x.name) es)
        → Below n (cond c (e ∷ only (λ (x : Entry Tree). q x.name) es) (only (λ (x : Entry Tree). q x.name) es))
    by true r = (b.0, r)
    by false r = r

-- ---- members whose names pass a test
module _ (q : List ℕ → Bool) where
  abbrev passing : List (Entry Tree) → List (Entry Tree)
  passing es = only (λ (e : Entry Tree). q e.name) es

  passing_ins : (e : Entry Tree) (es : List (Entry Tree)) → Ascends es
      → passing (ins e es) ≡ cond (q e.name) (ins e (passing es)) (passing es)
  passing_ins e [] o = refl
  passing_ins e (x ∷ xs) o = by (slice_cmp nat_cmp e.name x.name) refl (q x.name) refl (q e.name) refl (passing_ins e xs o.1)
    where
      by : (r : Ordering) → slice_cmp nat_cmp e.name x.name ≡ r → (b : Bool) → q x.name ≡ b → (c : Bool) → q e.name ≡ c
          → passing (ins e xs) ≡ cond (q e.name) (ins e (passing xs)) (passing xs)
          → passing (match_ordering r (e ∷ x ∷ xs) (record { name = x.name; value = e.value } ∷ xs) (x ∷ ins e xs))
          ≡ cond (q e.name) (ins e (passing (x ∷ xs))) (passing (x ∷ xs))
      by Less h b is c at rest =
          ap (λ l. cond (q e.name) l (passing (x ∷ xs)))
          (sym (ins_first e (passing (x ∷ xs)) (below_only q e.name (x ∷ xs) (h, below-trans e.name x.name xs h o.0))))
      by Equal h true is c at rest =
          let same : q e.name ≡ true = ap q (tied e.name x.name h) ∙ is in
          let f : Entry Tree = record { name = x.name; value = e.value } in
          ap (λ d. cond d (f ∷ passing xs) (passing xs)) is
          ∙ sym (ap (λ d. cond d (ins e (passing (x ∷ xs))) (passing (x ∷ xs))) same
          ∙ ap (λ d. ins e (cond d (x ∷ passing xs) (passing xs))) is
          ∙ ap (λ o. match_ordering o (e ∷ x ∷ passing xs) (f ∷ passing xs) (x ∷ ins e (passing xs))) h)
      by Equal h false is c at rest =
          let same : q e.name ≡ false = ap q (tied e.name x.name h) ∙ is in
          let f : Entry Tree = record { name = x.name; value = e.value } in
          ap (λ d. cond d (f ∷ passing xs) (passing xs)) is
          ∙ sym (ap (λ d. cond d (ins e (passing (x ∷ xs))) (passing (x ∷ xs))) same
          ∙ ap (λ d. cond d (x ∷ passing xs) (passing xs)) is)
      by Greater h true is true at rest =
          ap (λ d. cond d (x ∷ passing (ins e xs)) (passing (ins e xs))) is
          ∙ ap (λ l. x ∷ l) (rest ∙ ap (λ d. cond d (ins e (passing xs)) (passing xs)) at)
          ∙ sym (ap (λ d. cond d (ins e (passing (x ∷ xs))) (passing (x ∷ xs))) at
          ∙ ap (λ d. ins e (cond d (x ∷ passing xs) (passing xs))) is
          ∙ ap (λ o. match_ordering o (e ∷ x ∷ passing xs) (record { name = x.name; value = e.value } ∷ passing xs)
          (x ∷ ins e (passing xs))) h)
      by Greater h true is false at rest =
          ap (λ d. cond d (x ∷ passing (ins e xs)) (passing (ins e xs))) is
          ∙ ap (λ l. x ∷ l) (rest ∙ ap (λ d. cond d (ins e (passing xs)) (passing xs)) at)
          ∙ sym (ap (λ d. cond d (ins e (passing (x ∷ xs))) (passing (x ∷ xs))) at
          ∙ ap (λ d. cond d (x ∷ passing xs) (passing xs)) is)
      by Greater h false is c at rest =
          ap (λ d. cond d (x ∷ passing (ins e xs)) (passing (ins e xs))) is ∙ rest
          ∙ sym (ap (λ d. cond (q e.name) (ins e (cond d (x ∷ passing xs) (passing xs))) (cond d (x ∷ passing xs) (passing xs))) is)

  passing_inserted : (es done : List (Entry Tree)) → Ascends done
      → passing (inserted es done) ≡ inserted (passing es) (passing done)
  passing_inserted [] done o = refl
  passing_inserted (e ∷ es) done o =
      let f = on_entry tree_by_name e in
      passing_inserted es (ins f done) (ascends_ins f done o) ∙ ap (inserted (passing es)) (passing_ins f done o) ∙ by (q e.name)
    where
      by : (b : Bool) → inserted (passing es) (cond b (ins (on_entry tree_by_name e) (passing done)) (passing done))
          ≡ inserted (cond b (e ∷ passing es) (passing es)) (passing done)
      by true = refl
      by false = refl

-- a name that is less than all names of a list is less than that of each element in it
below_in : (n : List ℕ) (done : List (Entry Tree)) (e : Entry Tree) (es : List (Entry Tree)) → Below n (join done (e ∷ es))
    → slice_cmp nat_cmp n e.name ≡ Less
below_in n [] e es b = b.0
below_in n (x ∷ xs) e es b = below_in n xs e es b.1

ins_last : (t : Tree) (done : List (Entry Tree)) (e : Entry Tree) (es : List (Entry Tree)) → Ascends (join done (e ∷ es))
    → ins (record { name = e.name; value = t }) done ≡ join done (record { name = e.name; value = t } ∷ [])
ins_last t [] e es o = refl
ins_last t (x ∷ xs) e es o =
    let f : Entry Tree = record { name = e.name; value = t } in
    let above : slice_cmp nat_cmp e.name x.name ≡ Greater =
    nat_list_cmp_total.antisymm e.name x.name ∙ ap ordering_reverse (below_in x.name xs e es o.0) in
    ap (λ r. match_ordering r (f ∷ x ∷ xs) (record { name = x.name; value = t } ∷ xs) (x ∷ ins f xs)) above
    ∙ ap (λ l. x ∷ l) (ins_last t xs e es o.1)

-- `Below` still holds if a member is replaced with another of the same name
below_other : (n : List ℕ) (done : List (Entry Tree)) (e f : Entry Tree) (es : List (Entry Tree)) → f.name ≡ e.name
    → Below n (join done (e ∷ es)) → Below n (join done (f ∷ es))
below_other n [] e f es is b = (ap (slice_cmp nat_cmp n) is ∙ b.0, b.1)
below_other n (x ∷ xs) e f es is b = (b.0, below_other n xs e f es is b.1)

ascends_other : (done : List (Entry Tree)) (e f : Entry Tree) (es : List (Entry Tree)) → f.name ≡ e.name
    → Ascends (join done (e ∷ es)) → Ascends (join done (f ∷ es))
ascends_other [] e f es is o = (subst (λ n. Below n es) (sym is) o.0, o.1)
ascends_other (x ∷ xs) e f es is o = (below_other x.name xs e f es is o.0, ascends_other xs e f es is o.1)

-- members in ascending order are inserted in this order, each with its value sorted by name
pub in_turn : (done es : List (Entry Tree)) → Ascends (join done es) → inserted es done ≡ join done (each (on_entry tree_by_name) es)
in_turn done [] o = sym (join-nil done)
in_turn done (e ∷ es) o =
    let f = on_entry tree_by_name e in
    let next : Ascends (join (join done (f ∷ [])) es) =
    subst Ascends (sym (join_assoc done (f ∷ []) es)) (ascends_other done e f es refl o) in
    ap (inserted es) (ins_last (tree_by_name e.value) done e es o) ∙ in_turn (join done (f ∷ [])) es next
    ∙ join_assoc done (f ∷ []) (each (on_entry tree_by_name) es)

-- if the members that pass a test are in ascending order, those that pass after sorting are these, each sorted by name
pub passing_sorted : (q : List ℕ → Bool) (es : List (Entry Tree)) → Ascends (only (λ (e : Entry Tree). q e.name) es)
    → only (λ (e : Entry Tree). q e.name) (inserted es [])
    ≡ each (on_entry tree_by_name) (only (λ (e : Entry Tree). q e.name) es)
passing_sorted q es o =
    passing_inserted q es [] tt ∙ in_turn [] (only (λ (e : Entry Tree). q e.name) es) o

-- ---- names that differ
none_named : (n k : List ℕ) (es : List (Entry Tree)) → same_text n k ≡ true → lacks k (members_of es) ≡ true
    → only (λ (e : Entry Tree). same_text n e.name) es ≡ []
none_named n k [] h l = refl
none_named n k (e ∷ es) h l =
    let p = and_parts (not (bytes_eq k e.name)) (lacks k (members_of es)) l in
    let apart : same_text n e.name ≡ false =
    ap (λ m. same_text m e.name) (same_text_eq n k h) ∙ same_bytes k e.name ∙ not-true (bytes_eq k e.name) p.0 in
    ap (λ b. cond b (e ∷ only (λ (e : Entry Tree). same_text n e.name) es) (only (λ (e : Entry Tree). same_text n e.name) es)) apart
    ∙ none_named n k es h p.1

-- the members of one name are in ascending order, since there is at most one
pub lone : (n : List ℕ) (es : List (Entry Tree)) → members_named (members_of es) ≡ true
    → Ascends (only (λ (e : Entry Tree). same_text n e.name) es)
lone n [] h = tt
lone n (e ∷ es) h =
    let p = and_parts (lacks e.name (members_of es)) (well_named e.value && members_named (members_of es)) h in
    let q = and_parts (well_named e.value) (members_named (members_of es)) p.1 in
    by (same_text n e.name) refl p.0 (lone n es q.1)
  where
    by : (b : Bool) → same_text n e.name ≡ b → lacks e.name (members_of es) ≡ true
        → Ascends (only (λ (x : Entry Tree). same_text n x.name) es)
        → Ascends (cond b (e ∷ only (λ (x : Entry Tree). same_text n x.name) es) (only (λ (x : Entry Tree). same_text n x.name) es))
    by true is l r = subst (λ xs. Ascends (e ∷ xs)) (sym (none_named n e.name es is l)) (tt, tt)
    by false is l r = r

-- ---- what is sorted by name
pub ascends_only : (q : List ℕ → Bool) (es : List (Entry Tree)) → Ascends es → Ascends (only (λ (e : Entry Tree). q e.name) es)
ascends_only q [] o = tt
ascends_only q (e ∷ es) o = by (q e.name) (ascends_only q es o.1)
  where
    by : (b : Bool) → Ascends (only (λ (x : Entry Tree). q x.name) es)
        → Ascends (cond b (e ∷ only (λ (x : Entry Tree). q x.name) es) (only (λ (x : Entry Tree). q x.name) es))
    by true r = (below_only q e.name es o.0, r)
    by false r = r

ascends_inserted : (es done : List (Entry Tree)) → Ascends done → Ascends (inserted es done)
ascends_inserted [] done o = o
ascends_inserted (e ∷ es) done o = ascends_inserted es (ins f done) (ascends_ins f done o)
  where
    f : Entry Tree
    f = on_entry tree_by_name e

-- the values of members are sorted by name
abbrev pub AreSorted : List (Entry Tree) → Type 0
AreSorted es = Each (λ (e : Entry Tree). tree_by_name e.value ≡ e.value) es

head_or : Entry Tree → List (Entry Tree) → Entry Tree
head_or d [] = d
head_or d (e ∷ es) = e

tail : List (Entry Tree) → List (Entry Tree)
tail [] = []
tail (e ∷ es) = es

each_sorted : (es : List (Entry Tree)) → each (on_entry tree_by_name) es ≡ es → AreSorted es
unfolding head_or tail
each_sorted [] h = tt
each_sorted (e ∷ es) h = (ap (λ l. (head_or e l).value) h, each_sorted es (ap tail h))

-- if an object is sorted by name, its members are in ascending order, and their values are sorted by name
pub object_sorted : (ms : Members) → tree_by_name (object ms) ≡ object ms → Ascends (members_list ms) × AreSorted (members_list ms)
object_sorted ms h =
    let es = members_list ms in
    let same : inserted es [] ≡ es = sym (data_list ms json.no_members) ∙ ap members_in h in
    let o : Ascends es = subst Ascends same (ascends_inserted es [] tt) in
    (o, each_sorted es (sym (in_turn [] es o) ∙ same))

first_item : Tree → tree.Items → Tree
first_item t tree.no_items = t
first_item t (tree.item u us) = u

rest_items : tree.Items → tree.Items
rest_items tree.no_items = tree.no_items
rest_items (tree.item u us) = us

items_sorted : (ts : tree.Items) → items_of_data (items_data ts) ≡ ts → Each (λ t. tree_by_name t ≡ t) (items_list ts)
unfolding first_item rest_items
items_sorted tree.no_items h = tt
items_sorted (tree.item t ts) h = (ap (first_item t) h, items_sorted ts (ap rest_items h))

items_in_list : Tree → tree.Items
items_in_list (tree.list ts) = ts
items_in_list t = tree.no_items

-- if a list is sorted by name, so are its items
pub list_sorted : (ts : tree.Items) → tree_by_name (tree.list ts) ≡ tree.list ts → Each (λ t. tree_by_name t ≡ t) (items_list ts)
unfolding items_in_list
list_sorted ts h = items_sorted ts (ap items_in_list h)

-- ---- the member of a name
first_each : (xs : List (Entry Tree)) → first_tree (each (on_entry tree_by_name) xs) ≡ tree_by_name (first_tree xs)
first_each [] = refl
first_each (x ∷ xs) = refl

pub held_sorted : (n : List ℕ) (l : List (Entry Tree)) → members_named (members_of l) ≡ true
    → held n (inserted l []) ≡ tree_by_name (held n l)
held_sorted n l h =
    ap first_tree (passing_sorted (same_text n) l (lone n l h)) ∙ first_each (only (λ (e : Entry Tree). same_text n e.name) l)
