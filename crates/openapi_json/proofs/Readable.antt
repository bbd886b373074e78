-- The node of a text nests at most `max_depth` deep, and its numbers fit an `i64` or a `u64`. If it is read in order, no
-- object of it has a repeated name.
use Rattle.std.proofs.Common.{◌≡◌, ℕ, zero, suc, ◌≤◌, ◌<◌, ◌^◌, ◌==◌, ◌&&◌, pos, List, [], ◌∷◌, Bool, true, false, cond, not, Option}
use Rattle.std.proofs.Common.{Some, None, IfSome, option_map, option_and_then, drop, slice_index, nat_lt, nat_le, refl, subst, sym, ap}
use Rattle.std.proofs.Common.{◌∙◌, arith, leb-true, ltb-true, nat_cmp, Ordering, Less, Equal, Greater}
use Rattle.std.proofs.lemmas.Bool.{and_from, and_parts}
use Rattle.std.proofs.lemmas.Int.{ints}
use Rattle.std.specs.Cmp.Lexicographic.{nat_list_eq_equiv, slice_cmp}
use Rattle.std.specs.Float.{binary64, float_is_finite}
use Rattle.std.specs.Ordering.{match_ordering}
use Rattle.std.specs.Str.{bytes_eq}
use Rattle.fast_float.specs.Text.{minus, Parts, scan, digits_of, nearest, with_sign}
use Rattle.json.specs.Json as json
use Rattle.json.specs.Lex.{tokens}
use Rattle.json.specs.Token.{Token}
use Rattle.json.specs.Tree as deep
use Rattle.json.proofs.Nesting.{value-depth}
use Rattle.serde_json.specs.Data.{Data, Num, unsigned, negative, float, null, boolean, number, string, array, object, Items}
use Rattle.serde_json.specs.Data.{no_items, item, Members, no_members, member, put, depth, items_depth, members_depth}
use Rattle.serde_json.specs.Read.{float_of, is_integer, max_depth, number_from, number_of, of_json, of_items, of_members, read}
use Rattle.serde_json.proofs.Nesting.{depth-read}
use Rattle.openapi_node.specs.Json.{items_of_data, members_of_data, tree_of_data}
use Rattle.openapi_node.specs.Named.{lacks, well_named, items_named, members_named}
use Rattle.openapi_node.specs.Tree as tree
use Rattle.openapi_node.specs.Tree.{Tree}
use Rattle.openapi_node.specs.Whole.{IsWhole}
use Rattle.openapi_json.specs.Ordered.{in_order, items_in_order, members_in_order, IsTreeInOrder, parsed, put_in_place}
use Rattle.openapi_json.specs.Reading.{IsTreeOfText}
use Rattle.openapi_json.specs.Writing.{AreWhole, ItemsAreWhole, items_nesting, MembersAreWhole, members_nesting, nesting}
use Rattle.openapi_json.proofs.Ordered.{absent_put, IsAbsent}

-- ---- numbers
abbrev IsWholeNum : Num → Type 0
IsWholeNum (unsigned n) = IsWhole (pos n)
IsWholeNum (negative z) = IsWhole z
IsWholeNum (float x) = Unit {0}

whole_natural : (n : ℕ) → n < 2 ^ 64 → IsWhole (pos n)
whole_natural n h = (omega (arith, ints), omega (arith, ints, h))

whole_below : (n : ℕ) → n ≤ 2 ^ 63 → IsWhole (with_sign true n)
whole_below zero h = whole_natural 0 (omega arith)
whole_below (suc n) h = (omega (arith, ints, h), omega (arith, ints))

float_whole : (s : Bool) (p : Parts) → IfSome (float_of s p) IsWholeNum
float_whole s p = by (float_is_finite (nearest binary64 s p))
  where
    by : (b : Bool) → IfSome (cond b (Some (float (nearest binary64 s p))) None) IsWholeNum
    by true = tt
    by false = tt

from_whole : (s : Bool) (p : Parts) → IfSome (number_from s p) IsWholeNum
from_whole false p = by (is_integer p && nat_lt (digits_of p) (2 ^ 64)) refl
  where
    by : (b : Bool) → (is_integer p && nat_lt (digits_of p) (2 ^ 64)) ≡ b
        → IfSome (cond b (Some (unsigned (digits_of p))) (float_of false p)) IsWholeNum
    by true e = whole_natural (digits_of p) (ltb-true (digits_of p) (2 ^ 64) (and_parts (is_integer p) (nat_lt (digits_of p) (2 ^ 64)) e).1)
    by false e = float_whole false p
from_whole true p = by (is_integer p && nat_lt 0 (digits_of p) && nat_le (digits_of p) (2 ^ 63)) refl
  where
    by : (b : Bool) → (is_integer p && nat_lt 0 (digits_of p) && nat_le (digits_of p) (2 ^ 63)) ≡ b
        → IfSome (cond b (Some (negative (with_sign true (digits_of p)))) (float_of true p)) IsWholeNum
    by true e =
        let some = is_integer p && nat_lt 0 (digits_of p) in
        let fits = nat_le (digits_of p) (2 ^ 63) in
        whole_below (digits_of p) (leb-true (digits_of p) (2 ^ 63) (and_parts some fits e).1)
    by false e = float_whole true p

number_whole : (s : List ℕ) → IfSome (number_of s) IsWholeNum
unfolding number_of
number_whole s = by (slice_index s 0 == minus)
  where
    by : (b : Bool) → IfSome (cond b (number_from true (scan (drop 1 s))) (number_from false (scan s))) IsWholeNum
    by true = from_whole true (scan (drop 1 s))
    by false = from_whole false (scan s)

-- ---- data
-- each number of data that is not a float fits an `i64` or a `u64`, and no object has a repeated name
abbrev mutual
  IsFine : Data → Type 0
  IsFine null = Unit {0}
  IsFine (boolean b) = Unit {0}
  IsFine (number n) = IsWholeNum n
  IsFine (string s) = Unit {0}
  IsFine (array ds) = AreFine ds
  IsFine (object ms) = AreFineMembers ms

  AreFine : Items → Type 0
  AreFine no_items = Unit {0}
  AreFine (item d ds) = IsFine d × AreFine ds

  AreFineMembers : Members → Type 0
  AreFineMembers no_members = Unit {0}
  AreFineMembers (member k d ms) = IsAbsent k ms × IsFine d × AreFineMembers ms

-- the data also nests at most `n` deep
abbrev Fine : ℕ → Data → Type 0
Fine n d = (depth d ≤ n) × IsFine d

abbrev FineItems : ℕ → Items → Type 0
FineItems n ds = (items_depth ds ≤ n) × AreFine ds

abbrev FineMembers : ℕ → Members → Type 0
FineMembers n ms = (members_depth ms ≤ n) × AreFineMembers ms

some_map : {A B : Type 0} (P : A → Type 0) (Q : B → Type 0) (f : A → B) → ((a : A) → P a → Q (f a)) → (o : Option A)
    → IfSome o P → IfSome (option_map f o) Q
some_map P Q f g None h = tt
some_map P Q f g (Some a) h = g a h

some_then : {A B : Type 0} (P : A → Type 0) (Q : B → Type 0) (f : A → Option B) → ((a : A) → P a → IfSome (f a) Q)
    → (o : Option A) → IfSome o P → IfSome (option_and_then f o) Q
some_then P Q f g None h = tt
some_then P Q f g (Some a) h = g a h

put_fine : (n : ℕ) (k : List ℕ) (d : Data) (ms : Members) → Fine n d → FineMembers n ms → FineMembers n (put_in_place k d ms)
put_fine n k d no_members p g = (omega (arith, p.0), (tt, p.1, tt))
put_fine n k d (member l e ms) p g = by (bytes_eq k l) refl (put_fine n k d ms p (omega (arith, g.0), g.1.2))
  where
    by : (b : Bool) → bytes_eq k l ≡ b → FineMembers n (put_in_place k d ms)
        → FineMembers n (cond b (member l d ms) (member l e (put_in_place k d ms)))
    by true is r = (omega (arith, p.0, g.0), (g.1.0, p.1, g.1.2))
    by false is r =
        (omega (arith, g.0, r.0), (absent_put l k d ms (nat_list_eq_equiv.symm l k ∙ is) g.1.0, g.1.1, r.1))

-- what is read from a value in order
mutual
  fine : (j : json.Json) (n : ℕ) → deep.depth j ≤ n → IfSome (in_order j) (Fine n)
  fine json.null n h = (omega arith, tt)
  fine (json.boolean b) n h = (omega arith, tt)
  fine (json.number s) n h = some_map IsWholeNum (Fine n) number (λ m w. (omega arith, w)) (number_of s) (number_whole s)
  fine (json.string s) n h = (omega arith, tt)
  fine (json.array js) n h =
      some_map (FineItems (deep.items_depth js)) (Fine n) array (λ ds p. (omega (arith, p.0, h), p.1)) (items_in_order js)
      (items_fine js (deep.items_depth js) (omega arith))
  fine (json.object ms) n h =
      some_map (FineMembers (deep.members_depth ms)) (Fine n) object (λ ds p. (omega (arith, p.0, h), p.1))
      (members_in_order ms no_members) (members_fine ms no_members (deep.members_depth ms) (omega arith) (omega arith, tt))

  items_fine : (js : json.Items) (n : ℕ) → deep.items_depth js ≤ n → IfSome (items_in_order js) (FineItems n)
  items_fine json.no_items n h = (omega arith, tt)
  items_fine (json.item j js) n h =
      some_then (Fine n) (FineItems n) (λ d. option_map (item d) (items_in_order js))
      (λ d p. some_map (FineItems n) (FineItems n) (item d) (λ ds q. (omega (arith, p.0, q.0), (p.1, q.1))) (items_in_order js)
      (items_fine js n (omega (arith, h)))) (in_order j) (fine j n (omega (arith, h)))

  members_fine : (ms : json.Members) (done : Members) (n : ℕ) → deep.members_depth ms ≤ n → FineMembers n done
      → IfSome (members_in_order ms done) (FineMembers n)
  members_fine json.no_members done n h g = g
  members_fine (json.member k j ms) done n h g =
      some_then (Fine n) (FineMembers n) (λ d. members_in_order ms (put_in_place k d done))
      (λ d p. members_fine ms (put_in_place k d done) n (omega (arith, h)) (put_fine n k d done p g)) (in_order j)
      (fine j n (omega (arith, h)))

-- ---- nodes
-- what holds of the node of a text in order
pub record IsReadable (n : ℕ) (t : Tree) : Type 0 where
  pub nests : nesting t ≤ n
  pub whole : AreWhole t
  pub named : well_named t ≡ true

record AreReadable (n : ℕ) (ts : tree.Items) : Type 0 where
  nests : items_nesting ts ≤ n
  whole : ItemsAreWhole ts
  named : items_named ts ≡ true

record MembersReadable (n : ℕ) (ms : tree.Members) : Type 0 where
  nests : members_nesting ms ≤ n
  whole : MembersAreWhole ms
  named : members_named ms ≡ true

lacks_absent : (k : List ℕ) (ms : Members) → IsAbsent k ms → lacks k (members_of_data ms) ≡ true
lacks_absent k no_members a = refl
lacks_absent k (member l d ms) a =
    and_from (not (bytes_eq k l)) (lacks k (members_of_data ms)) (ap not a.0) (lacks_absent k ms a.1)

number_readable : (m : Num) (n : ℕ) → IsWholeNum m → IsReadable n (tree_of_data (number m))
number_readable (unsigned m) n w = record { nests = omega arith; whole = w; named = refl }
number_readable (negative z) n w = record { nests = omega arith; whole = w; named = refl }
number_readable (float x) n w = record { nests = omega arith; whole = tt; named = refl }

mutual
  readable : (d : Data) (n : ℕ) → Fine n d → IsReadable n (tree_of_data d)
  readable null n h = record { nests = omega arith; whole = tt; named = refl }
  readable (boolean b) n h = record { nests = omega arith; whole = tt; named = refl }
  readable (number m) n h = number_readable m n h.1
  readable (string s) n h = record { nests = omega arith; whole = tt; named = refl }
  readable (array ds) n h =
      let a = items_readable ds (items_depth ds) (omega arith, h.1) in
      record { nests = omega (arith, h.0, a.nests); whole = a.whole; named = a.named }
  readable (object ms) n h =
      let a = members_readable ms (members_depth ms) (omega arith, h.1) in
      record { nests = omega (arith, h.0, a.nests); whole = a.whole; named = a.named }

  items_readable : (ds : Items) (n : ℕ) → FineItems n ds → AreReadable n (items_of_data ds)
  items_readable no_items n h = record { nests = omega arith; whole = tt; named = refl }
  items_readable (item d ds) n h =
      let a = readable d n (omega (arith, h.0), h.1.0) in
      let b = items_readable ds n (omega (arith, h.0), h.1.1) in
      record {
        nests = omega (arith, a.nests, b.nests);
        whole = (a.whole, b.whole);
        named = and_from (well_named (tree_of_data d)) (items_named (items_of_data ds)) a.named b.named;
      }

  members_readable : (ms : Members) (n : ℕ) → FineMembers n ms → MembersReadable n (members_of_data ms)
  members_readable no_members n h = record { nests = omega arith; whole = tt; named = refl }
  members_readable (member k d ms) n h =
      let a = readable d n (omega (arith, h.0), h.1.1) in
      let b = members_readable ms n (omega (arith, h.0), h.1.2) in
      record {
        nests = omega (arith, a.nests, b.nests);
        whole = (a.whole, b.whole);
        named = and_from (lacks k (members_of_data ms)) (well_named (tree_of_data d) && members_named (members_of_data ms))
            (lacks_absent k ms h.1.0)
            (and_from (well_named (tree_of_data d)) (members_named (members_of_data ms)) a.named b.named);
      }

-- ---- texts
last_depth : (o : Option (json.Json × List Token)) (n : ℕ) → ((j : json.Json) (r : List Token) → o ≡ Some (j, r) → deep.depth j ≤ n)
    → IfSome (option_and_then (λ p. json.if_last p.0 p.1) o) (λ j. deep.depth j ≤ n)
last_depth None n h = tt
last_depth (Some (j, [])) n h = h j [] refl
last_depth (Some (j, t ∷ r)) n h = tt

-- what the grammar reads from a text nests at most `max_depth` deep
pub parsed_depth : (text : List ℕ) → IfSome (parsed text) (λ j. deep.depth j ≤ max_depth)
parsed_depth text =
    last_depth (json.value max_depth (tokens text)) max_depth (λ j r. value-depth max_depth (tokens text) r j)

-- the node of a text in order is such a node
pub read_in_order : (text : List ℕ) (t : Tree) → IsTreeInOrder text t → IsReadable max_depth t
read_in_order text t it =
    let all : IfSome (option_and_then in_order (parsed text)) (Fine max_depth) =
    some_then (λ j. deep.depth j ≤ max_depth) (Fine max_depth) in_order (λ j h. fine j max_depth h) (parsed text)
    (parsed_depth text) in
    let here : Fine max_depth it.value = subst (λ o. IfSome o (Fine max_depth)) it.reads all in
    subst (IsReadable max_depth) (sym it.is.same) (readable it.value max_depth here)

-- ---- texts by name
whole_num : (m : Num) → IsWholeNum m → AreWhole (tree_of_data (number m))
whole_num (unsigned n) w = w
whole_num (negative z) w = w
whole_num (float x) w = tt

put_whole : (k : List ℕ) (d : Data) (ms : Members) → AreWhole (tree_of_data d) → MembersAreWhole (members_of_data ms)
    → MembersAreWhole (members_of_data (put k d ms))
put_whole k d no_members p g = (p, tt)
put_whole k d (member l e ms) p g = by (slice_cmp nat_cmp k l) (put_whole k d ms p g.1)
  where
    by : (o : Ordering) → MembersAreWhole (members_of_data (put k d ms))
        → MembersAreWhole (members_of_data (match_ordering o (member k d (member l e ms)) (member l d ms)
        (member l e (put k d ms))))
    by Less r = (p, g)
    by Equal r = (p, g.1)
    by Greater r = (g.0, r)

mutual
  whole_read : (j : json.Json) → IfSome (of_json j) (λ d. AreWhole (tree_of_data d))
  whole_read json.null = tt
  whole_read (json.boolean b) = tt
  whole_read (json.number s) =
      some_map IsWholeNum (λ d. AreWhole (tree_of_data d)) number (λ m w. whole_num m w) (number_of s) (number_whole s)
  whole_read (json.string s) = tt
  whole_read (json.array js) =
      some_map (λ ds. ItemsAreWhole (items_of_data ds)) (λ d. AreWhole (tree_of_data d)) array (λ ds w. w) (of_items js)
      (items_whole_read js)
  whole_read (json.object ms) =
      some_map (λ ds. MembersAreWhole (members_of_data ds)) (λ d. AreWhole (tree_of_data d)) object (λ ds w. w)
      (of_members ms no_members) (members_whole_read ms no_members tt)

  items_whole_read : (js : json.Items) → IfSome (of_items js) (λ ds. ItemsAreWhole (items_of_data ds))
  items_whole_read json.no_items = tt
  items_whole_read (json.item j js) =
      some_then (λ d. AreWhole (tree_of_data d)) (λ ds. ItemsAreWhole (items_of_data ds))
      (λ d. option_map (item d) (of_items js))
      (λ d w. some_map (λ ds. ItemsAreWhole (items_of_data ds)) (λ ds. ItemsAreWhole (items_of_data ds)) (item d)
      (λ ds v. (w, v)) (of_items js) (items_whole_read js)) (of_json j) (whole_read j)

  members_whole_read : (ms : json.Members) (done : Members) → MembersAreWhole (members_of_data done)
      → IfSome (of_members ms done) (λ ds. MembersAreWhole (members_of_data ds))
  members_whole_read json.no_members done g = g
  members_whole_read (json.member k j ms) done g =
      some_then (λ d. AreWhole (tree_of_data d)) (λ ds. MembersAreWhole (members_of_data ds))
      (λ d. of_members ms (put k d done)) (λ d w. members_whole_read ms (put k d done) (put_whole k d done w g)) (of_json j)
      (whole_read j)

mutual
  nests_so : (d : Data) → nesting (tree_of_data d) ≤ depth d
  nests_so null = omega arith
  nests_so (boolean b) = omega arith
  nests_so (number (unsigned n)) = omega arith
  nests_so (number (negative z)) = omega arith
  nests_so (number (float x)) = omega arith
  nests_so (string s) = omega arith
  nests_so (array ds) = let a = items_nest_so ds in omega (arith, a)
  nests_so (object ms) = let a = members_nest_so ms in omega (arith, a)

  items_nest_so : (ds : Items) → items_nesting (items_of_data ds) ≤ items_depth ds
  items_nest_so no_items = omega arith
  items_nest_so (item d ds) = let a = nests_so d in let b = items_nest_so ds in omega (arith, a, b)

  members_nest_so : (ms : Members) → members_nesting (members_of_data ms) ≤ members_depth ms
  members_nest_so no_members = omega arith
  members_nest_so (member k d ms) = let a = nests_so d in let b = members_nest_so ms in omega (arith, a, b)

-- the node of a text by name nests at most `max_depth` deep, and its numbers fit an `i64` or a `u64`
pub read_by_its_names : (text : List ℕ) (t : Tree) → IsTreeOfText text t → (nesting t ≤ max_depth) × AreWhole t
read_by_its_names text t it =
    let all : IfSome (read text) (λ d. AreWhole (tree_of_data d)) =
    some_then (λ j. Unit {0}) (λ d. AreWhole (tree_of_data d)) of_json (λ j h. whole_read j) (parsed text)
    (any_some (parsed text)) in
    let d = it.value in
    let whole : AreWhole (tree_of_data d) = subst (λ o. IfSome o (λ e. AreWhole (tree_of_data e))) it.reads all in
    let below = depth-read text d it.reads in
    let so = nests_so d in
    let nests : nesting (tree_of_data d) ≤ max_depth = omega (arith, so, below) in
    subst (λ u. (nesting u ≤ max_depth) × AreWhole u) (sym it.is.same) (nests, whole)
  where
    any_some : {A : Type 0} (o : Option A) → IfSome o (λ a. Unit {0})
    any_some None = tt
    any_some (Some a) = tt
