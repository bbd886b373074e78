-- The data of a text in its order, and by name: what is read by name is what is read in order, sorted.
use Rattle.std.proofs.Common.{◌≡◌, List, [], ◌∷◌, Bool, true, false, cond, ◌&&◌, Option, Some, None, IfSome, option_map}
use Rattle.std.proofs.Common.{option_and_then, ℕ, Ordering, Less, Equal, Greater, nat_cmp, refl, sym, ap, subst, ◌∙◌, true≢false}
use Rattle.std.proofs.lemmas.Cmp.{nat_list_cmp_total, tied_itself}
use Rattle.std.proofs.lemmas.Slice.Eq.{bytes_eq-Decides}
use Rattle.std.specs.Cmp.Lexicographic.{slice_cmp, nat_list_eq_equiv}
use Rattle.std.specs.Ordering.{match_ordering}
use Rattle.std.specs.Str.{bytes_eq, IsUtf8}
use Rattle.json.specs.Json as json
use Rattle.serde_json.proofs.Views.{get_member-put, get_member-put_other}
use Rattle.serde_json.specs.Data.{Data, Num, unsigned, negative, float, null, boolean, number, string, array, object, Items}
use Rattle.serde_json.specs.Data.{no_items, item, Members, no_members, member, put}
use Rattle.serde_json.specs.Find.{get_member}
use Rattle.serde_json.specs.Read.{number_of, of_json, of_items, of_members, read}
use Rattle.serde_json.specs.Written.{has_float, items_have_float, members_have_float}
use Rattle.openapi_map.specs.Entries.{Entries, insert_entry}
use Rattle.openapi_node.specs.Json.{tree_of_data, items_of_data, members_of_data, IsTreeOf}
use Rattle.openapi_node.specs.Tree as tree
use Rattle.openapi_node.specs.Tree.{Tree, items_of, members_of}
use Rattle.openapi_node.proofs.DataOrder.{InOrder, InOrder-put, fits}
use Rattle.openapi_json.specs.Ordered.{put_in_place, in_order, items_in_order, members_in_order, by_name, items_by_name}
use Rattle.openapi_json.specs.Ordered.{members_by_name, tree_of_any, tree_or_zero, tree_of, trees_of, entries_of, holds_whole}
use Rattle.openapi_json.specs.Ordered.{all_whole, items_whole, members_whole, parsed, IsTreeInOrder}
use Rattle.openapi_json.proofs.Order.{both, none}

apart_names : (k l : List ℕ) → bytes_eq k l ≡ false → k ≡ l → ⊥
apart_names k l differ is = true≢false (sym ((bytes_eq-Decides k l).1 is) ∙ differ)

-- ---- members that are put among others
-- the last value of a repeated name is used
put_same : (k : List ℕ) (d e : Data) (ms : Members) → put k d (put k e ms) ≡ put k d ms
put_same k d e no_members =
    ap (λ o. match_ordering o (member k d (member k e no_members)) (member k d no_members) (member k e (member k d no_members)))
    (tied_itself nat_list_cmp_total k)
put_same k d e (member l f ms) = by (slice_cmp nat_cmp k l) refl (put_same k d e ms)
  where
    by : (o : Ordering) → slice_cmp nat_cmp k l ≡ o → put k d (put k e ms) ≡ put k d ms
        → put k d (match_ordering o (member k e (member l f ms)) (member l e ms) (member l f (put k e ms)))
        ≡ match_ordering o (member k d (member l f ms)) (member l d ms) (member l f (put k d ms))
    by Less is rest =
        ap (λ o. match_ordering o (member k d (member k e (member l f ms))) (member k d (member l f ms))
        (member k e (put k d (member l f ms)))) (tied_itself nat_list_cmp_total k)
    by Equal is rest =
        ap (λ o. match_ordering o (member k d (member l e ms)) (member l d ms) (member l e (put k d ms))) is
    by Greater is rest =
        ap (λ o. match_ordering o (member k d (member l f (put k e ms))) (member l d (put k e ms))
        (member l f (put k d (put k e ms)))) is
        ∙ ap (member l f) rest

same_found : (q k l : List ℕ) (d e : Data) (ms : Members) → (k ≡ l → ⊥)
    → get_member q (put k d (put l e ms)) ≡ get_member q (put l e (put k d ms))
same_found q k l d e ms apart = by (bytes_eq q k) (bytes_eq q l) refl refl
  where
    by : (a b : Bool) → bytes_eq q k ≡ a → bytes_eq q l ≡ b
        → get_member q (put k d (put l e ms)) ≡ get_member q (put l e (put k d ms))
    by true b x y =
        subst (λ n. get_member n (put k d (put l e ms)) ≡ get_member n (put l e (put k d ms)))
        (sym ((bytes_eq-Decides q k).0 x))
        (get_member-put k d (put l e ms) ∙ sym (get_member-put_other k l e (put k d ms) apart ∙ get_member-put k d ms))
    by false true x y =
        subst (λ n. get_member n (put k d (put l e ms)) ≡ get_member n (put l e (put k d ms)))
        (sym ((bytes_eq-Decides q l).0 y))
        (get_member-put_other l k d (put l e ms) (λ s. apart (sym s)) ∙ get_member-put l e ms
        ∙ sym (get_member-put l e (put k d ms)))
    by false false x y =
        get_member-put_other q k d (put l e ms) (apart_names q k x) ∙ get_member-put_other q l e ms (apart_names q l y)
        ∙ sym (get_member-put_other q l e (put k d ms) (apart_names q l y)
        ∙ get_member-put_other q k d ms (apart_names q k x))

-- two members with different names may be put in either order
put_swap : (k l : List ℕ) (d e : Data) (ms : Members) → (k ≡ l → ⊥) → InOrder ms
    → put k d (put l e ms) ≡ put l e (put k d ms)
put_swap k l d e ms apart o =
    let a = put k d (put l e ms) in
    let b = put l e (put k d ms) in
    let p = InOrder-put k d (put l e ms) (InOrder-put l e ms o) in
    let q = InOrder-put l e (put k d ms) (InOrder-put k d ms o) in
    (fits a b p q (λ n c h. sym (same_found n k l d e ms apart) ∙ h)).same
    (fits b a q p (λ n c h. same_found n k l d e ms apart ∙ h)).fewer

-- ---- members with different names
abbrev pub IsAbsent : List ℕ → Members → Type 0
IsAbsent k no_members = Unit {0}
IsAbsent k (member l e ms) = (bytes_eq k l ≡ false) × IsAbsent k ms

abbrev AreDistinct : Members → Type 0
AreDistinct no_members = Unit {0}
AreDistinct (member k d ms) = IsAbsent k ms × AreDistinct ms

pub absent_put : (q k : List ℕ) (d : Data) (ms : Members) → bytes_eq q k ≡ false → IsAbsent q ms → IsAbsent q (put_in_place k d ms)
absent_put q k d no_members h a = (h, tt)
absent_put q k d (member l e ms) h a = by (bytes_eq k l) (absent_put q k d ms h a.1)
  where
    by : (b : Bool) → IsAbsent q (put_in_place k d ms)
        → IsAbsent q (cond b (member l d ms) (member l e (put_in_place k d ms)))
    by true rest = a
    by false rest = (a.0, rest)

distinct_put : (k : List ℕ) (d : Data) (ms : Members) → AreDistinct ms → AreDistinct (put_in_place k d ms)
distinct_put k d no_members h = (tt, tt)
distinct_put k d (member l e ms) h = by (bytes_eq k l) refl (distinct_put k d ms h.1)
  where
    by : (b : Bool) → bytes_eq k l ≡ b → AreDistinct (put_in_place k d ms)
        → AreDistinct (cond b (member l d ms) (member l e (put_in_place k d ms)))
    by true is rest = h
    by false is rest = (absent_put l k d ms (nat_list_eq_equiv.symm l k ∙ is) h.0, rest)

-- a member with a name that the others lack may be put before them or after them
moved : (k : List ℕ) (d : Data) (ms acc : Members) → IsAbsent k ms → InOrder acc
    → members_by_name ms (put k d acc) ≡ put k d (members_by_name ms acc)
moved k d no_members acc a o = refl
moved k d (member l e ms) acc a o =
    ap (members_by_name ms) (put_swap l k (by_name e) d acc (λ s. apart_names k l a.0 (sym s)) o)
    ∙ moved k d ms (put l (by_name e) acc) a.1 (InOrder-put l (by_name e) acc o)

-- if a member is put in place and the members are then sorted, the result is as if it were put among the sorted members
put_by_name : (k : List ℕ) (d : Data) (ms acc : Members) → AreDistinct ms → InOrder acc
    → members_by_name (put_in_place k d ms) acc ≡ put k (by_name d) (members_by_name ms acc)
put_by_name k d no_members acc h o = refl
put_by_name k d (member l e ms) acc h o =
    by (bytes_eq k l) refl (put_by_name k d ms (put l (by_name e) acc) h.1 (InOrder-put l (by_name e) acc o))
  where
    by : (b : Bool) → bytes_eq k l ≡ b
        → members_by_name (put_in_place k d ms) (put l (by_name e) acc)
        ≡ put k (by_name d) (members_by_name ms (put l (by_name e) acc))
        → members_by_name (cond b (member l d ms) (member l e (put_in_place k d ms))) acc
        ≡ put k (by_name d) (members_by_name ms (put l (by_name e) acc))
    by true is rest =
        subst (λ n. members_by_name ms (put l (by_name d) acc)
        ≡ put n (by_name d) (members_by_name ms (put l (by_name e) acc))) (sym ((bytes_eq-Decides k l).0 is))
        (ap (members_by_name ms) (sym (put_same l (by_name d) (by_name e) acc))
        ∙ moved l (by_name d) ms (put l (by_name e) acc) h.0 (InOrder-put l (by_name e) acc o))
    by false is rest = rest

-- ---- what is read by name
number_read : (o : Option Num) → option_map number o ≡ option_map by_name (option_map number o)
number_read None = refl
number_read (Some n) = refl

array_read : (o : Option Items) → option_map array (option_map items_by_name o) ≡ option_map by_name (option_map array o)
array_read None = refl
array_read (Some ds) = refl

object_read : (o : Option Members) → option_map object (option_map (λ ds. members_by_name ds no_members) o)
    ≡ option_map by_name (option_map object o)
object_read None = refl
object_read (Some ds) = refl

item_read : (o : Option Data) (p : Option Items)
    → option_and_then (λ d. option_map (item d) (option_map items_by_name p)) (option_map by_name o)
    ≡ option_map items_by_name (option_and_then (λ d. option_map (item d) p) o)
item_read None p = refl
item_read (Some d) None = refl
item_read (Some d) (Some ds) = refl

member_read : (k : List ℕ) (ms : json.Members) (es : Members) → AreDistinct es → (o : Option Data)
    → ((fs : Members) → AreDistinct fs → of_members ms (members_by_name fs no_members)
    ≡ option_map (λ ds. members_by_name ds no_members) (members_in_order ms fs))
    → option_and_then (λ d. of_members ms (put k d (members_by_name es no_members))) (option_map by_name o)
    ≡ option_map (λ ds. members_by_name ds no_members) (option_and_then (λ d. members_in_order ms (put_in_place k d es)) o)
member_read k ms es h None rest = refl
member_read k ms es h (Some d) rest =
    ap (of_members ms) (sym (put_by_name k d es no_members h tt)) ∙ rest (put_in_place k d es) (distinct_put k d es h)

mutual
  -- reading by name gives what reading in order gives, sorted
  pub read_by_name : (j : json.Json) → of_json j ≡ option_map by_name (in_order j)
  read_by_name json.null = refl
  read_by_name (json.boolean b) = refl
  read_by_name (json.number s) = number_read (number_of s)
  read_by_name (json.string s) = refl
  read_by_name (json.array js) = ap (option_map array) (items_read js) ∙ array_read (items_in_order js)
  read_by_name (json.object ms) =
      ap (option_map object) (members_read ms no_members tt) ∙ object_read (members_in_order ms no_members)

  items_read : (js : json.Items) → of_items js ≡ option_map items_by_name (items_in_order js)
  items_read json.no_items = refl
  items_read (json.item j js) =
      (λ i. option_and_then (λ d. option_map (item d) (items_read js i)) (read_by_name j i))
      ∙ item_read (in_order j) (items_in_order js)

  members_read : (ms : json.Members) (es : Members) → AreDistinct es → of_members ms (members_by_name es no_members)
      ≡ option_map (λ ds. members_by_name ds no_members) (members_in_order ms es)
  members_read json.no_members es h = refl
  members_read (json.member k j ms) es h =
      ap (option_and_then (λ d. of_members ms (put k d (members_by_name es no_members)))) (read_by_name j)
      ∙ member_read k ms es h (in_order j) (members_read ms)

-- ---- what is read in order has no repeated names
abbrev mutual
  IsClear : Data → Type 0
  IsClear null = Unit {0}
  IsClear (boolean b) = Unit {0}
  IsClear (number n) = Unit {0}
  IsClear (string s) = Unit {0}
  IsClear (array ds) = AreClear ds
  IsClear (object ms) = AreDistinct ms × AreAllClear ms

  AreClear : Items → Type 0
  AreClear no_items = Unit {0}
  AreClear (item d ds) = IsClear d × AreClear ds

  AreAllClear : Members → Type 0
  AreAllClear no_members = Unit {0}
  AreAllClear (member k d ms) = IsClear d × AreAllClear ms

clear_put : (k : List ℕ) (d : Data) (ms : Members) → IsClear d → AreAllClear ms → AreAllClear (put_in_place k d ms)
clear_put k d no_members c h = (c, tt)
clear_put k d (member l e ms) c h = by (bytes_eq k l) (clear_put k d ms c h.1)
  where
    by : (b : Bool) → AreAllClear (put_in_place k d ms)
        → AreAllClear (cond b (member l d ms) (member l e (put_in_place k d ms)))
    by true rest = (c, h.1)
    by false rest = (h.0, rest)

number_clear : (o : Option Num) → IfSome (option_map number o) IsClear
number_clear None = tt
number_clear (Some n) = tt

array_clear : (o : Option Items) → IfSome o AreClear → IfSome (option_map array o) IsClear
array_clear None h = tt
array_clear (Some ds) h = h

abbrev AreDistinctAndClear : Members → Type 0
AreDistinctAndClear ms = AreDistinct ms × AreAllClear ms

object_clear : (o : Option Members) → IfSome o AreDistinctAndClear → IfSome (option_map object o) IsClear
object_clear None h = tt
object_clear (Some ms) h = h

item_clear : (o : Option Data) (p : Option Items) → IfSome o IsClear → IfSome p AreClear
    → IfSome (option_and_then (λ d. option_map (item d) p) o) AreClear
item_clear None p c h = tt
item_clear (Some d) None c h = tt
item_clear (Some d) (Some ds) c h = (c, h)

member_clear : (k : List ℕ) (ms : json.Members) (es : Members) (o : Option Data) → AreDistinctAndClear es → IfSome o IsClear
    → ((fs : Members) → AreDistinctAndClear fs → IfSome (members_in_order ms fs) AreDistinctAndClear)
    → IfSome (option_and_then (λ d. members_in_order ms (put_in_place k d es)) o) AreDistinctAndClear
member_clear k ms es None h c rest = tt
member_clear k ms es (Some d) h c rest = rest (put_in_place k d es) (distinct_put k d es h.0, clear_put k d es c h.1)

mutual
  read_clear : (j : json.Json) → IfSome (in_order j) IsClear
  read_clear json.null = tt
  read_clear (json.boolean b) = tt
  read_clear (json.number s) = number_clear (number_of s)
  read_clear (json.string s) = tt
  read_clear (json.array js) = array_clear (items_in_order js) (items_clear js)
  read_clear (json.object ms) = object_clear (members_in_order ms no_members) (members_clear ms no_members (tt, tt))

  items_clear : (js : json.Items) → IfSome (items_in_order js) AreClear
  items_clear json.no_items = tt
  items_clear (json.item j js) = item_clear (in_order j) (items_in_order js) (read_clear j) (items_clear js)

  members_clear : (ms : json.Members) (es : Members) → AreDistinctAndClear es
      → IfSome (members_in_order ms es) AreDistinctAndClear
  members_clear json.no_members es h = h
  members_clear (json.member k j ms) es h = member_clear k ms es (in_order j) h (read_clear j) (members_clear ms)

-- ---- if the data by name has no float, the data in order has none
put_plain : (k : List ℕ) (d : Data) (ms : Members) → members_have_float (put k d ms) ≡ false → has_float d ≡ false
put_plain k d no_members h = (none (has_float d) false h).0
put_plain k d (member l e ms) h = by (slice_cmp nat_cmp k l) h (put_plain k d ms)
  where
    by : (o : Ordering) → members_have_float (match_ordering o (member k d (member l e ms)) (member l d ms)
        (member l e (put k d ms))) ≡ false → (members_have_float (put k d ms) ≡ false → has_float d ≡ false)
        → has_float d ≡ false
    by Less g rest = (none (has_float d) _ g).0
    by Equal g rest = (none (has_float d) _ g).0
    by Greater g rest = rest (none (has_float e) _ g).1

mutual
  plain : (d : Data) → IsClear d → has_float (by_name d) ≡ false → has_float d ≡ false
  plain null c h = refl
  plain (boolean b) c h = refl
  plain (number n) c h = h
  plain (string s) c h = refl
  plain (array ds) c h = items_plain ds c h
  plain (object ms) c h = members_plain ms no_members c tt h

  items_plain : (ds : Items) → AreClear ds → items_have_float (items_by_name ds) ≡ false → items_have_float ds ≡ false
  items_plain no_items c h = refl
  items_plain (item d ds) c h =
      let first = none (has_float (by_name d)) (items_have_float (items_by_name ds)) h in
      both (has_float d) (items_have_float ds) (plain d c.0 first.0) (items_plain ds c.1 first.1)

  members_plain : (ms acc : Members) → AreDistinctAndClear ms → InOrder acc
      → members_have_float (members_by_name ms acc) ≡ false → members_have_float ms ≡ false
  members_plain no_members acc c o h = refl
  members_plain (member k d ms) acc c o h =
      let first = put_plain k (by_name d) (members_by_name ms acc)
      (ap members_have_float (sym (moved k (by_name d) ms acc c.0.0 o)) ∙ h) in
      both (has_float d) (members_have_float ms) (plain d c.1.0 first)
      (members_plain ms (put k (by_name d) acc) (c.0.1, c.1.1) (InOrder-put k (by_name d) acc o) h)

-- ---- the node of what is read
-- the node of data, with 0 in place of each number that is not whole
abbrev mutual
  pub filled : Data → Tree
  filled null = tree.null
  filled (boolean b) = tree.flag b
  filled (number n) = tree_or_zero n
  filled (string s) = tree.text s
  filled (array ds) = tree.list (items_filled ds)
  filled (object ms) = tree.object (members_filled ms)

  pub items_filled : Items → tree.Items
  items_filled no_items = tree.no_items
  items_filled (item d ds) = tree.item (filled d) (items_filled ds)

  pub members_filled : Members → tree.Members
  members_filled no_members = tree.no_members
  members_filled (member k d ms) = tree.member k (filled d) (members_filled ms)

mutual
  -- for data without floats, this is the node of the data
  pub filled_plain : (d : Data) → has_float d ≡ false → filled d ≡ tree_of_data d
  filled_plain null h = refl
  filled_plain (boolean b) h = refl
  filled_plain (number (unsigned n)) h = refl
  filled_plain (number (negative z)) h = refl
  filled_plain (number (float x)) h = absurd (true≢false h)
  filled_plain (string s) h = refl
  filled_plain (array ds) h = ap tree.list (items_filled_plain ds h)
  filled_plain (object ms) h = ap tree.object (members_filled_plain ms h)

  items_filled_plain : (ds : Items) → items_have_float ds ≡ false → items_filled ds ≡ items_of_data ds
  items_filled_plain no_items h = refl
  items_filled_plain (item d ds) h =
      let parts = none (has_float d) (items_have_float ds) h in
      λ i. tree.item (filled_plain d parts.0 i) (items_filled_plain ds parts.1 i)

  members_filled_plain : (ms : Members) → members_have_float ms ≡ false → members_filled ms ≡ members_of_data ms
  members_filled_plain no_members h = refl
  members_filled_plain (member k d ms) h =
      let parts = none (has_float d) (members_have_float ms) h in
      λ i. tree.member k (filled_plain d parts.0 i) (members_filled_plain ms parts.1 i)

abbrev members_entries : Members → Entries Tree
members_entries no_members = []
members_entries (member k d ms) = (k, filled d) ∷ members_entries ms

entries_members : (ms : Members) → members_of (members_entries ms) ≡ members_filled ms
entries_members no_members = refl
entries_members (member k d ms) = ap (tree.member k (filled d)) (entries_members ms)

entry_put : (k : List ℕ) (d : Data) (ms : Members)
    → insert_entry (members_entries ms) k (filled d) ≡ members_entries (put_in_place k d ms)
entry_put k d no_members = refl
entry_put k d (member l e ms) = by (bytes_eq k l) (entry_put k d ms)
  where
    by : (b : Bool) → insert_entry (members_entries ms) k (filled d) ≡ members_entries (put_in_place k d ms)
        → cond b ((l, filled d) ∷ members_entries ms)
        ((l, filled e) ∷ insert_entry (members_entries ms) k (filled d))
        ≡ members_entries (cond b (member l d ms) (member l e (put_in_place k d ms)))
    by true rest = refl
    by false rest = ap (λ es. (l, filled e) ∷ es) rest

number_made : (o : Option Num) → IfSome (option_map number o) (λ d. tree_of_any o ≡ filled d)
number_made None = tt
number_made (Some n) = refl

array_made : (js : json.Items) (o : Option Items) → IfSome o (λ ds. items_of (trees_of js) ≡ items_filled ds)
    → IfSome (option_map array o) (λ d. tree.list (items_of (trees_of js)) ≡ filled d)
array_made js None h = tt
array_made js (Some ds) h = ap tree.list h

object_made : (ms : json.Members) (o : Option Members) → IfSome o (λ ds. entries_of ms [] ≡ members_entries ds)
    → IfSome (option_map object o) (λ d. tree.object (members_of (entries_of ms [])) ≡ filled d)
object_made ms None h = tt
object_made ms (Some ds) h = ap (λ es. tree.object (members_of es)) h ∙ ap tree.object (entries_members ds)

item_made : (j : json.Json) (js : json.Items) (o : Option Data) (p : Option Items) → IfSome o (λ d. tree_of j ≡ filled d)
    → IfSome p (λ ds. items_of (trees_of js) ≡ items_filled ds)
    → IfSome (option_and_then (λ d. option_map (item d) p) o) (λ ds. items_of (trees_of (json.item j js)) ≡ items_filled ds)
item_made j js None p c h = tt
item_made j js (Some d) None c h = tt
item_made j js (Some d) (Some ds) c h = λ i. tree.item (c i) (h i)

member_made : (k : List ℕ) (j : json.Json) (ms : json.Members) (es : Members) (o : Option Data)
    → IfSome o (λ d. tree_of j ≡ filled d)
    → ((fs : Members) → IfSome (members_in_order ms fs) (λ ds. entries_of ms (members_entries fs) ≡ members_entries ds))
    → IfSome (option_and_then (λ d. members_in_order ms (put_in_place k d es)) o)
    (λ ds. entries_of ms (insert_entry (members_entries es) k (tree_of j)) ≡ members_entries ds)
member_made k j ms es None h rest = tt
member_made k j ms es (Some d) h rest =
    let same = ap (insert_entry (members_entries es) k) h ∙ entry_put k d es in
    subst (λ fs. IfSome (members_in_order ms (put_in_place k d es)) (λ ds. entries_of ms fs ≡ members_entries ds)) (sym same)
    (rest (put_in_place k d es))

mutual
  -- the node of a JSON value is the one of its data in order, with zeros
  pub made : (j : json.Json) → IfSome (in_order j) (λ d. tree_of j ≡ filled d)
  made json.null = refl
  made (json.boolean b) = refl
  made (json.number s) = number_made (number_of s)
  made (json.string s) = refl
  made (json.array js) = array_made js (items_in_order js) (items_made js)
  made (json.object ms) = object_made ms (members_in_order ms no_members) (members_made ms no_members)

  items_made : (js : json.Items) → IfSome (items_in_order js) (λ ds. items_of (trees_of js) ≡ items_filled ds)
  items_made json.no_items = refl
  items_made (json.item j js) = item_made j js (in_order j) (items_in_order js) (made j) (items_made js)

  members_made : (ms : json.Members) (es : Members)
      → IfSome (members_in_order ms es) (λ ds. entries_of ms (members_entries es) ≡ members_entries ds)
  members_made json.no_members es = refl
  members_made (json.member k j ms) es = member_made k j ms es (in_order j) (made j) (members_made ms)

-- ---- if all numbers are whole, the data has no float
abbrev pub IsPlain : Option Data → Type 0
IsPlain None = ⊥
IsPlain (Some d) = has_float d ≡ false

abbrev AreItemsPlain : Option Items → Type 0
AreItemsPlain None = ⊥
AreItemsPlain (Some ds) = items_have_float ds ≡ false

abbrev AreMembersPlain : Option Members → Type 0
AreMembersPlain None = ⊥
AreMembersPlain (Some ds) = members_have_float ds ≡ false

plain_put : (k : List ℕ) (d : Data) (ms : Members) → has_float d ≡ false → members_have_float ms ≡ false
    → members_have_float (put_in_place k d ms) ≡ false
plain_put k d no_members p h = both (has_float d) false p refl
plain_put k d (member l e ms) p h =
    let parts = none (has_float e) (members_have_float ms) h in
    by (bytes_eq k l) parts.0 parts.1 (plain_put k d ms p parts.1)
  where
    by : (b : Bool) → has_float e ≡ false → members_have_float ms ≡ false
        → members_have_float (put_in_place k d ms) ≡ false
        → members_have_float (cond b (member l d ms) (member l e (put_in_place k d ms))) ≡ false
    by true f g rest = both (has_float d) (members_have_float ms) p g
    by false f g rest = both (has_float e) (members_have_float (put_in_place k d ms)) f rest

number_plain : (o : Option Num) → holds_whole o ≡ true → IsPlain (option_map number o)
number_plain None h = true≢false (sym h)
number_plain (Some (unsigned n)) h = refl
number_plain (Some (negative z)) h = refl
number_plain (Some (float x)) h = absurd (true≢false (sym h))

array_plain : (o : Option Items) → AreItemsPlain o → IsPlain (option_map array o)
array_plain None h = h
array_plain (Some ds) h = h

object_plain : (o : Option Members) → AreMembersPlain o → IsPlain (option_map object o)
object_plain None h = h
object_plain (Some ds) h = h

item_plain : (o : Option Data) (p : Option Items) → IsPlain o → AreItemsPlain p
    → AreItemsPlain (option_and_then (λ d. option_map (item d) p) o)
item_plain None p c h = c
item_plain (Some d) None c h = h
item_plain (Some d) (Some ds) c h = both (has_float d) (items_have_float ds) c h

member_plain : (k : List ℕ) (ms : json.Members) (es : Members) (o : Option Data) → IsPlain o → members_have_float es ≡ false
    → ((fs : Members) → members_have_float fs ≡ false → AreMembersPlain (members_in_order ms fs))
    → AreMembersPlain (option_and_then (λ d. members_in_order ms (put_in_place k d es)) o)
member_plain k ms es None c h rest = c
member_plain k ms es (Some d) c h rest = rest (put_in_place k d es) (plain_put k d es c h)

and_parts : (a b : Bool) → (a && b) ≡ true → (a ≡ true) × (b ≡ true)
and_parts true b h = (refl, h)
and_parts false b h = absurd (true≢false (sym h))

mutual
  whole_plain : (j : json.Json) → all_whole j ≡ true → IsPlain (in_order j)
  whole_plain json.null h = refl
  whole_plain (json.boolean b) h = refl
  whole_plain (json.number s) h = number_plain (number_of s) h
  whole_plain (json.string s) h = refl
  whole_plain (json.array js) h = array_plain (items_in_order js) (items_whole_plain js h)
  whole_plain (json.object ms) h =
      object_plain (members_in_order ms no_members) (members_whole_plain ms no_members h refl)

  items_whole_plain : (js : json.Items) → items_whole js ≡ true → AreItemsPlain (items_in_order js)
  items_whole_plain json.no_items h = refl
  items_whole_plain (json.item j js) h =
      let parts = and_parts (all_whole j) (items_whole js) h in
      item_plain (in_order j) (items_in_order js) (whole_plain j parts.0) (items_whole_plain js parts.1)

  members_whole_plain : (ms : json.Members) (es : Members) → members_whole ms ≡ true → members_have_float es ≡ false
      → AreMembersPlain (members_in_order ms es)
  members_whole_plain json.no_members es h p = p
  members_whole_plain (json.member k j ms) es h p =
      let parts = and_parts (all_whole j) (members_whole ms) h in
      member_plain k ms es (in_order j) (whole_plain j parts.0) p (λ fs q. members_whole_plain ms fs parts.1 q)

-- ---- the node of a text in order
-- there is data in order without floats, and the node of the JSON value is that of the data
pub record IsReadInOrder (j : json.Json) : Type 0 where
  pub value : Data
  pub reads : in_order j ≡ Some value
  pub is : IsTreeOf value (tree_of j)

pub in_order_from : (j : json.Json) (o : Option Data) → in_order j ≡ o → IsPlain o → IfSome o (λ d. tree_of j ≡ filled d)
    → IsReadInOrder j
in_order_from j None e p h = absurd p
in_order_from j (Some d) e p h =
    record { value = d; reads = e; is = record { whole_numbers = p; same = h ∙ filled_plain d p } }

-- this is so if all numbers are whole
pub read_whole : (j : json.Json) → all_whole j ≡ true → IsReadInOrder j
read_whole j h = in_order_from j (in_order j) refl (whole_plain j h) (made j)

by_name_from : (o : Option Data) (v : Data) → IfSome o IsClear → Some v ≡ option_map by_name o → has_float v ≡ false → IsPlain o
by_name_from None v c e h = cc
by_name_from (Some d) v c e h =
    let same : v ≡ by_name d = cc in
    plain d c (ap has_float (sym same) ∙ h)

-- it is also so if what is read by name has no float
pub read_either : (j : json.Json) (v : Data) → of_json j ≡ Some v → has_float v ≡ false → IsReadInOrder j
read_either j v e h =
    in_order_from j (in_order j) refl (by_name_from (in_order j) v (read_clear j) (sym e ∙ read_by_name j) h) (made j)

-- what `serde_json` reads from a text, in terms of what the grammar reads
pub read_of : (text : List ℕ) (j : json.Json) → parsed text ≡ Some j → read text ≡ of_json j
read_of text j is = ap (option_and_then of_json) is

-- if the JSON value of a text is read in order, its node is the node of the text in order
pub in_order_of : (text : List ℕ) (j : json.Json) (t : Tree) → IsUtf8 text → parsed text ≡ Some j → t ≡ tree_of j
    → IsReadInOrder j → IsTreeInOrder text t
in_order_of text j t utf8 is same r =
    record {
      utf8 = utf8;
      value = r.value;
      reads = ap (option_and_then in_order) is ∙ r.reads;
      is = subst (IsTreeOf r.value) (sym same) r.is;
      sorted = read_of text j is ∙ read_by_name j ∙ ap (option_map by_name) r.reads;
    }
