-- When the data of two lists or of two objects is the same, in terms of their children.
use Rattle.std.proofs.Common.{◌≡◌, ℕ, zero, suc, ◌+◌, ◌<◌, Bool, true, false, cond, List, [], ◌∷◌, ◌++◌, length, get_or}
use Rattle.std.proofs.Common.{slice_get, Option, Some, None, Ordering, Less, Equal, Greater, nat_cmp, refl, sym, ap}
use Rattle.std.proofs.Common.{subst, ◌∙◌, true≢false, arith}
use Rattle.std.proofs.lemmas.Slice.Eq.{bytes_eq-Decides}
use Rattle.std.specs.Cmp.Lexicographic.{slice_cmp, nat_list_eq_equiv}
use Rattle.std.specs.List.{IsDistinct, AllByRecursion}
use Rattle.std.specs.Map.{keys_of}
use Rattle.std.specs.Ordering.{match_ordering}
use Rattle.std.specs.Str.{bytes_eq}
use Rattle.serde_json.proofs.Views.{get_member-put, get_member-put_other}
use Rattle.serde_json.specs.Data as json
use Rattle.serde_json.specs.Data.{Data, put}
use Rattle.serde_json.specs.Events.{items_len, members_len}
use Rattle.serde_json.specs.Find.{get_item, get_member}
use Rattle.openapi_map.specs.Entries.{Entries, get, HasDistinctNames}
use Rattle.openapi_node.specs.Json.{data_of, items_data, members_data}
use Rattle.openapi_node.specs.Tree.{Tree, list, object, items_of, members_of}
use Rattle.openapi_node.proofs.DataOrder.{InOrder, InOrder-put, not_both, fits}

-- ---- lists
items_len-items_data : (ts : List Tree) → items_len (items_data (items_of ts)) ≡ length ts
items_len-items_data [] = refl
items_len-items_data (t ∷ ts) = ap suc (items_len-items_data ts)

get_item-items_data : (ts : List Tree) (i : ℕ) (t : Tree) → i < length ts
    → get_item i (items_data (items_of ts)) ≡ Some (data_of (get_or ts i t))
get_item-items_data [] i t h = absurd (omega arith)
get_item-items_data (x ∷ ts) zero t h = refl
get_item-items_data (x ∷ ts) (suc i) t h = get_item-items_data ts i t (omega arith)

-- lists with the same data have the same length, and their items have the same data
module _ (ts us : List Tree) (same : data_of (list (items_of ts)) ≡ data_of (list (items_of us))) where
  same_items : items_data (items_of ts) ≡ items_data (items_of us)
  same_items = cc

  -- they have the same length
  pub same_length : length ts ≡ length us
  same_length = sym (items_len-items_data ts) ∙ ap items_len same_items ∙ items_len-items_data us

  -- their items at an index have the same data
  pub same_item : (i : ℕ) (t u : Tree) → i < length ts → t ≡ get_or ts i t → u ≡ get_or us i u → data_of t ≡ data_of u
  same_item i t u h e f =
      let found : Some (data_of (get_or ts i t)) ≡ Some (data_of (get_or us i u)) =
      sym (get_item-items_data ts i t h) ∙ ap (get_item i) same_items
      ∙ get_item-items_data us i u (omega (arith, same_length)) in
      let value : data_of (get_or ts i t) ≡ data_of (get_or us i u) = cc in
      ap data_of e ∙ value ∙ ap data_of (sym f)

-- ---- objects
apart_names : (k l : List ℕ) → bytes_eq k l ≡ false → k ≡ l → ⊥
apart_names k l e same = true≢false (sym ((bytes_eq-Decides k l).1 same) ∙ e)

-- members without a name leave what is found at the name as it is
absent : (k : List ℕ) (ms : Entries Tree) (ds : json.Members) → get k ms ≡ None
    → get_member k (members_data (members_of ms) ds) ≡ get_member k ds
absent k [] ds none = refl
absent k (m ∷ ms) ds none = by (bytes_eq k m.0) refl none (λ n. absent k ms (put m.0 (data_of m.1) ds) n)
  where
    by : (b : Bool) → bytes_eq k m.0 ≡ b → cond b (Some m.1) (get k ms) ≡ None
        → (get k ms ≡ None → get_member k (members_data (members_of ms) (put m.0 (data_of m.1) ds))
        ≡ get_member k (put m.0 (data_of m.1) ds))
        → get_member k (members_data (members_of ms) (put m.0 (data_of m.1) ds)) ≡ get_member k ds
    by true e n rest = absurd (not_both n refl)
    by false e n rest = rest n ∙ get_member-put_other k m.0 (data_of m.1) ds (apart_names k m.0 e)

none_later : (k : List ℕ) (ms : Entries Tree) → AllByRecursion (λ l. bytes_eq k l ≡ false) (keys_of ms)
    → get k ms ≡ None
none_later k [] h = refl
none_later k (m ∷ ms) h = ap (λ b. cond b (Some m.1) (get k ms)) h.0 ∙ none_later k ms h.1

-- a member of an object with distinct names is found in its data
present : (k : List ℕ) (t : Tree) (ms : Entries Tree) (ds : json.Members) → HasDistinctNames ms → get k ms ≡ Some t
    → get_member k (members_data (members_of ms) ds) ≡ Some (data_of t)
unfolding IsDistinct
present k t [] ds distinct found = absurd (not_both refl found)
present k t (m ∷ ms) ds distinct found =
    by (bytes_eq k m.0) refl found (λ f. present k t ms (put m.0 (data_of m.1) ds) distinct.1 f)
  where
    by : (b : Bool) → bytes_eq k m.0 ≡ b → cond b (Some m.1) (get k ms) ≡ Some t
        → (get k ms ≡ Some t → get_member k (members_data (members_of ms) (put m.0 (data_of m.1) ds))
        ≡ Some (data_of t))
        → get_member k (members_data (members_of ms) (put m.0 (data_of m.1) ds)) ≡ Some (data_of t)
    by true e f rest =
        let name : k ≡ m.0 = (bytes_eq-Decides k m.0).0 e in
        let value : m.1 ≡ t = cc in
        subst (λ n. get_member n (members_data (members_of ms) (put m.0 (data_of m.1) ds)) ≡ Some (data_of t))
        (sym name)
        (absent m.0 ms (put m.0 (data_of m.1) ds) (none_later m.0 ms distinct.0)
        ∙ get_member-put m.0 (data_of m.1) ds ∙ ap (λ u. Some (data_of u)) value)
    by false e f rest = rest f

InOrder-data : (ms : Entries Tree) (ds : json.Members) → InOrder ds → InOrder (members_data (members_of ms) ds)
InOrder-data [] ds o = o
InOrder-data (m ∷ ms) ds o = InOrder-data ms (put m.0 (data_of m.1) ds) (InOrder-put m.0 (data_of m.1) ds o)

members_len-put : (k : List ℕ) (d : Data) (ds : json.Members) → get_member k ds ≡ None
    → members_len (put k d ds) ≡ suc (members_len ds)
members_len-put k d json.no_members none = refl
members_len-put k d (json.member l e ds) none = by (slice_cmp nat_cmp k l) none (λ n. members_len-put k d ds n)
  where
    by : (o : Ordering) → match_ordering o (get_member k ds) (Some e) (get_member k ds) ≡ None
        → (get_member k ds ≡ None → members_len (put k d ds) ≡ suc (members_len ds))
        → members_len (match_ordering o (json.member k d (json.member l e ds)) (json.member l d ds)
        (json.member l e (put k d ds))) ≡ suc (suc (members_len ds))
    by Less n rest = refl
    by Equal n rest = absurd (not_both n refl)
    by Greater n rest = ap suc (rest n)

-- the data has none of the members' names
abbrev AreNew : Entries Tree → json.Members → Type 0
AreNew ms ds = AllByRecursion (λ k. get_member k ds ≡ None) (keys_of ms)

AreNew-put : (k : List ℕ) (d : Data) (ms : Entries Tree) (ds : json.Members)
    → AllByRecursion (λ l. bytes_eq k l ≡ false) (keys_of ms) → AreNew ms ds → AreNew ms (put k d ds)
AreNew-put k d [] ds apart new = tt
AreNew-put k d (m ∷ ms) ds apart new = (
  get_member-put_other m.0 k d ds (λ same. apart_names k m.0 apart.0 (sym same))
      ∙ new.0,
  AreNew-put k d ms ds apart.1 new.1,
)

members_len-data : (ms : Entries Tree) (ds : json.Members) → HasDistinctNames ms → AreNew ms ds
    → members_len (members_data (members_of ms) ds) ≡ length ms + members_len ds
unfolding IsDistinct
members_len-data [] ds distinct new = omega arith
members_len-data (m ∷ ms) ds distinct new =
    let d = data_of m.1 in
    let later = members_len-data ms (put m.0 d ds) distinct.1 (AreNew-put m.0 d ms ds distinct.0 new.1) in
    omega (arith, later, members_len-put m.0 d ds new.0)

all_new : (ms : Entries Tree) → AreNew ms json.no_members
all_new [] = tt
all_new (m ∷ ms) = (refl, all_new ms)

-- an object with distinct names has as many members as its data
members_len-members_data : (ms : Entries Tree) → HasDistinctNames ms
    → members_len (members_data (members_of ms) json.no_members) ≡ length ms
members_len-members_data ms distinct = omega (arith, members_len-data ms json.no_members distinct (all_new ms))

-- the object has a member of that name with the same data
pub record IsFoundIn (ms : Entries Tree) (m : List ℕ × Tree) : Type 0 where
  pub found : Tree
  pub there : get m.0 ms ≡ Some found
  pub same : data_of m.1 ≡ data_of found

-- this is the member that a lookup of the name returns
pub same_found : (ms : Entries Tree) (m : List ℕ × Tree) (t : Tree) → IsFoundIn ms m → Some t ≡ get m.0 ms
    → data_of m.1 ≡ data_of t
same_found ms m t f there =
    let both : Some t ≡ Some f.found = there ∙ f.there in
    let same : t ≡ f.found = cc in
    f.same ∙ ap data_of (sym same)

-- each of these members is found in the object
abbrev pub AreFoundIn : Entries Tree → Entries Tree → Type 0
AreFoundIn ns [] = Unit {0}
AreFoundIn ns (m ∷ ms) = IsFoundIn ns m × AreFoundIn ns ms

-- if members are found in an object and one more is, all of these are
pub AreFoundIn-push : (ns ms : Entries Tree) (m : List ℕ × Tree) → AreFoundIn ns ms → IsFoundIn ns m
    → AreFoundIn ns (ms ++ m ∷ [])
AreFoundIn-push ns [] m h f = (f, tt)
AreFoundIn-push ns (x ∷ ms) m h f = (h.0, AreFoundIn-push ns ms m h.1 f)

found_again : (ns ms : Entries Tree) (k : List ℕ) (t : Tree) → AreFoundIn ns ms → get k ms ≡ Some t
    → IsFoundIn ns (k, t)
found_again ns [] k t h f = absurd (not_both refl f)
found_again ns (m ∷ ms) k t h f = by (bytes_eq k m.0) refl f (λ g. found_again ns ms k t h.1 g)
  where
    by : (b : Bool) → bytes_eq k m.0 ≡ b → cond b (Some m.1) (get k ms) ≡ Some t
        → (get k ms ≡ Some t → IsFoundIn ns (k, t)) → IsFoundIn ns (k, t)
    by true e g rest =
        let name : k ≡ m.0 = (bytes_eq-Decides k m.0).0 e in
        let value : m.1 ≡ t = cc in
        record {
          found = h.0.found;
          there = ap (λ n. get n ns) name ∙ h.0.there;
          same = ap data_of (sym value)
              ∙ h.0.same;
        }
    by false e g rest = rest g

apart_at : (k : List ℕ) (es : Entries Tree) (i : ℕ) (m : List ℕ × Tree)
    → AllByRecursion (λ l. bytes_eq k l ≡ false) (keys_of es)
    → slice_get es i ≡ Some m → bytes_eq k m.0 ≡ false
apart_at k [] i m h at = absurd (not_both refl at)
apart_at k (e ∷ es) zero m h at = let same : e ≡ m = cc in subst (λ x. bytes_eq k x.0 ≡ false) same h.0
apart_at k (e ∷ es) (suc i) m h at = apart_at k es i m h.1 at

get-at : (es : Entries Tree) (i : ℕ) (m : List ℕ × Tree) → HasDistinctNames es → slice_get es i ≡ Some m
    → get m.0 es ≡ Some m.1
unfolding IsDistinct
get-at [] i m d at = absurd (not_both refl at)
get-at (e ∷ es) zero m d at =
    let same : e ≡ m = cc in
    subst (λ x. get x.0 (e ∷ es) ≡ Some x.1) same
    (ap (λ b. cond b (Some e.1) (get e.0 es)) ((bytes_eq-Decides e.0 e.0).1 refl))
get-at (e ∷ es) (suc i) m d at =
    ap (λ b. cond b (Some e.1) (get m.0 es)) (nat_list_eq_equiv.symm m.0 e.0 ∙ apart_at e.0 es i m d.0 at)
    ∙ get-at es i m d.1 at

-- the members of the data of an object with these members
abbrev data_members : Entries Tree → json.Members
data_members ms = members_data (members_of ms) json.no_members

module _ (ms ns : Entries Tree) (distinct : HasDistinctNames ms) (others : HasDistinctNames ns) where
  by_data : (k : List ℕ) (d : Data) → AreFoundIn ns ms → get_member k (data_members ms) ≡ Some d
      → get_member k (data_members ns) ≡ Some d
  by_data k d all found = by (get k ms) refl
    where
      by : (r : Option Tree) → get k ms ≡ r → get_member k (data_members ns) ≡ Some d
      by None e = absurd (not_both (absent k ms json.no_members e) found)
      by (Some t) e =
          let f = found_again ns ms k t all e in
          present k f.found ns json.no_members others f.there ∙ ap Some (sym f.same)
          ∙ sym (present k t ms json.no_members distinct e) ∙ found

  -- two objects with as many members have the same data if each member of the first is found in the second
  pub equal_members : length ms ≡ length ns → AreFoundIn ns ms
      → data_of (object (members_of ms)) ≡ data_of (object (members_of ns))
  equal_members as_many all =
      ap json.object ((fits _ _ (InOrder-data ms json.no_members tt) (InOrder-data ns json.no_members tt)
      (λ k d found. by_data k d all found)).same
      (omega (arith, members_len-members_data ms distinct, members_len-members_data ns others)))

  module _ (same : data_of (object (members_of ms)) ≡ data_of (object (members_of ns))) where
    same_members : data_members ms ≡ data_members ns
    same_members = cc

    -- two objects with the same data have as many members
    pub as_many : length ms ≡ length ns
    as_many = sym (members_len-members_data ms distinct) ∙ ap members_len same_members
        ∙ members_len-members_data ns others

    -- and each member of the first is found in the second
    pub found_from_equal : (i : ℕ) (m : List ℕ × Tree) → slice_get ms i ≡ Some m → IsFoundIn ns m
    found_from_equal i m at = by (get m.0 ns) refl
      where
        here : get_member m.0 (data_members ns) ≡ Some (data_of m.1)
        here = ap (get_member m.0) (sym same_members)
            ∙ present m.0 m.1 ms json.no_members distinct (get-at ms i m distinct at)

        by : (r : Option Tree) → get m.0 ns ≡ r → IsFoundIn ns m
        by None e = absurd (not_both (absent m.0 ns json.no_members e) here)
        by (Some t) e =
            let there : Some (data_of m.1) ≡ Some (data_of t) = sym here ∙ present m.0 t ns json.no_members others e in
            record { found = t; there = e; same = cc }
