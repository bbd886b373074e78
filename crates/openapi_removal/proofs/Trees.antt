-- The node of a value without some members is the node of the value without these members.
use Rattle.std.proofs.Common.{◌≡◌, ℕ, suc, Bool, true, false, cond, List, [], ◌∷◌, Option, Some, None, is_some, refl, sym, ap, subst, ◌∙◌}
use Rattle.std.proofs.lemmas.Slice.Eq.{bytes_eq-Decides}
use Rattle.std.specs.Cmp.Lexicographic.{nat_list_eq_equiv}
use Rattle.std.specs.Str.{bytes_eq}
use Rattle.json.specs.Find.{get_member, later_or}
use Rattle.json.specs.Json as json
use Rattle.json.specs.Json.{Json}
use Rattle.serde_json.specs.Data.{Num, unsigned, negative, float}
use Rattle.serde_json.specs.Read.{number_of}
use Rattle.openapi_map.specs.Entries.{Entries, insert_entry}
use Rattle.openapi_node.specs.Place.{Place, named, indexed}
use Rattle.openapi_node.specs.Tree.{Tree, list, object, item, member, items_of, members_of}
use Rattle.openapi_json.specs.Ordered.{entries_of, tree_of, tree_of_any, trees_of}
use Rattle.openapi_faults.specs.Without as trees
use Rattle.openapi_faults.specs.Without.{has_root, inside, without}
use Rattle.openapi_faults.proofs.Locations.{without_none}
use Rattle.openapi_removal.specs.Without.{below, items_without, json_without, members_without}

-- ---- entries with distinct names
abbrev IsAbsent : List ℕ → Entries Tree → Type 0
IsAbsent k [] = Unit {0}
IsAbsent k (e ∷ es) = (bytes_eq k e.0 ≡ false) × IsAbsent k es

abbrev AreApart : Entries Tree → Type 0
AreApart [] = Unit {0}
AreApart (e ∷ es) = IsAbsent e.0 es × AreApart es

absent_insert : (n k : List ℕ) (t : Tree) (es : Entries Tree) → bytes_eq n k ≡ false → IsAbsent n es → IsAbsent n (insert_entry es k t)
absent_insert n k t [] h a = (h, tt)
absent_insert n k t (e ∷ es) h a = by (bytes_eq k e.0) (absent_insert n k t es h a.1)
  where
    by : (b : Bool) → IsAbsent n (insert_entry es k t) → IsAbsent n (cond b ((e.0, t) ∷ es) (e ∷ insert_entry es k t))
    by true rest = a
    by false rest = (a.0, rest)

apart_insert : (k : List ℕ) (t : Tree) (es : Entries Tree) → AreApart es → AreApart (insert_entry es k t)
apart_insert k t [] h = (tt, tt)
apart_insert k t (e ∷ es) h = by (bytes_eq k e.0) refl (apart_insert k t es h.1)
  where
    by : (b : Bool) → bytes_eq k e.0 ≡ b → AreApart (insert_entry es k t) → AreApart (cond b ((e.0, t) ∷ es) (e ∷ insert_entry es k t))
    by true is rest = h
    by false is rest = (absent_insert e.0 k t es (nat_list_eq_equiv.symm e.0 k ∙ is) h.0, rest)

-- ---- what is left of the entries that were read, before members that may replace them
-- the node of an entry: unchanged if a later member has its name, and else without the members at the locations inside it
abbrev seen : List Place → json.Members → List ℕ → Tree → Tree
seen ps later n t = cond (is_some (get_member n later)) t (without (inside (named n) ps) t)

abbrev stay : List Place → json.Members → Entries Tree → Entries Tree
stay ps later [] = []
stay ps later (e ∷ es) = cond (has_root (inside (named e.0) ps)) (stay ps later es) ((e.0, seen ps later e.0 e.1) ∷ stay ps later es)

-- with no member left to read, the entries that stay are those of the object without the members
all_read : (ps : List Place) (es : Entries Tree) → members_of (stay ps json.no_members es) ≡ trees.members_without ps (members_of es)
all_read ps [] = refl
all_read ps (e ∷ es) = by (has_root (inside (named e.0) ps)) (all_read ps es)
  where
    by : (b : Bool) → members_of (stay ps json.no_members es) ≡ trees.members_without ps (members_of es)
        → members_of (cond b (stay ps json.no_members es) ((e.0, without (inside (named e.0) ps) e.1) ∷ stay ps json.no_members es))
        ≡ cond b (trees.members_without ps (members_of es)) (member e.0 (without (inside (named e.0) ps) e.1) (trees.members_without ps (members_of es)))
    by true rest = rest
    by false rest = ap (member e.0 (without (inside (named e.0) ps) e.1)) rest

-- a member of another name replaces no entry
other_seen : (ps : List Place) (k : List ℕ) (j : Json) (ms : json.Members) (n : List ℕ) (t : Tree) → bytes_eq k n ≡ false
    → seen ps (json.member k j ms) n t ≡ seen ps ms n t
other_seen ps k j ms n t h =
    ap (λ b. cond (is_some (later_or (get_member n ms) (cond b (Some j) None))) t (without (inside (named n) ps) t)) h
    ∙ ap (λ o. cond (is_some o) t (without (inside (named n) ps) t)) (by (get_member n ms))
  where
    by : (o : Option Json) → later_or o None ≡ o
    by None = refl
    by (Some k) = refl

others_stay : (ps : List Place) (k : List ℕ) (j : Json) (ms : json.Members) (es : Entries Tree) → IsAbsent k es
    → stay ps (json.member k j ms) es ≡ stay ps ms es
others_stay ps k j ms [] a = refl
others_stay ps k j ms (e ∷ es) a =
    (λ i. cond (has_root (inside (named e.0) ps)) (others_stay ps k j ms es a.1 i)
    ((e.0, other_seen ps k j ms e.0 e.1 a.0 i) ∷ others_stay ps k j ms es a.1 i))

-- the entry of a name that is removed is not left after an insert either
gone_insert : (ps : List Place) (k : List ℕ) (j : Json) (t : Tree) (ms : json.Members) (es : Entries Tree)
    → has_root (inside (named k) ps) ≡ true → AreApart es → stay ps (json.member k j ms) es ≡ stay ps ms (insert_entry es k t)
gone_insert ps k j t ms [] r h = sym (ap (λ b. cond b [] ((k, seen ps ms k t) ∷ [])) r)
gone_insert ps k j t ms (e ∷ es) r h = by (bytes_eq k e.0) refl (gone_insert ps k j t ms es r h.1)
  where
    by : (b : Bool) → bytes_eq k e.0 ≡ b → stay ps (json.member k j ms) es ≡ stay ps ms (insert_entry es k t)
        → stay ps (json.member k j ms) (e ∷ es) ≡ stay ps ms (cond b ((e.0, t) ∷ es) (e ∷ insert_entry es k t))
    by true is rest =
        let same : k ≡ e.0 = (bytes_eq-Decides k e.0).0 is in
        let root : has_root (inside (named e.0) ps) ≡ true = ap (λ n. has_root (inside (named n) ps)) (sym same) ∙ r in
        ap (λ b. cond b (stay ps (json.member k j ms) es) ((e.0, seen ps (json.member k j ms) e.0 e.1) ∷ stay ps (json.member k j ms) es)) root
        ∙ others_stay ps k j ms es (subst (λ n. IsAbsent n es) (sym same) h.0)
        ∙ sym (ap (λ b. cond b (stay ps ms es) ((e.0, seen ps ms e.0 t) ∷ stay ps ms es)) root)
    by false is rest =
        (λ i. cond (has_root (inside (named e.0) ps)) (rest i) ((e.0, other_seen ps k j ms e.0 e.1 is i) ∷ rest i))

-- the entry of a name that stays is inserted with the node that is left of it
kept_insert : (ps : List Place) (k : List ℕ) (j : Json) (t u : Tree) (ms : json.Members) (es : Entries Tree)
    → has_root (inside (named k) ps) ≡ false → u ≡ seen ps ms k t → AreApart es
    → insert_entry (stay ps (json.member k j ms) es) k u ≡ stay ps ms (insert_entry es k t)
kept_insert ps k j t u ms [] r is h =
    ap (λ v. (k, v) ∷ []) is ∙ sym (ap (λ b. cond b [] ((k, seen ps ms k t) ∷ [])) r)
kept_insert ps k j t u ms (e ∷ es) r is h = by (bytes_eq k e.0) refl (kept_insert ps k j t u ms es r is h.1)
  where
    under : bytes_eq k e.0 ≡ false → insert_entry (stay ps (json.member k j ms) es) k u ≡ stay ps ms (insert_entry es k t) → (b : Bool)
        → insert_entry (cond b (stay ps (json.member k j ms) es) ((e.0, seen ps (json.member k j ms) e.0 e.1) ∷ stay ps (json.member k j ms) es)) k u
        ≡ cond b (stay ps ms (insert_entry es k t)) ((e.0, seen ps ms e.0 e.1) ∷ stay ps ms (insert_entry es k t))
    under eq rest true = rest
    under eq rest false =
        let later = stay ps (json.member k j ms) es in
        ap (λ b. cond b ((e.0, u) ∷ later) ((e.0, seen ps (json.member k j ms) e.0 e.1) ∷ insert_entry later k u)) eq
        ∙ (λ i. (e.0, other_seen ps k j ms e.0 e.1 eq i) ∷ rest i)

    by : (b : Bool) → bytes_eq k e.0 ≡ b → insert_entry (stay ps (json.member k j ms) es) k u ≡ stay ps ms (insert_entry es k t)
        → insert_entry (stay ps (json.member k j ms) (e ∷ es)) k u ≡ stay ps ms (cond b ((e.0, t) ∷ es) (e ∷ insert_entry es k t))
    by true eq rest =
        let same : k ≡ e.0 = (bytes_eq-Decides k e.0).0 eq in
        let root : has_root (inside (named e.0) ps) ≡ false = ap (λ n. has_root (inside (named n) ps)) (sym same) ∙ r in
        let later = stay ps (json.member k j ms) es in
        let value : u ≡ seen ps ms e.0 t = is ∙ ap (λ n. seen ps ms n t) same in
        let others : later ≡ stay ps ms es = others_stay ps k j ms es (subst (λ n. IsAbsent n es) (sym same) h.0) in
        ap (λ b. insert_entry (cond b later ((e.0, seen ps (json.member k j ms) e.0 e.1) ∷ later)) k u) root
        ∙ ap (λ b. cond b ((e.0, u) ∷ later) ((e.0, seen ps (json.member k j ms) e.0 e.1) ∷ insert_entry later k u)) eq
        ∙ (λ i. (e.0, value i) ∷ others i)
        ∙ sym (ap (λ b. cond b (stay ps ms es) ((e.0, seen ps ms e.0 t) ∷ stay ps ms es)) root)
    by false eq rest = under eq rest (has_root (inside (named e.0) ps))

-- ---- the law
number_stays : (ps : List Place) (o : Option Num) → tree_of_any o ≡ without ps (tree_of_any o)
number_stays ps None = refl
number_stays ps (Some (unsigned n)) = refl
number_stays ps (Some (negative z)) = refl
number_stays ps (Some (float x)) = refl

-- the node of the value of a member that stays
value_seen : (s : Bool) (qs : List Place) (j : Json) → tree_of (json_without [] j) ≡ without [] (tree_of j)
    → tree_of (json_without qs j) ≡ without qs (tree_of j)
    → tree_of (json_without (cond s [] qs) j) ≡ cond s (tree_of j) (without qs (tree_of j))
value_seen true qs j none some = none ∙ without_none (tree_of j)
value_seen false qs j none some = some

mutual
  pub tree_without : (ps : List Place) (j : Json) → tree_of (json_without ps j) ≡ without ps (tree_of j)
  tree_without ps json.null = refl
  tree_without ps (json.boolean b) = refl
  tree_without ps (json.number s) = number_stays ps (number_of s)
  tree_without ps (json.string s) = refl
  tree_without ps (json.array js) = ap list (items_trees ps 0 js)
  tree_without ps (json.object ms) =
      ap (λ es. object (members_of es)) (members_trees ps ms [] tt) ∙ ap object (all_read ps (entries_of ms []))

  items_trees : (ps : List Place) (i : ℕ) (js : json.Items)
      → items_of (trees_of (items_without ps i js)) ≡ trees.items_without ps i (items_of (trees_of js))
  items_trees ps i json.no_items = refl
  items_trees ps i (json.item j js) = (λ t. item (tree_without (inside (indexed i) ps) j t) (items_trees ps (suc i) js t))

  members_trees : (ps : List Place) (ms : json.Members) (es : Entries Tree) → AreApart es
      → entries_of (members_without ps ms) (stay ps ms es) ≡ stay ps json.no_members (entries_of ms es)
  members_trees ps json.no_members es h = refl
  members_trees ps (json.member k j ms) es h =
      by (has_root (inside (named k) ps)) refl (members_trees ps ms (insert_entry es k (tree_of j)) (apart_insert k (tree_of j) es h))
      (value_seen (is_some (get_member k ms)) (inside (named k) ps) j (tree_without [] j) (tree_without (inside (named k) ps) j))
    where
      by : (b : Bool) → has_root (inside (named k) ps) ≡ b
          → entries_of (members_without ps ms) (stay ps ms (insert_entry es k (tree_of j)))
          ≡ stay ps json.no_members (entries_of ms (insert_entry es k (tree_of j)))
          → tree_of (json_without (below ps k ms) j) ≡ seen ps ms k (tree_of j)
          → entries_of (cond b (members_without ps ms) (json.member k (json_without (below ps k ms) j) (members_without ps ms)))
          (stay ps (json.member k j ms) es)
          ≡ stay ps json.no_members (entries_of ms (insert_entry es k (tree_of j)))
      by true r rest is = ap (entries_of (members_without ps ms)) (gone_insert ps k j (tree_of j) ms es r h) ∙ rest
      by false r rest is =
          ap (entries_of (members_without ps ms))
          (kept_insert ps k j (tree_of j) (tree_of (json_without (below ps k ms) j)) ms es r is h)
          ∙ rest
