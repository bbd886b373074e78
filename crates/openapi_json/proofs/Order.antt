-- Members in the order of their names.
use Rattle.std.proofs.Common.{◌≡◌, ℕ, List, [], ◌∷◌, ◌++◌, map, length, suc, zero, Some, None, Bool, true, false, cond, ◌||◌}
use Rattle.std.proofs.Common.{String, Global, append-nil, drop, option_map, slice_get, slice_index_or, ◌<◌, ◌≤◌, ◌-◌, slice_set, take, Ordering, Less, Equal, Greater, nat_cmp, string_bytes, string_cmp, is_eq, bytes_eq, refl, sym, ap, ◌∙◌, subst, arith}
use Rattle.std.proofs.lemmas.Cmp.{nat_list_cmp_total}
use Rattle.std.proofs.lemmas.Map.Text.{is_eq-slice_cmp}
use Rattle.std.specs.BTreeMap.{insert_entry}
use Rattle.std.specs.Cmp.Lexicographic.{same_text, slice_cmp}
use Rattle.std.specs.List.{AllByRecursion, insert}
use Rattle.std.proofs.lemmas.List.{drop-map, map-append, take-append-drop, take-map}
use Rattle.std.proofs.lemmas.Option.{slice_get-map, slice_get_read}
use Rattle.std.specs.List.Sorted.{IsStrictlySortedBy}
use Rattle.std.specs.Map.{keys_of}
use Rattle.std.specs.Ordering.{match_ordering, ordering_reverse}
use Rattle.serde_json.specs.Data.{Data, put}
use Rattle.serde_json.specs.Written.{has_float, members_have_float}
use Rattle.openapi_map.specs.Entries.{Entries, get, owned_entry}
use Rattle.openapi_node.specs.Json.{members_of_data, tree_of_data}
use Rattle.openapi_node.specs.Tree.{Tree, member, members_of}
use Rattle.openapi_json.specs.Gathered.{AllBelow, Ascends, Rises}
use Rattle.openapi_json.specs.Reading.{Pair, pairs_data, tree_pair}
use Rattle.openapi_json.proofs.Sorted.{some_same}

-- comparing two names in reverse order gives the reverse result
pub turned : (n m : List ℕ) {o : Ordering} → slice_cmp nat_cmp n m ≡ o → slice_cmp nat_cmp m n ≡ ordering_reverse o
turned n m is = nat_list_cmp_total.antisymm m n ∙ ap ordering_reverse is

-- names that compare as equal are the same
pub equal_names : (n m : List ℕ) → slice_cmp nat_cmp n m ≡ Equal → n ≡ m
equal_names n m e = same_text n m (sym (ap is_eq e) ∙ is_eq-slice_cmp n m)

rises_ascends : (k : List ℕ) (es : Entries Tree) → Rises k es → Ascends es
rises_ascends k [] r = tt
rises_ascends k (e ∷ es) r = r.1

-- a name that is greater than all others is none of them
pub absent_below : (n : List ℕ) (es : Entries Tree) → AllBelow n es → get n es ≡ None
absent_below n [] b = refl
absent_below n (e ∷ es) b =
    let apart : bytes_eq n e.0 ≡ false = sym (is_eq-slice_cmp n e.0) ∙ ap is_eq (turned e.0 n b.0) in
    ap (λ c. cond c (Some e.1) (get n es)) apart ∙ absent_below n es b.1

-- an entry is inserted after those whose names are less than its own
insert_behind : (n : List ℕ) (t : Tree) (before after : Entries Tree) → AllBelow n before
    → insert_entry (slice_cmp nat_cmp) (before ++ after) n t ≡ before ++ insert_entry (slice_cmp nat_cmp) after n t
insert_behind n t [] after b = refl
insert_behind n t (e ∷ es) after b =
    ap (λ o. match_ordering o ((n, t) ∷ e ∷ es ++ after) ((e.0, t) ∷ es ++ after)
    (e ∷ insert_entry (slice_cmp nat_cmp) (es ++ after) n t)) (turned e.0 n b.0)
    ∙ ap (λ l. e ∷ l) (insert_behind n t es after b.1)

-- an entry whose name is greater than all others is inserted last
pub insert_last : (n : List ℕ) (t : Tree) (es : Entries Tree) → AllBelow n es
    → insert_entry (slice_cmp nat_cmp) es n t ≡ es ++ (n, t) ∷ []
insert_last n t es b = ap (λ l. insert_entry (slice_cmp nat_cmp) l n t) (sym (append-nil es)) ∙ insert_behind n t es [] b

-- a name is less than that of the first entry, if there is one
abbrev pub IsFirst : List ℕ → Entries Tree → Type 0
IsFirst n [] = Unit {0}
IsFirst n (e ∷ es) = slice_cmp nat_cmp n e.0 ≡ Less

insert_first : (n : List ℕ) (t : Tree) (es : Entries Tree) → IsFirst n es
    → insert_entry (slice_cmp nat_cmp) es n t ≡ (n, t) ∷ es
insert_first n t [] f = refl
insert_first n t (e ∷ es) f =
    ap (λ o. match_ordering o ((n, t) ∷ e ∷ es) ((e.0, t) ∷ es) (e ∷ insert_entry (slice_cmp nat_cmp) es n t)) f

-- an entry is inserted between the names less than its own and those greater
pub insert_between : (n : List ℕ) (t : Tree) (es : Entries Tree) (i : ℕ) → AllBelow n (take i es) → IsFirst n (drop i es)
    → insert_entry (slice_cmp nat_cmp) es n t ≡ insert es i (n, t)
insert_between n t es i b f =
    ap (λ l. insert_entry (slice_cmp nat_cmp) l n t) (sym (take-append-drop i es))
    ∙ insert_behind n t (take i es) (drop i es) b ∙ ap (λ l. take i es ++ l) (insert_first n t (drop i es) f)

rises_at : (k : List ℕ) (es : Entries Tree) (i : ℕ) (e : List ℕ × Tree) → Rises k es → slice_get es i ≡ Some e
    → slice_cmp nat_cmp k e.0 ≡ Less
rises_at k [] i e r at = cc
rises_at k (x ∷ es) zero e r at = subst (λ (y : List ℕ × Tree). slice_cmp nat_cmp k y.0 ≡ Less) (some_same at) r.0
rises_at k (x ∷ es) (suc i) e r at = nat_list_cmp_total.trans k x.0 e.0 r.0 (rises_at x.0 es i e r.1 at)

-- an entry replaces the one with the same name
pub insert_same : (n : List ℕ) (t : Tree) (es : Entries Tree) (i : ℕ) (e : List ℕ × Tree) → Ascends es
    → slice_get es i ≡ Some e → slice_cmp nat_cmp n e.0 ≡ Equal
    → insert_entry (slice_cmp nat_cmp) es n t ≡ slice_set es i (n, t)
insert_same n t [] i e r at same = cc
insert_same n t (x ∷ es) zero e r at same =
    let here = subst (λ (y : List ℕ × Tree). slice_cmp nat_cmp n y.0 ≡ Equal) (some_same (sym at)) same in
    ap (λ o. match_ordering o ((n, t) ∷ x ∷ es) ((x.0, t) ∷ es) (x ∷ insert_entry (slice_cmp nat_cmp) es n t)) here
    ∙ ap (λ m. (m, t) ∷ es) (sym (equal_names n x.0 here))
insert_same n t (x ∷ es) (suc i) e r at same =
    let below = subst (λ m. slice_cmp nat_cmp x.0 m ≡ Less) (sym (equal_names n e.0 same)) (rises_at x.0 es i e r at) in
    ap (λ o. match_ordering o ((n, t) ∷ x ∷ es) ((x.0, t) ∷ es) (x ∷ insert_entry (slice_cmp nat_cmp) es n t))
    (turned x.0 n below)
    ∙ ap (λ l. x ∷ l) (insert_same n t es i e (rises_ascends x.0 es r) at same)

-- entries in order are still in order after one more is inserted
rises-case : (k n : List ℕ) (t : Tree) (e : List ℕ × Tree) (es more : Entries Tree) (o : Ordering)
    → slice_cmp nat_cmp n e.0 ≡ o → slice_cmp nat_cmp k n ≡ Less → Rises k (e ∷ es)
    → (slice_cmp nat_cmp e.0 n ≡ Less → Rises e.0 more)
    → Rises k (match_ordering o ((n, t) ∷ e ∷ es) ((e.0, t) ∷ es) (e ∷ more))
rises-case k n t e es more Less is h r f = (h, (is, r.1))
rises-case k n t e es more Equal is h r f = r
rises-case k n t e es more Greater is h r f = (r.0, f (turned n e.0 is))

rises-insert : (k n : List ℕ) (t : Tree) (es : Entries Tree) → Rises k es → slice_cmp nat_cmp k n ≡ Less
    → Rises k (insert_entry (slice_cmp nat_cmp) es n t)
rises-insert k n t [] r h = (h, tt)
rises-insert k n t (e ∷ es) r h = rises-case k n t e es _ (slice_cmp nat_cmp n e.0) refl h r (rises-insert e.0 n t es r.1)

ascends-case : (n : List ℕ) (t : Tree) (e : List ℕ × Tree) (es more : Entries Tree) (o : Ordering)
    → slice_cmp nat_cmp n e.0 ≡ o → Rises e.0 es → (slice_cmp nat_cmp e.0 n ≡ Less → Rises e.0 more)
    → Ascends (match_ordering o ((n, t) ∷ e ∷ es) ((e.0, t) ∷ es) (e ∷ more))
ascends-case n t e es more Less is r f = (is, r)
ascends-case n t e es more Equal is r f = r
ascends-case n t e es more Greater is r f = f (turned n e.0 is)

ascends-insert : (n : List ℕ) (t : Tree) (es : Entries Tree) → Ascends es
    → Ascends (insert_entry (slice_cmp nat_cmp) es n t)
ascends-insert n t [] r = tt
ascends-insert n t (e ∷ es) r = ascends-case n t e es _ (slice_cmp nat_cmp n e.0) refl r (rises-insert e.0 n t es r)

-- so the result of an insert into entries in order is in order
pub ascends_now : {now : Entries Tree} (es : Entries Tree) (n : List ℕ) (t : Tree) → now ≡ insert_entry (slice_cmp nat_cmp) es n t
    → Ascends es → Ascends now
ascends_now es n t is r = subst Ascends (sym is) (ascends-insert n t es r)

-- entries in order are still in order after an entry is appended whose name is greater than all others
pub ascends-push : (n : List ℕ) (t : Tree) (es : Entries Tree) → Ascends es → AllBelow n es → Ascends (es ++ (n, t) ∷ [])
ascends-push n t es r b = subst Ascends (insert_last n t es b) (ascends-insert n t es r)

-- a name that is greater than one of several names in order is greater than that one and all before it
pub below_at : (n : List ℕ) (es : Entries Tree) (i : ℕ) (e : List ℕ × Tree) → Ascends es → slice_get es i ≡ Some e
    → slice_cmp nat_cmp e.0 n ≡ Less → AllBelow n (take (suc i) es)
below_at n [] i e r at h = cc
below_at n (x ∷ es) zero e r at h = (subst (λ (y : List ℕ × Tree). slice_cmp nat_cmp y.0 n ≡ Less) (some_same (sym at)) h, tt)
below_at n (x ∷ []) (suc i) e r at h = cc
below_at n (x ∷ y ∷ es) (suc i) e r at h =
    let rest = below_at n (y ∷ es) i e r.1 at h in
    (nat_list_cmp_total.trans x.0 y.0 n r.0 rest.0, rest)

-- a name that is less than the first of several names in order is less than each of them
rises_below : (k : List ℕ) (done : Entries Tree) (e : List ℕ × Tree) (more : Entries Tree) → Rises k (done ++ e ∷ more)
    → slice_cmp nat_cmp k e.0 ≡ Less
rises_below k [] e more r = r.0
rises_below k (x ∷ done) e more r = nat_list_cmp_total.trans k x.0 e.0 r.0 (rises_below x.0 done e more r.1)

-- if all entries are in order, those before one of them have names less than its name
pub before_below : (done : Entries Tree) (e : List ℕ × Tree) (more : Entries Tree) → Ascends (done ++ e ∷ more)
    → AllBelow e.0 done
before_below [] e more r = tt
before_below (x ∷ done) e more r =
    (rises_below x.0 done e more r, before_below done e more (rises_ascends x.0 (done ++ e ∷ more) r))

-- a name in the order of a `BTreeMap` is greater than the first one
below_middle : (first : String Global × Tree) (es : List (String Global × Tree)) (e : String Global × Tree)
    (more : List (String Global × Tree))
    → AllByRecursion (λ y. string_cmp first.0 y ≡ Less) (keys_of (es ++ e ∷ more)) → string_cmp first.0 e.0 ≡ Less
below_middle first [] e more h = h.0
below_middle first (x ∷ es) e more h = below_middle first es e more h.1

-- in the order of a `BTreeMap`, the entries before an entry have names less than its name
pub sorted_below : (done : List (String Global × Tree)) (e : String Global × Tree) (more : List (String Global × Tree))
    → IsStrictlySortedBy string_cmp (keys_of (done ++ e ∷ more)) → AllBelow (string_bytes e.0) (map owned_entry done)
unfolding IsStrictlySortedBy
sorted_below [] e more h = tt
sorted_below (first ∷ done) e more h = (below_middle first done e more h.0, sorted_below done e more h.1)

-- appending an entry with an owned name appends the entry with the name as bytes
pub owned-push : (done : List (String Global × Tree)) (e : String Global × Tree)
    → map owned_entry (done ++ e ∷ []) ≡ map owned_entry done ++ owned_entry e ∷ []
owned-push [] e = refl
owned-push (x ∷ done) e = ap (λ l. owned_entry x ∷ l) (owned-push done e)

-- inserting an entry with an owned name at an index inserts the entry with the name as bytes at that index
pub owned-at : (es : List (String Global × Tree)) (i : ℕ) (e : String Global × Tree)
    → map owned_entry (insert es i e) ≡ insert (map owned_entry es) i (owned_entry e)
owned-at es i e = map-append owned_entry (take i es) (e ∷ drop i es)
    ∙ ap (λ l. l ++ owned_entry e ∷ map owned_entry (drop i es)) (sym (take-map owned_entry i es))
    ∙ ap (λ l. take i (map owned_entry es) ++ owned_entry e ∷ l) (sym (drop-map owned_entry i es))

-- the entry before an index, with the name as bytes
pub owned-before : (es : List (String Global × Tree)) (i : ℕ) {e : String Global × Tree} → 0 < i → i ≤ length es
    → e ≡ slice_index_or es (i - 1) e → slice_get (map owned_entry es) (i - 1) ≡ Some (owned_entry e)
owned-before es i {e} some within at =
    let there = slice_get_read es (length es) (i - 1) e refl (omega (arith, some, within)) at in
    slice_get-map owned_entry es (i - 1) ∙ ap (option_map owned_entry) there

-- the result of a comparison with the text of a name is that of a comparison with its bytes
pub compared : {text name : List ℕ} {o told : Ordering} (other : List ℕ) → text ≡ name → told ≡ slice_cmp nat_cmp text other → told ≡ o
    → slice_cmp nat_cmp name other ≡ o
compared other same is told = ap (λ s. slice_cmp nat_cmp s other) (sym same) ∙ sym is ∙ told

-- an entry, those before it and those after it, with their names as bytes
pub owned-split : {all left more : List (String Global × Tree)} {e : String Global × Tree}
    (done : List (String Global × Tree)) → all ≡ done ++ left
    → left ≡ e ∷ more → map owned_entry all ≡ map owned_entry done ++ owned_entry e ∷ map owned_entry more
owned-split {all} {left} {more} {e} done split next =
    ap (map owned_entry) (split ∙ ap (λ es. done ++ es) next) ∙ map-append owned_entry done (e ∷ more)

-- inserting an entry with an owned name commutes with taking names as bytes
map-match : {A B : Type 0} (f : A → B) (o : Ordering) (a b c : List A)
    → map f (match_ordering o a b c) ≡ match_ordering o (map f a) (map f b) (map f c)
map-match f Less a b c = refl
map-match f Equal a b c = refl
map-match f Greater a b c = refl

pub owned-insert : (es : List (String Global × Tree)) (k : String Global) (t : Tree)
    → map owned_entry (insert_entry string_cmp es k t)
    ≡ insert_entry (slice_cmp nat_cmp) (map owned_entry es) (string_bytes k) t
owned-insert [] k t = refl
owned-insert (e ∷ es) k t = map-match owned_entry (string_cmp k e.0) _ _ _ ∙ rw (owned-insert es k t)

-- an entry that is inserted into a map with owned names is inserted among its entries with names as bytes
pub put_owned : (old new : List (String Global × Tree)) (es : Entries Tree) (k : String Global) (t : Tree)
    → new ≡ insert_entry string_cmp old k t → map owned_entry old ≡ es
    → map owned_entry new ≡ insert_entry (slice_cmp nat_cmp) es (string_bytes k) t
put_owned old new es k t e same = ap (map owned_entry) e ∙ owned-insert old k t
    ∙ ap (λ l. insert_entry (slice_cmp nat_cmp) l (string_bytes k) t) same

-- a choice among pairs by a comparison commutes with making members of them
members-match : (o : Ordering) (a b c : List Pair) → pairs_data (match_ordering o a b c)
    ≡ match_ordering o (pairs_data a) (pairs_data b) (pairs_data c)
members-match Less a b c = refl
members-match Equal a b c = refl
members-match Greater a b c = refl

-- a pair that is inserted among pairs is put among the members that are made of them
pub members-insert : (ps : List Pair) (k : List ℕ) (d : Data) → pairs_data (insert_entry (slice_cmp nat_cmp) ps k d)
    ≡ put k d (pairs_data ps)
members-insert [] k d = refl
members-insert (p ∷ ps) k d = members-match (slice_cmp nat_cmp k p.0) _ _ _ ∙ rw (members-insert ps k d)

-- if a pair is inserted among pairs, its node is inserted among their nodes
pub trees-insert : (ps : List Pair) (k : List ℕ) (d : Data) → map tree_pair (insert_entry (slice_cmp nat_cmp) ps k d)
    ≡ insert_entry (slice_cmp nat_cmp) (map tree_pair ps) k (tree_of_data d)
trees-insert [] k d = refl
trees-insert (p ∷ ps) k d = map-match tree_pair (slice_cmp nat_cmp k p.0) _ _ _ ∙ rw (trees-insert ps k d)

-- two flags are both false exactly if their disjunction is. So an insert adds no float
pub none : (b c : Bool) → (b || c) ≡ false → (b ≡ false) × (c ≡ false)
none true c e = cc
none false c e = (refl, e)

pub both : (b c : Bool) → b ≡ false → c ≡ false → (b || c) ≡ false
both b c e f = (λ j. e j || c) ∙ f

whole-match : (o : Ordering) (a b c : List Pair) → members_have_float (pairs_data a) ≡ false
    → members_have_float (pairs_data b) ≡ false → members_have_float (pairs_data c) ≡ false
    → members_have_float (pairs_data (match_ordering o a b c)) ≡ false
whole-match Less a b c x y z = x
whole-match Equal a b c x y z = y
whole-match Greater a b c x y z = z

-- pairs without floats have none after data without floats is inserted
pub whole-insert : (ps : List Pair) (k : List ℕ) (d : Data) → members_have_float (pairs_data ps) ≡ false
    → has_float d ≡ false → members_have_float (pairs_data (insert_entry (slice_cmp nat_cmp) ps k d)) ≡ false
whole-insert [] k d e f = both (has_float d) false f refl
whole-insert (p ∷ ps) k d e f =
    let here = none (has_float p.1) (members_have_float (pairs_data ps)) e in
    whole-match (slice_cmp nat_cmp k p.0) ((k, d) ∷ p ∷ ps) ((p.0, d) ∷ ps) (p ∷ insert_entry (slice_cmp nat_cmp) ps k d)
    (both (has_float d) _ f e) (both (has_float d) _ f here.1)
    (both (has_float p.1) _ here.0 (whole-insert ps k d here.1 f))

-- the object made of the nodes of pairs is the one made of their data
pub object_of_pairs : (ps : List Pair) → members_of (map tree_pair ps) ≡ members_of_data (pairs_data ps)
object_of_pairs [] = refl
object_of_pairs (p ∷ ps) = ap (λ ms. member p.0 (tree_of_data p.1) ms) (object_of_pairs ps)
