-- A node conforms to a kind if and only if each requirement of the kind in it is met: for items, members and rows.
use Rattle.openapi_tables.proofs.BoolLaws.{shuffle}
use Rattle.std.proofs.Common.{ℕ, suc, Bool, true, false, not, cond, ◌&&◌, ◌||◌, List, [], ◌∷◌, ◌≡◌, refl, sym, ap, ◌∙◌}
use Rattle.std.proofs.lemmas.Bool.{and_parts}
use Rattle.openapi_tables.specs.Lists.{each, join, flat, every, same_text, has, is_empty}
use Rattle.openapi_node.specs.Tree.{Tree, Items, no_items, item}
use Rattle.openapi_tables.specs.Tree.{items_list, Entry, on_entry, Seen, Shape, of_items}
use Rattle.openapi_tables.specs.Kind.{Kind, Case, Mode, required, optional, nullable, Row, row, either, class, constant}
use Rattle.openapi_tables.specs.Kind.{takes, Tables, TableName}
use Rattle.openapi_tables.specs.Members.{is_null, own, trees, is_case, case_rows}
use Rattle.openapi_tables.specs.Conforms.{name_holds, either_holds, Judged, row_holds, root_conforms, conforms}
use Rattle.openapi_tables.specs.Sound.{sound, row_sound, has_members, never_misses, mode_fits, rows_apart, tables_sound}
use Rattle.openapi_node.specs.Place.{Step, named as at_name, indexed as at_index}
use Rattle.openapi_tables.specs.Faults.{Asking, misses, row_misses, Asks, below, asks_items, asks_members, asks_own}
use Rattle.openapi_tables.specs.Faults.{asks_row, asks_rows, words, tag_table, root_asks, asked, is_met}
use Rattle.openapi_tables.proofs.ListLaws.{Each, every_each, only-each, each_under, Each_within-only}
use Rattle.openapi_tables.proofs.TreeLaws.{see}
use Rattle.openapi_tables.proofs.again.ObjectsBack.{checked, table_sound, every_table}
use Rattle.openapi_tables.proofs.SoundLaws.{sound_pick}

-- all elements of a concatenation pass a test if and only if all of the first and all of the second list do
pub every-join : {A : Type 0} → (p : A → Bool) (xs ys : List A) → every p (join xs ys) ≡ (every p xs && every p ys)
every-join p [] ys = refl
every-join p (x ∷ xs) ys = ap (λ b. p x && b) (every-join p xs ys) ∙ regroup (p x) (every p xs) (every p ys)
  where
    regroup : (a b c : Bool) → (a && (b && c)) ≡ ((a && b) && c)
    regroup true b c = refl
    regroup false b c = refl

-- a concatenation is empty if and only if both lists are
pub is_empty-join : {A : Type 0} → (xs ys : List A) → is_empty (join xs ys) ≡ (is_empty xs && is_empty ys)
is_empty-join [] ys = refl
is_empty-join (x ∷ xs) ys = refl

-- one more step at the front of each location does not change whether all requirements are met
pub every-below : (T : Tables) (p : Step) (xs : List Asking) → every (is_met T) (below p xs) ≡ every (is_met T) xs
every-below T p [] = refl
every-below T p (x ∷ xs) = ap (λ b. is_met T x && b) (every-below T p xs)

-- a node conforms to a sound kind if and only if each requirement of the kind in it is met
abbrev pub Judged_by : (T : Tables) → Tree → Type 0
Judged_by T t = (k : Kind) → sound T k ≡ true → conforms T k t ≡ every (is_met T) (asked T k t)

-- members, each with whether its value conforms to each kind
abbrev pub judged : (T : Tables) → List (Entry Tree) → Judged
judged T es = each (on_entry (see (root_conforms T))) es

-- members, each with the requirements that each kind has in its value
abbrev pub askeds : (T : Tables) → List (Entry Tree) → List (Entry Asks)
askeds T es = each (on_entry (see (root_asks T))) es

-- all items of a list conform to a kind if and only if its requirements for them are met, if that is so for each item
pub items_judged : (T : Tables) (k : Kind) (i : ℕ) (ts : Items) → sound T k ≡ true
    → Each (Judged_by T) (items_list ts)
    → every (λ (x : Seen (Kind → Bool)). x.answer k) (of_items (root_conforms T) ts)
    ≡ every (is_met T) (asks_items k i (of_items (root_asks T) ts))
items_judged T k i no_items s h = refl
items_judged T k i (item t ts) s h =
    ap (λ b. b && every (λ (x : Seen (Kind → Bool)). x.answer k) (of_items (root_conforms T) ts))
    (h.0 k s ∙ sym (every-below T (at_index i) (asked T k t)))
    ∙ ap (λ b. every (is_met T) (below (at_index i) (asked T k t)) && b) (items_judged T k (suc i) ts s h.1)
    ∙ sym (every-join (is_met T) (below (at_index i) (asked T k t)) (asks_items k (suc i) (of_items (root_asks T) ts)))

-- all members conform to a kind if and only if its requirements for them are met, if that is so for each member
pub members_judged : (T : Tables) (k : Kind) (es : List (Entry Tree)) → sound T k ≡ true
    → Each (λ (e : Entry Tree). Judged_by T e.value) es
    → every (λ (e : Entry (Seen (Kind → Bool))). e.value.answer k) (judged T es)
    ≡ every (is_met T) (asks_members k (askeds T es))
members_judged T k [] s h = refl
members_judged T k (e ∷ es) s h =
    ap (λ b. b && every (λ (x : Entry (Seen (Kind → Bool))). x.value.answer k) (judged T es))
    (h.0 k s ∙ sym (every-below T (at_name e.name) (asked T k e.value)))
    ∙ ap (λ b. every (is_met T) (below (at_name e.name) (asked T k e.value)) && b) (members_judged T k es s h.1)
    ∙ sym (every-join (is_met T) (below (at_name e.name) (asked T k e.value)) (asks_members k (askeds T es)))

skipped : (T : Tables) (b c : Bool) (xs : List Asking) → c ≡ every (is_met T) xs
    → (b || c) ≡ every (is_met T) (cond b [] xs)
skipped T true c xs h = refl
skipped T false c xs h = h

-- a row of one name holds if and only if no required member is missing and its requirements are met
name_judged : (T : Tables) (n : List ℕ) (m : Mode) (k : Kind) (l : List (Entry Tree)) → sound T k ≡ true
    → Each (λ (e : Entry Tree). Judged_by T e.value) l
    → name_holds m k (judged T l)
    ≡ (is_empty (misses (row n m k) l) && every (is_met T) (asks_own (row n m k) (askeds T l)))
name_judged T n optional k (e ∷ l) s h =
    skipped T (is_null e.value) (conforms T k e.value) (below (at_name e.name) (asked T k e.value))
    (h.0 k s ∙ sym (every-below T (at_name e.name) (asked T k e.value)))
name_judged T n nullable k (e ∷ l) s h =
    skipped T (is_null e.value) (conforms T k e.value) (below (at_name e.name) (asked T k e.value))
    (h.0 k s ∙ sym (every-below T (at_name e.name) (asked T k e.value)))
name_judged T n required k [] s h = refl
name_judged T n m k [] s h = refl
name_judged T n m k (e ∷ l) s h = h.0 k s ∙ sym (every-below T (at_name e.name) (asked T k e.value))

either_judged : (T : Tables) (a b : List ℕ) (j k : Kind) (l : List (Entry Tree)) → sound T j ≡ true
    → sound T k ≡ true → Each (λ (e : Entry Tree). Judged_by T e.value) l
    → either_holds a j k (judged T l)
    ≡ (is_empty (misses (either a j b k) l) && every (is_met T) (asks_own (either a j b k) (askeds T l)))
either_judged T a b j k [] s r h = refl
either_judged T a b j k (e ∷ l) s r h =
    h.0 (cond (same_text a e.name) j k) (sound_pick T (same_text a e.name) j k s r)
    ∙ sym (every-below T (at_name e.name) (asked T (cond (same_text a e.name) j k) e.value))

-- a row takes the same members, whichever function's results are beside them
pub own_judged : {X : Type 0} → (f : Shape (Seen X) → X) (w : Row) (es : List (Entry Tree))
    → own w (each (on_entry (see f)) es) ≡ each (on_entry (see f)) (own w es)
own_judged f w es = only-each (λ e. takes w e.name) (on_entry (see f)) es

row_judged : (T : Tables) (w : Row) (es : List (Entry Tree)) → row_sound T w ≡ true → has_members w ≡ true
    → Each (λ (e : Entry Tree). Judged_by T e.value) es
    → row_holds (judged T es) w ≡ (is_empty (row_misses es w) && every (is_met T) (asks_row (askeds T es) w))
row_judged T (row n m k) es s m' h =
    ap (name_holds m k) (own_judged (root_conforms T) (row n m k) es)
    ∙ name_judged T n m k (own (row n m k) es) (and_parts (mode_fits m k) (sound T k) s).1
    (Each_within-only (λ (e : Entry Tree). Judged_by T e.value) _ es h)
    ∙ ap (λ l. is_empty (row_misses es (row n m k)) && every (is_met T) (asks_own (row n m k) l))
    (sym (own_judged (root_asks T) (row n m k) es))
row_judged T (either a j b k) es s m' h =
    let p = and_parts (sound T j && sound T k) (not (same_text a b)) s in
    let q = and_parts (sound T j) (sound T k) p.0 in
    ap (either_holds a j k) (own_judged (root_conforms T) (either a j b k) es)
    ∙ either_judged T a b j k (own (either a j b k) es) q.0 q.1
    (Each_within-only (λ (e : Entry Tree). Judged_by T e.value) _ es h)
    ∙ ap (λ l. is_empty (row_misses es (either a j b k)) && every (is_met T) (asks_own (either a j b k) l))
    (sym (own_judged (root_asks T) (either a j b k) es))
row_judged T (class c k) es s m' h =
    ap (every (λ (e : Entry (Seen (Kind → Bool))). e.value.answer k)) (own_judged (root_conforms T) (class c k) es)
    ∙ members_judged T k (own (class c k) es) s (Each_within-only (λ (e : Entry Tree). Judged_by T e.value) _ es h)
    ∙ ap (λ l. every (is_met T) (asks_members k l)) (sym (own_judged (root_asks T) (class c k) es))
row_judged T (constant n v) es s m' h = cc

rows_judged : (T : Tables) (ws : List Row) (es : List (Entry Tree)) → Each (λ w. row_sound T w ≡ true) ws
    → Each (λ w. has_members w ≡ true) ws → Each (λ (e : Entry Tree). Judged_by T e.value) es
    → every (row_holds (judged T es)) ws
    ≡ (is_empty (flat (each (row_misses es) ws)) && every (is_met T) (asks_rows (askeds T es) ws))
rows_judged T [] es s m h = refl
rows_judged T (w ∷ ws) es s m h =
    ap (λ b. b && every (row_holds (judged T es)) ws) (row_judged T w es s.0 m.0 h)
    ∙ ap (λ b. (is_empty (row_misses es w) && every (is_met T) (asks_row (askeds T es) w)) && b)
    (rows_judged T ws es s.1 m.1 h)
    ∙ shuffle (is_empty (row_misses es w)) (every (is_met T) (asks_row (askeds T es) w))
    (is_empty (flat (each (row_misses es) ws))) (every (is_met T) (asks_rows (askeds T es) ws))
    ∙ ap (λ b. b && (every (is_met T) (asks_row (askeds T es) w) && every (is_met T) (asks_rows (askeds T es) ws)))
    (sym (is_empty-join (row_misses es w) (flat (each (row_misses es) ws))))
    ∙ ap (λ b. is_empty (flat (each (row_misses es) (w ∷ ws))) && b)
    (sym (every-join (is_met T) (asks_row (askeds T es) w) (asks_rows (askeds T es) ws)))

-- no row of a sound table is that of a tag
table_members : (T : Tables) (W : tables_sound T ≡ true) (i : TableName) → every has_members (T i) ≡ true
table_members T W i = every_table (λ n. every has_members (T n)) (checked T W).3 i

table_rows : (T : Tables) (W : tables_sound T ≡ true) (i : TableName) → every (row_sound T) (T i) ≡ true
table_rows T W i = (and_parts (rows_apart (T i)) (every (row_sound T) (T i)) (table_sound T W i)).1

-- the rows of a table hold if and only if no required member is missing and all their requirements are met
pub table_judged : (T : Tables) (W : tables_sound T ≡ true) (i : TableName) (es : List (Entry Tree))
    → Each (λ (e : Entry Tree). Judged_by T e.value) es
    → every (row_holds (judged T es)) (T i)
    ≡ (is_empty (flat (each (row_misses es) (T i))) && every (is_met T) (asks_rows (askeds T es) (T i)))
table_judged T W i es h = rows_judged T (T i) es (every_each (row_sound T) (T i) (table_rows T W i))
    (every_each has_members (T i) (table_members T W i)) h

never : (w : Row) (es : List (Entry Tree)) → never_misses w ≡ true → misses w es ≡ []
never (row n required k) es h = cc
never w [] h = cc
never w es h = cc

never_has_members : (w : Row) → never_misses w ≡ true → has_members w ≡ true
never_has_members (constant n v) h = cc
never_has_members w h = refl

none_missed : (ws : List Row) (es : List (Entry Tree)) → Each (λ w. never_misses w ≡ true) ws
    → is_empty (flat (each (row_misses es) ws)) ≡ true
none_missed [] es h = refl
none_missed (w ∷ ws) es h = ap (λ l. is_empty (join l (flat (each (row_misses es) ws)))) (never w (own w es) h.0)
    ∙ none_missed ws es h.1

-- rows that require no member hold if and only if all their requirements are met
pub open_judged : (T : Tables) (ws : List Row) (es : List (Entry Tree)) → every (row_sound T) ws ≡ true
    → every never_misses ws ≡ true → Each (λ (e : Entry Tree). Judged_by T e.value) es
    → every (row_holds (judged T es)) ws ≡ every (is_met T) (asks_rows (askeds T es) ws)
open_judged T ws es s n h =
    let m = every_each never_misses ws n in
    rows_judged T ws es (every_each (row_sound T) ws s)
    (each_under (λ w (x : never_misses w ≡ true). never_has_members w x) ws m) h
    ∙ ap (λ b. b && every (is_met T) (asks_rows (askeds T es) ws)) (none_missed ws es m)

-- a text is one of the words of a tag if and only if it is one that the tag may have
pub has_words : (cs : List Case) (s : List ℕ) → has (words cs) s ≡ is_case cs s
has_words [] s = refl
has_words (c ∷ cs) s = ap (λ b. same_text c.word s || b) (has_words cs s)

-- the rows that the text of a tag selects are those of its table
pub rows_at_tag : (T : Tables) (cs : List Case) (s : List ℕ) → is_case cs s ≡ true
    → case_rows T cs s ≡ T (tag_table cs s)
rows_at_tag T [] s h = cc
rows_at_tag T (c ∷ cs) s h = at_case c cs s (same_text c.word s) h (λ x. rows_at_tag T cs s x)
  where
    at_case : (c : Case) (cs : List Case) (s : List ℕ) (b : Bool) → (b || is_case cs s) ≡ true
        → (is_case cs s ≡ true → case_rows T cs s ≡ T (tag_table cs s))
        → cond b (T c.table) (case_rows T cs s) ≡ T (cond b c.table (tag_table cs s))
    at_case c cs s true h f = refl
    at_case c cs s false h f = f h

-- members with the results of a function beside them, without these results, are the members
pub seen_members : {X : Type 0} → (f : Shape (Seen X) → X) (es : List (Entry Tree))
    → trees (each (on_entry (see f)) es) ≡ es
seen_members f [] = refl
seen_members f (e ∷ es) = ap (λ l. e ∷ l) (seen_members f es)
