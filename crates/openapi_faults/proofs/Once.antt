-- No cause is reported twice at one location.
use Rattle.std.proofs.Common.{◌≡◌, ℕ, suc, pos, Bool, true, false, not, cond, ◌&&◌, ◌||◌, List, [], ◌∷◌, Option, Some, None}
use Rattle.std.proofs.Common.{refl, sym, ap, ◌∙◌, subst, inl, inr, nat_le}
use Rattle.std.proofs.lemmas.Bool.{and_parts, both_ways, not-true}
use Rattle.openapi_node.specs.Place.{Place, Step, named, indexed}
use Rattle.openapi_node.specs.Tree.{Tree, null, flag, whole, text, list, object, Items, no_items, item, Members}
use Rattle.openapi_tables.specs.Faults.{Asking, Asks, Cause, asked, asks_inner, asks_items, asks_members, asks_own, asks_row}
use Rattle.openapi_tables.specs.Faults.{asks_rows, asks_tag, below, causes, here, misses, missing, missing_either, root_asks}
use Rattle.openapi_tables.specs.Faults.{row_misses, tag_misses, tag_table, unless, unless_reference, words}
use Rattle.openapi_tables.specs.Conforms.{is_reference, skips_null}
use Rattle.openapi_tables.specs.Kind.{Case, Kind, Row, TableName, Tables, a_schema, a_schema_kind, by, class, code_of, constant}
use Rattle.openapi_tables.specs.Kind.{either, flag_or_schema, format, is_code, list_of, map_of, null_or, number, one_of, ref_to}
use Rattle.openapi_tables.specs.Kind.{required, row, schema_data, status_code, tagged, takes, within}
use Rattle.openapi_tables.specs.Laws.{Among}
use Rattle.openapi_tables.specs.Lists.{each, every, flat, has, join, same_text}
use Rattle.openapi_tables.specs.Members.{checked_rows, first_tree, held, is_case, is_null, made_optional, own, tag, tag_choice, trees}
use Rattle.openapi_tables.specs.Sound.{apart, mode_fits, row_sound, rows_apart, schema_rows, sound, tables_sound, under_ref}
use Rattle.openapi_tables.specs.Tables.{any_rows, final_tables, tables_with}
use Rattle.openapi_tables.specs.Tree.{Entry, Shape, an_object, items_list, members_list, members_of, of_items, of_members}
use Rattle.openapi_tables.proofs.DistinctLaws.{Differ, Differ-only}
use Rattle.openapi_tables.proofs.FaultLaws.{askeds, own_judged, seen_members}
use Rattle.openapi_tables.proofs.ListLaws.{Each, Each-only, Each_within-only, each-each, each_all, every_behind, every_each}
use Rattle.openapi_tables.proofs.ListLaws.{join-nil, same_text-refl}
use Rattle.openapi_tables.proofs.RowLaws.{TakesAll}
use Rattle.openapi_tables.proofs.SoundLaws.{sound_pick}
use Rattle.openapi_tables.proofs.TreeLaws.{Inside, members_list-of, of_members_lem, seen_root}
use Rattle.openapi_tables.proofs.WellMade.{final_sound}
use Rattle.openapi_tables.proofs.again.ObjectsBack.{checked, table_sound}
use Rattle.openapi_faults.specs.Laws.{AreDistinct, ToldOnce}
use Rattle.openapi_faults.specs.Meaning.{kind_of}
use Rattle.openapi_faults.specs.Told.{told_at}
use Rattle.openapi_faults.proofs.Complete.{from_each, from_join}
use Rattle.openapi_faults.proofs.Gather.{AnyStep, Begins, IndexFrom, IndexIs, Moves, NameIs, TakenStep, below_begins, gather}
use Rattle.openapi_faults.proofs.Gather.{gather_below, gather_flat, gather_join, index_part, items_begin, later, members_begin}
use Rattle.openapi_faults.proofs.Gather.{name_part, one_below, part, row_begins, rows_begin, rows_part, taken_clash, weaken}
use Rattle.openapi_faults.proofs.NamedTrees.{NamesDiffer, by_named_trees}
use Rattle.openapi_faults.proofs.SoundKinds.{kind_sound}

-- ---- lists

distinct_join : {A : Type 0} → (xs ys : List A) → AreDistinct xs → AreDistinct ys
    → ((x : A) → Among x xs → Among x ys → ⊥) → AreDistinct (join xs ys)
distinct_join [] ys a b apart = b
distinct_join (x ∷ xs) ys a b apart = (
  λ h. elim (from_join x xs ys h) [ inl m ↦ a.0 m | inr m ↦ apart x (inl refl) m ],
  distinct_join xs ys a.1 b (λ z m n. apart z (inr m) n),
)

distinct_each : {A B : Type 0} → (f : A → B) → ((x y : A) → f x ≡ f y → x ≡ y) → (xs : List A) → AreDistinct xs
    → AreDistinct (each f xs)
distinct_each f same [] d = tt
distinct_each f same (x ∷ xs) d = (
  λ h. let r = from_each f (f x) xs h in d.0 (subst (λ z. Among z xs) (sym (same x r.0 r.2)) r.1),
  distinct_each f same xs d.1,
)

-- no element, or one
abbrev AreFew : {A : Type 0} → List A → Type 0
AreFew [] = Unit {0}
AreFew (x ∷ []) = Unit {0}
AreFew (x ∷ y ∷ xs) = ⊥

few_distinct : {A : Type 0} → (xs : List A) → AreFew xs → AreDistinct xs
few_distinct [] h = tt
few_distinct (x ∷ []) h = (λ m. m, tt)
few_distinct (x ∷ y ∷ xs) h = absurd h

pub rows_distinct : {A : Type 0} → (f : Row → List A) (P : Row → A → Type 0) → ((w : Row) (x : A) → Among x (f w) → P w x)
    → ((v w : Row) (x : A) → apart v w ≡ true → P v x → P w x → ⊥) → (ws : List Row) → rows_apart ws ≡ true
    → Each (λ w. AreDistinct (f w)) ws → AreDistinct (flat (each f ws))
rows_distinct f P gives clash [] a d = tt
rows_distinct f P gives clash (w ∷ ws) a d =
    let p = and_parts (every (apart w) ws) (rows_apart ws) a in
    distinct_join (f w) (flat (each f ws)) d.0 (rows_distinct f P gives clash ws p.1 d.1)
    (λ x m n. later f P gives clash w ws x (every_each (apart w) ws p.0) (gives w x m) n)

-- ---- the causes of one value

-- the cause for a missing member names it as the row does
abbrev MissedBy : Row → Cause → Type 0
MissedBy (row n m k) (missing a) = a ≡ n
MissedBy (either a j b k) (missing_either c d) = c ≡ a
MissedBy w c = ⊥

missed : (w : Row) (l : List (Entry Tree)) (c : Cause) → Among c (misses w l) → MissedBy w c
missed (row n required k) [] c (inl e) = subst (λ d. MissedBy (row n required k) d) (sym e) refl
missed (row n required k) [] c (inr h) = absurd h
missed (either a j b k) [] c (inl e) = subst (λ d. MissedBy (either a j b k) d) (sym e) refl
missed (either a j b k) [] c (inr h) = absurd h
missed w [] c h = absurd h
missed w l c h = absurd h

misses_few : (w : Row) (l : List (Entry Tree)) → AreFew (misses w l)
misses_few (row n required k) [] = tt
misses_few (either a j b k) [] = tt
misses_few w [] = tt
misses_few w l = tt

same_name : (a n x : List ℕ) → not (same_text a n) ≡ true → x ≡ n → x ≡ a → ⊥
same_name a n x h p q =
    both_ways (same_text a n) (not-true (same_text a n) h)
    (subst (λ y. same_text a y ≡ true) (sym q ∙ p) (same_text-refl a))

or_false : (b c : Bool) → (b || c) ≡ false → b ≡ false
or_false true c h = h
or_false false c h = refl

missed_clash : (v w : Row) (c : Cause) → apart v w ≡ true → MissedBy v c → MissedBy w c → ⊥
missed_clash (row n m k) (row a i j) (missing x) h p q = same_name a n x h p q
missed_clash (either a j b k) (either c i d l) (missing_either x y) h p q =
    let s = and_parts (not (takes (either c i d l) a)) (not (takes (either c i d l) b)) h in
    both_ways (same_text c a) (or_false (same_text c a) (same_text d a) (not-true (takes (either c i d l) a) s.0))
    (subst (λ y. same_text c y ≡ true) (sym q ∙ p) (same_text-refl c))
missed_clash (row n m k) w (missing x) h p q = absurd q
missed_clash (row n m k) w c h p q = absurd p
missed_clash (either a j b k) w (missing_either x y) h p q = absurd q
missed_clash (either a j b k) w c h p q = absurd p
missed_clash (class d k) w c h p q = absurd p
missed_clash (constant n u) w c h p q = absurd p

unless_few : (b : Bool) (c : Cause) → AreFew (unless b c)
unless_few true c = tt
unless_few false c = tt

tag_few : (n : List ℕ) (l : List (Entry Tree)) → AreFew (tag_misses n l)
tag_few n [] = tt
tag_few n (e ∷ l) = tt

-- ---- what is reported for all that is required

abbrev tail : Place → Place
tail [] = []
tail (s ∷ p) = p

below_same : (s : Step) (x y : Place × Cause) → one_below s x ≡ one_below s y → x ≡ y
below_same s x y e =
    let p : x.0 ≡ y.0 = ap (λ (z : Place × Cause). tail z.0) e in
    let q : x.1 ≡ y.1 = ap (λ (z : Place × Cause). z.1) e in
    λ i. (p i, q i)

root_same : (c d : Cause) → ◌≡◌ {A = Place × Cause} ([], c) ([], d) → c ≡ d
root_same c d e = ap (λ (z : Place × Cause). z.1) e

told_moves : (T : Tables) → Moves (told_at T)
told_moves T s a = sym (each-each (one_below s) (λ (c : Cause). (a.place, c)) (causes T a.kind a.tree))

module _ (T : Tables) (W : tables_sound T ≡ true) where
  missed_once : (i : TableName) (es : List (Entry Tree)) → AreDistinct (flat (each (row_misses es) (T i)))
  missed_once i es =
      rows_distinct (row_misses es) MissedBy (λ w c. missed w (own w es) c) missed_clash (T i)
      (and_parts (rows_apart (T i)) (every (row_sound T) (T i)) (table_sound T W i)).0
      (each_all (λ w. few_distinct (row_misses es w) (misses_few w (own w es))) (T i))

  causes_once : (k : Kind) (t : Tree) → AreDistinct (causes T k t)
  unfolding checked_rows
  causes_once (by i) (object ms) = missed_once i (members_list ms)
  causes_once (number w) (whole z) = few_distinct _ (unless_few (within w z) _)
  causes_once (one_of ws) (text s) = few_distinct _ (unless_few (has ws s) _)
  causes_once (format ws b) null = few_distinct _ (unless_few b _)
  causes_once (null_or (number w)) (whole z) = few_distinct _ (unless_few (within w z) _)
  causes_once (null_or k) null = tt
  causes_once (null_or k) t = few_distinct (causes T (null_or k) t) tt
  causes_once (tagged n cs) (object ms) = few_distinct _ (tag_few n (own (constant n []) (members_list ms)))
  causes_once status_code (text s) = few_distinct _ (unless_few (is_code (code_of s)) _)
  causes_once status_code (whole (pos n)) = few_distinct _ (unless_few (nat_le 100 n && nat_le n 999) _)
  causes_once k null = few_distinct (causes T k null) tt
  causes_once k t = few_distinct (causes T k t) tt

  abbrev tell : List Asking → List (Place × Cause)
  tell as' = gather (told_at T) as'

  distinct_below : (s : Step) (as' : List Asking) → AreDistinct (tell as') → AreDistinct (tell (below s as'))
  distinct_below s as' d =
      subst (λ l. AreDistinct l) (sym (gather_below (told_at T) (told_moves T) s as'))
      (distinct_each (one_below s) (below_same s) (tell as') d)

  -- ---- that it is reported once

  -- nothing is reported twice for a value, under any well-made kind
  abbrev OnceOf : Tree → Type 0
  OnceOf t = (k : Kind) → sound T k ≡ true → AreDistinct (tell (asked T k t))

  abbrev ValuesOnce : List (Entry Tree) → Type 0
  ValuesOnce es = Each (λ (e : Entry Tree). OnceOf e.value) es

  join_once : (xs ys : List Asking) → AreDistinct (tell xs) → AreDistinct (tell ys)
      → ((x : Place × Cause) → Among x (tell xs) → Among x (tell ys) → ⊥) → AreDistinct (tell (join xs ys))
  join_once xs ys a b f = subst (λ l. AreDistinct l) (sym (gather_join (told_at T) xs ys)) (distinct_join (tell xs) (tell ys) a b f)

  members_once : (k : Kind) (es : List (Entry Tree)) → sound T k ≡ true → Differ es → ValuesOnce es
      → AreDistinct (tell (asks_members k (askeds T es)))
  members_once k [] s d g = tt
  members_once k (e ∷ es) s d g =
      let first = below (named e.name) (asked T k e.value) in
      join_once first (asks_members k (askeds T es)) (distinct_below (named e.name) (asked T k e.value) (g.0 k s))
      (members_once k es s d.1 g.1)
      (λ x m n. part (NameIs true e.name) (NameIs false e.name) (name_part e.name) x.0
      (below_begins (told_at T) (told_moves T) T (NameIs true e.name) (named e.name) (asked T k e.value) (same_text-refl e.name) x m)
      (members_begin (told_at T) (told_moves T) T (NameIs false e.name) k es d.0 x n))

  items_once : (k : Kind) (i : ℕ) (ts : Items) → sound T k ≡ true → Each OnceOf (items_list ts)
      → AreDistinct (tell (asks_items k i (of_items (root_asks T) ts)))
  items_once k i no_items s g = tt
  items_once k i (item t ts) s g =
      join_once (below (indexed i) (asked T k t)) (asks_items k (suc i) (of_items (root_asks T) ts))
      (distinct_below (indexed i) (asked T k t) (g.0 k s)) (items_once k (suc i) ts s g.1)
      (λ x m n. part (IndexIs i) (IndexFrom (suc i)) (index_part i) x.0
      (below_begins (told_at T) (told_moves T) T (IndexIs i) (indexed i) (asked T k t) refl x m) (items_begin (told_at T) (told_moves T) T k (suc i) ts x n))

  unless_once : (b : Bool) (as' : List Asking) → AreDistinct (tell as') → AreDistinct (tell (cond b [] as'))
  unless_once true as' d = tt
  unless_once false as' d = d

  own_once : (w : Row) (l : List (Entry Tree)) → row_sound T w ≡ true → Differ l → ValuesOnce l
      → AreDistinct (tell (asks_own w (askeds T l)))
  own_once (row n m k) [] s d g = tt
  own_once (row n m k) (e ∷ l) s d g =
      unless_once (skips_null m && is_null e.value) (below (named e.name) (asked T k e.value))
      (distinct_below (named e.name) (asked T k e.value) (g.0 k (and_parts (mode_fits m k) (sound T k) s).1))
  own_once (either a j b k) [] s d g = tt
  own_once (either a j b k) (e ∷ l) s d g =
      let p = and_parts (sound T j && sound T k) (not (same_text a b)) s in
      let q = and_parts (sound T j) (sound T k) p.0 in
      let i = cond (same_text a e.name) j k in
      distinct_below (named e.name) (asked T i e.value) (g.0 i (sound_pick T (same_text a e.name) j k q.0 q.1))
  own_once (class c k) l s d g = members_once k l s d g
  own_once (constant n v) [] s d g = tt
  own_once (constant n v) (e ∷ l) s d g = tt

  module _ (es : List (Entry Tree)) where
    abbrev row_told : Row → List (Place × Cause)
    row_told w = tell (asks_row (askeds T es) w)

    module _ (d : Differ es) (g : ValuesOnce es) where
      row_once : (w : Row) → row_sound T w ≡ true → AreDistinct (row_told w)
      row_once w s =
          subst (λ l. AreDistinct (tell (asks_own w l))) (sym (own_judged (root_asks T) w es))
          (own_once w (own w es) s (Differ-only (λ (e : Entry Tree). takes w e.name) es d)
          (Each_within-only (λ (e : Entry Tree). OnceOf e.value) (λ e. takes w e.name) es g))

      each_row_once : (ws : List Row) → every (row_sound T) ws ≡ true → Each (λ w. AreDistinct (row_told w)) ws
      each_row_once [] s = tt
      each_row_once (w ∷ ws) s =
          let p = and_parts (row_sound T w) (every (row_sound T) ws) s in (row_once w p.0, each_row_once ws p.1)

      rows_once : (ws : List Row) → rows_apart ws ≡ true → every (row_sound T) ws ≡ true
          → AreDistinct (tell (asks_rows (askeds T es) ws))
      rows_once ws a s =
          subst (λ l. AreDistinct l) (sym (gather_flat (told_at T) (asks_row (askeds T es)) ws))
          (rows_distinct row_told (λ w y. Begins (TakenStep w) y.0) (row_begins (told_at T) (told_moves T) T es) taken_clash ws a (each_row_once ws s))

  root_place : (cs : List Cause) (x : Place × Cause) → Among x (each (λ (c : Cause). ([], c)) cs) → Begins AnyStep x.0 → ⊥
  root_place cs x m h =
      let r = from_each (λ (c : Cause). ([], c)) x cs m in subst (λ (z : Place × Cause). Begins AnyStep z.0) r.2 h

  -- nothing is reported twice for a value itself and what is inside
  here_once : (k : Kind) (s : Shape Asks) (as' : List Asking) → AreDistinct (tell as')
      → ((x : Place × Cause) → Among x (tell as') → Begins AnyStep x.0) → AreDistinct (tell (here k s ∷ as'))
  here_once k s as' d f =
      distinct_join (told_at T (here k s)) (tell as')
      (distinct_each (λ (c : Cause). ([], c)) root_same (causes T k (here k s).tree) (causes_once k (here k s).tree)) d
      (λ x m n. root_place (causes T k (here k s).tree) x m (f x n))

  -- ---- objects

  module _ (es : List (Entry Tree)) (d : Differ es) (g : ValuesOnce es) where
    object_once : (k : Kind) (ws : List Row) → rows_apart ws ≡ true → every (row_sound T) ws ≡ true
        → AreDistinct (tell (here k (an_object (askeds T es)) ∷ asks_rows (askeds T es) ws))
    object_once k ws a s =
        here_once k (an_object (askeds T es)) (asks_rows (askeds T es) ws) (rows_once es d g ws a s) (rows_begin (told_at T) (told_moves T) T es ws)

    table_once : (i : TableName) → AreDistinct (tell (here (by i) (an_object (askeds T es)) ∷ asks_rows (askeds T es) (T i)))
    table_once i =
        let p = and_parts (rows_apart (T i)) (every (row_sound T) (T i)) (table_sound T W i) in object_once (by i) (T i) p.0 p.1

    -- the table that a tag selects, and the tag
    module _ (n : List ℕ) (cs : List Case) (A : List (Place × Cause)) (a : AreDistinct A)
        (tags : (x : Place × Cause) → Among x A → Begins (TakenStep (constant n [])) x.0) where
      abbrev tag_told : Tree → List (Place × Cause)
      tag_told t = join A (tell (asks_tag T n cs (askeds T es) (tag_choice cs t)))

      nothing_more : AreDistinct (join A [])
      nothing_more = subst (λ l. AreDistinct l) (sym (join-nil A)) a

      with_table : (i : TableName) → every (apart (constant n [])) (T i) ≡ true
          → AreDistinct (join A (tell (here (by i) (an_object (askeds T es)) ∷ asks_rows (askeds T es) (T i))))
      with_table i p =
          distinct_join A (tell (here (by i) (an_object (askeds T es)) ∷ asks_rows (askeds T es) (T i))) a (table_once i)
          (λ x m h. elim (from_join x (told_at T (here (by i) (an_object (askeds T es)))) (tell (asks_rows (askeds T es) (T i))) h) [
            | inl r ↦ root_place (causes T (by i) (here (by i) (an_object (askeds T es))).tree) x r
                (weaken (TakenStep (constant n [])) AnyStep (λ s y. tt) x.0 (tags x m))
            | inr r ↦ rows_part (told_at T) (told_moves T) T es (constant n []) (T i) p x (tags x m) r
          ])

      at_text : (s : List ℕ) (b : Bool) → (b ≡ true → every (apart (constant n [])) (T (tag_table cs s)) ≡ true)
          → AreDistinct (join A (tell (asks_tag T n cs (askeds T es) (cond b (Some (tag s)) None))))
      unfolding checked_rows
      at_text s true h = with_table (tag_table cs s) (h refl)
      at_text s false h = nothing_more

      tag_once : (t : Tree) → ((s : List ℕ) → is_case cs s ≡ true → every (apart (constant n [])) (T (tag_table cs s)) ≡ true)
          → AreDistinct (tag_told t)
      tag_once (text s) h = at_text s (is_case cs s) (h s)
      tag_once null h = nothing_more
      tag_once (flag b) h = nothing_more
      tag_once (whole z) h = nothing_more
      tag_once (list ts) h = nothing_more
      tag_once (object ms) h = nothing_more

  pub case_apart : (n : List ℕ) (cs : List Case) (s : List ℕ) → every (λ c. rows_apart (constant n c.word ∷ T c.table)) cs ≡ true
      → is_case cs s ≡ true → every (apart (constant n [])) (T (tag_table cs s)) ≡ true
  case_apart n [] s h e = cc
  case_apart n (c ∷ cs) s h e =
      let p = and_parts (rows_apart (constant n c.word ∷ T c.table)) (every (λ c. rows_apart (constant n c.word ∷ T c.table)) cs) h in
      let q = and_parts (every (apart (constant n [])) (T c.table)) (rows_apart (T c.table)) p.0 in
      pick (same_text c.word s) e q.0 (λ r. case_apart n cs s p.1 r)
    where
      pick : (b : Bool) → (b || is_case cs s) ≡ true → every (apart (constant n [])) (T c.table) ≡ true
          → (is_case cs s ≡ true → every (apart (constant n [])) (T (tag_table cs s)) ≡ true)
          → every (apart (constant n [])) (T (cond b c.table (tag_table cs s))) ≡ true
      pick true e q f = q
      pick false e q f = f e

  -- an object with a tag
  module _ (es : List (Entry Tree)) (d : Differ es) (g : ValuesOnce es) (n : List ℕ) (cs : List Case)
      (s : sound T (tagged n cs) ≡ true) where
    abbrev tag_row : Row
    tag_row = row n required (one_of (words cs))

    abbrev tag_asks : Tree → List Asking
    tag_asks t = asks_tag T n cs (askeds T es) (tag_choice cs t)

    abbrev at_root : List Cause → List (Place × Cause)
    at_root = each (λ (c : Cause). ([], c))

    abbrev tagged_told : List (Entry Tree) → List (Place × Cause)
    tagged_told l = join (at_root (tag_misses n l)) (join (tell (asks_own tag_row (askeds T l))) (tell (tag_asks (first_tree l))))

    by_tag : (l : List (Entry Tree)) → TakesAll (constant n []) l → ValuesOnce l → AreDistinct (tagged_told l)
    by_tag [] h v = (λ m. m, tt)
    by_tag (e ∷ l) h v =
        tag_once es d g n cs (tell (below (named e.name) (asked T (one_of (words cs)) e.value)))
        (distinct_below (named e.name) (asked T (one_of (words cs)) e.value) (v.0 (one_of (words cs)) refl))
        (below_begins (told_at T) (told_moves T) T (TakenStep (constant n [])) (named e.name) (asked T (one_of (words cs)) e.value) h.0)
        e.value (λ u. case_apart n cs u s)

    abbrev mine : List (Entry Tree)
    mine = own (constant n []) es

    tagged_once : AreDistinct (tell (here (tagged n cs) (an_object (askeds T es)) ∷ asks_inner T (tagged n cs) (askeds T es)))
    tagged_once =
        subst (λ l. AreDistinct l) (sym (missing_tag ∙ tag_itself ∙ its_table ∙ parts))
        (by_tag mine (Each-only (λ (e : Entry Tree). takes (constant n []) e.name) es)
        (Each_within-only (λ (e : Entry Tree). OnceOf e.value) (λ e. takes (constant n []) e.name) es g))
      where
        rest : List (Entry Asks) → List (Entry Tree) → List (Place × Cause)
        rest xs ts = tell (join (asks_own tag_row xs) (tag_asks (held n ts)))

        missing_tag : join (at_root (tag_misses n (own (constant n []) (members_list (members_of (trees (askeds T es)))))))
            (rest (own (constant n []) (askeds T es)) (trees (askeds T es)))
            ≡ join (at_root (tag_misses n mine)) (rest (own (constant n []) (askeds T es)) (trees (askeds T es)))
        missing_tag = ap (λ l. join (at_root (tag_misses n (own (constant n []) l))) (rest (own (constant n []) (askeds T es)) (trees (askeds T es))))
            (members_list-of (trees (askeds T es)) ∙ seen_members (root_asks T) es)

        tag_itself : join (at_root (tag_misses n mine)) (rest (own (constant n []) (askeds T es)) (trees (askeds T es)))
            ≡ join (at_root (tag_misses n mine)) (rest (askeds T mine) (trees (askeds T es)))
        tag_itself = ap (λ l. join (at_root (tag_misses n mine)) (rest l (trees (askeds T es)))) (own_judged (root_asks T) (constant n []) es)

        its_table : join (at_root (tag_misses n mine)) (rest (askeds T mine) (trees (askeds T es)))
            ≡ join (at_root (tag_misses n mine)) (rest (askeds T mine) es)
        its_table = ap (λ l. join (at_root (tag_misses n mine)) (rest (askeds T mine) l)) (seen_members (root_asks T) es)

        parts : join (at_root (tag_misses n mine)) (rest (askeds T mine) es) ≡ tagged_told mine
        parts = ap (λ l. join (at_root (tag_misses n mine)) l) (gather_join (told_at T) (asks_own tag_row (askeds T mine)) (tag_asks (held n es)))

  -- ---- all kinds

  reference_once : (r : Option (List ℕ)) (as' : List Asking) → AreDistinct (tell as') → AreDistinct (tell (unless_reference r as'))
  reference_once None as' d = d
  reference_once (Some s) as' d = tt

  module _ (a : rows_apart (schema_rows T) ≡ true) where
    schema_once : (ms : Members) → Differ (members_list ms) → ValuesOnce (members_list ms)
        → AreDistinct (tell (asked T a_schema (object ms)))
    unfolding checked_rows
    schema_once ms d g =
        subst (λ l. AreDistinct (tell (here a_schema (an_object l) ∷ asks_rows l (schema_rows T)))) (sym (of_members_lem (root_asks T) ms))
        (object_once (members_list ms) d g a_schema (schema_rows T) a (checked T W).4)

    once : (k : Kind) (t : Tree) → Inside OnceOf t → NamesDiffer t → sound T k ≡ true → AreDistinct (tell (asked T k t))
    unfolding checked_rows
    once (list_of k) (list ts) g d s =
        here_once (list_of k) (seen_root (root_asks T) (list ts)) (asks_items k 0 (of_items (root_asks T) ts)) (items_once k 0 ts s g)
        (λ x m. weaken (IndexFrom 0) AnyStep (λ r h. tt) x.0 (items_begin (told_at T) (told_moves T) T k 0 ts x m))
    once (map_of k) (object ms) g d s =
        subst (λ l. AreDistinct (tell (here (map_of k) (an_object l) ∷ asks_members k l))) (sym (of_members_lem (root_asks T) ms))
        (here_once (map_of k) (an_object (askeds T (members_list ms))) (asks_members k (askeds T (members_list ms)))
        (members_once k (members_list ms) s d g)
        (members_begin (told_at T) (told_moves T) T AnyStep k (members_list ms) (each_all (λ e. tt) (members_list ms))))
    once (by i) (object ms) g d s =
        subst (λ l. AreDistinct (tell (here (by i) (an_object l) ∷ asks_rows l (T i)))) (sym (of_members_lem (root_asks T) ms))
        (table_once (members_list ms) d g i)
    once (tagged n cs) (object ms) g d s =
        subst (λ l. AreDistinct (tell (here (tagged n cs) (an_object l) ∷ asks_inner T (tagged n cs) l)))
        (sym (of_members_lem (root_asks T) ms)) (tagged_once (members_list ms) d g n cs s)
    once (ref_to k) (object ms) g d s =
        reference_once (is_reference (an_object (of_members (root_asks T) ms))) (asked T k (object ms))
        (once k (object ms) g d (and_parts (under_ref T k) (sound T k) s).1)
    once (ref_to k) t g d s = once k t g d (and_parts (under_ref T k) (sound T k) s).1
    once flag_or_schema (object ms) g d s =
        reference_once (is_reference (an_object (of_members (root_asks T) ms))) (asked T a_schema (object ms)) (schema_once ms d g)
    once a_schema (object ms) g d s = schema_once ms d g
    once a_schema_kind (object ms) g d s =
        subst (λ l. AreDistinct (tell (here a_schema_kind (an_object l) ∷ asks_rows l (each made_optional any_rows))))
        (sym (of_members_lem (root_asks T) ms))
        (object_once (members_list ms) d g a_schema_kind (each made_optional any_rows)
        (behind (T schema_data) (each made_optional any_rows) a)
        (every_behind (row_sound T) (T schema_data) (each made_optional any_rows) (checked T W).4))
      where
        behind : (vs ws : List Row) → rows_apart (join vs ws) ≡ true → rows_apart ws ≡ true
        behind [] ws h = h
        behind (v ∷ vs) ws h = behind vs ws (and_parts (every (apart v) (join vs ws)) (rows_apart (join vs ws)) h).1
    once k null g d s = here_once k (seen_root (root_asks T) null) [] tt (λ x m. absurd m)
    once k t g d s = here_once k (seen_root (root_asks T) t) [] tt (λ x m. absurd m)

-- ---- the final tables

schema_apart : rows_apart (schema_rows final_tables) ≡ true
unfolding final_tables tables_with any_rows
schema_apart = refl

pub told_once : ToldOnce
told_once k t h =
    by_named_trees (OnceOf final_tables final_sound)
    (λ u g d j s. once final_tables final_sound schema_apart j u g d s) t h (kind_of k) (kind_sound k)
