-- What is dropped below one member of an object is what the row that takes it drops.
use Rattle.std.proofs.Common.{◌≡◌, ◌≤◌, ℕ, suc, Bool, true, false, cond, ◌&&◌, ◌==◌, List, [], ◌∷◌, refl, sym, ap, ◌∙◌, subst, inl, inr, arith, eqb-true}
use Rattle.std.proofs.lemmas.Bool.{and_parts, both_ways}
use Rattle.openapi_node.specs.Place.{Place, Step, named, indexed}
use Rattle.openapi_node.specs.Tree.{Tree, Items, no_items, item}
use Rattle.openapi_tables.specs.Conforms.{skips_null}
use Rattle.openapi_tables.specs.Faults.{Asking, asked, asks_items, asks_members, asks_own, asks_row, asks_rows, below, root_asks}
use Rattle.openapi_tables.specs.Kind.{Kind, Row, class, constant, either, row, takes}
use Rattle.openapi_tables.specs.Laws.{Among}
use Rattle.openapi_tables.specs.Lists.{every, join, same_text}
use Rattle.openapi_tables.specs.Members.{is_null, own}
use Rattle.openapi_tables.specs.Sound.{apart, rows_apart}
use Rattle.openapi_tables.specs.Tables.{final_tables}
use Rattle.openapi_tables.specs.Tree.{Entry, of_items}
use Rattle.openapi_tables.proofs.DistinctLaws.{Differ, Differ-only}
use Rattle.openapi_tables.proofs.FaultLaws.{askeds, own_judged}
use Rattle.openapi_tables.proofs.ListLaws.{Each, Each-only, each-each, each-join, each_under, every_each, join-nil, same_text-refl, same_text_eq}
use Rattle.openapi_tables.proofs.RowLaws.{TakesAll, apart_back, apart_takes, not_both}
use Rattle.openapi_faults.specs.Dropped.{dropped_at}
use Rattle.openapi_faults.specs.Laws.{dropped_places}
use Rattle.openapi_faults.specs.Without.{behind_step, inside, same_step}
use Rattle.openapi_faults.specs.declared.dropped.DropReason.{DropReason}
use Rattle.openapi_faults.proofs.DropPlaces.{drops_move, places}
use Rattle.openapi_faults.proofs.Gather.{Begins, IndexFrom, IndexIs, NameIs, TakenStep, below_begins, gather, gather_below, gather_join}
use Rattle.openapi_faults.proofs.Gather.{items_begin, members_begin, one_below, row_begins, weaken}
use Rattle.openapi_faults.proofs.Locations.{inside_below, inside_join, inside_none}

abbrev pub dropping : List Asking → List (Place × DropReason)
dropping as' = gather dropped_at as'

-- what is dropped below a step
abbrev pub under : Step → List Asking → List Place
under s as' = inside s (places (dropping as'))

-- what holds for all that is among a list holds for each element
each_among : {A : Type 0} → (P : A → Type 0) (l : List A) → ((x : A) → Among x l → P x) → Each P l
each_among P [] h = tt
each_among P (x ∷ l) h = (h x (inl refl), each_among P l (λ y m. h y (inr m)))

each_place : (P : Place → Type 0) (l : List (Place × DropReason)) → Each (λ (x : Place × DropReason). P x.0) l → Each P (places l)
each_place P [] h = tt
each_place P (x ∷ l) h = (h.0, each_place P l h.1)

-- two steps differ
abbrev Apart : Step → Step → Type 0
Apart s r = same_step s r ≡ false

-- a location that begins with other steps is not below the step
not_behind : (s : Step) (S : Step → Type 0) → ((r : Step) → S r → Apart s r) → (p : Place) → Begins S p → behind_step s p ≡ []
not_behind s S f [] h = refl
not_behind s S f (r ∷ p) h = ap (λ b. cond b (p ∷ []) []) (f r h)

elsewhere : (s : Step) (S : Step → Type 0) → ((r : Step) → S r → Apart s r) → (as' : List Asking)
    → ((x : Place × DropReason) → Among x (dropping as') → Begins S x.0) → under s as' ≡ []
elsewhere s S f as' h =
    inside_none s (places (dropping as'))
    (each_place (λ p. behind_step s p ≡ []) (dropping as')
    (each_among (λ (x : Place × DropReason). behind_step s x.0 ≡ []) (dropping as') (λ x m. not_behind s S f x.0 (h x m))))

under_join : (s : Step) (xs ys : List Asking) → under s (join xs ys) ≡ join (under s xs) (under s ys)
under_join s xs ys =
    ap (λ l. inside s (places l)) (gather_join dropped_at xs ys)
    ∙ ap (inside s) (each-join (λ (d : Place × DropReason). d.0) (dropping xs) (dropping ys))
    ∙ inside_join s (places (dropping xs)) (places (dropping ys))

under_below : (s : Step) (as' : List Asking) → under s (below s as') ≡ places (dropping as')
under_below s as' =
    ap (λ l. inside s (places l)) (gather_below dropped_at drops_move s as')
    ∙ ap (inside s)
    (each-each (λ (d : Place × DropReason). d.0) (one_below s) (dropping as')
    ∙ sym (each-each (λ (p : Place). s ∷ p) (λ (d : Place × DropReason). d.0) (dropping as')))
    ∙ inside_below s (places (dropping as'))

other_name : (n : List ℕ) (r : Step) → NameIs false n r → Apart (named n) r
other_name n (named m) h = h
other_name n (indexed i) h = absurd h

other_index : (i : ℕ) (r : Step) → IndexFrom (suc i) r → Apart (indexed i) r
other_index i (named m) h = absurd h
other_index i (indexed j) h = not_both (i == j) (λ q. let e = eqb-true i j q in omega arith)

-- ---- members

same_text-sym : (m n : List ℕ) → same_text m n ≡ false → same_text n m ≡ false
same_text-sym m n h =
    not_both (same_text n m)
    (λ q. both_ways (same_text m n) h (subst (λ x. same_text x n ≡ true) (same_text_eq n m q) (same_text-refl n)))

-- what is dropped below the name of a member is what is dropped from its value
abbrev pub At : List Asking → Kind → Entry Tree → Type 0
At as' k e = under (named e.name) as' ≡ dropped_places k e.value

pub members_picked : (k : Kind) (es : List (Entry Tree)) → Differ es
    → Each (At (asks_members k (askeds final_tables es)) k) es
members_picked k [] d = tt
members_picked k (e ∷ es) d = (here, each_under later es (zip es d.0 (members_picked k es d.1)))
  where
    here : under (named e.name) (join (below (named e.name) (asked final_tables k e.value)) (asks_members k (askeds final_tables es)))
        ≡ dropped_places k e.value
    here =
        under_join (named e.name) (below (named e.name) (asked final_tables k e.value)) (asks_members k (askeds final_tables es))
        ∙ ap (λ l. join l (under (named e.name) (asks_members k (askeds final_tables es)))) (under_below (named e.name) (asked final_tables k e.value))
        ∙ ap (λ l. join (dropped_places k e.value) l)
        (elsewhere (named e.name) (NameIs false e.name) (other_name e.name) (asks_members k (askeds final_tables es))
        (members_begin dropped_at drops_move final_tables (NameIs false e.name) k es d.0))
        ∙ join-nil (dropped_places k e.value)

    zip : (l : List (Entry Tree)) → Each (λ (c : Entry Tree). same_text e.name c.name ≡ false) l
        → Each (At (asks_members k (askeds final_tables es)) k) l
        → Each (λ (c : Entry Tree). (same_text e.name c.name ≡ false) × At (asks_members k (askeds final_tables es)) k c) l
    zip [] f g = tt
    zip (c ∷ l) f g = ((f.0, g.0), zip l f.1 g.1)

    later : (c : Entry Tree) → ((same_text e.name c.name ≡ false) × At (asks_members k (askeds final_tables es)) k c)
        → At (join (below (named e.name) (asked final_tables k e.value)) (asks_members k (askeds final_tables es))) k c
    later c h =
        under_join (named c.name) (below (named e.name) (asked final_tables k e.value)) (asks_members k (askeds final_tables es))
        ∙ ap (λ l. join l (under (named c.name) (asks_members k (askeds final_tables es))))
        (elsewhere (named c.name) (NameIs false c.name) (other_name c.name) (below (named e.name) (asked final_tables k e.value))
        (below_begins dropped_at drops_move final_tables (NameIs false c.name) (named e.name) (asked final_tables k e.value)
        (same_text-sym e.name c.name h.0)))
        ∙ h.1

-- ---- rows

-- what is dropped below the names of the members that a row takes is what is dropped from the values that it reads
abbrev pub Picked : List Asking → Row → List (Entry Tree) → Type 0
Picked as' (row n m k) [] = Unit {0}
Picked as' (row n m k) (e ∷ l) = under (named e.name) as' ≡ cond (skips_null m && is_null e.value) [] (dropped_places k e.value)
Picked as' (either a j b k) [] = Unit {0}
Picked as' (either a j b k) (e ∷ l) = At as' (cond (same_text a e.name) j k) e
Picked as' (class c k) l = Each (At as' k) l
Picked as' (constant n v) l = Unit {0}

own_picked : (w : Row) (l : List (Entry Tree)) → Differ l → Picked (asks_own w (askeds final_tables l)) w l
own_picked (row n m k) [] d = tt
own_picked (row n m k) (e ∷ l) d = go (skips_null m && is_null e.value)
  where
    go : (b : Bool) → under (named e.name) (cond b [] (below (named e.name) (asked final_tables k e.value)))
        ≡ cond b [] (dropped_places k e.value)
    go true = refl
    go false = under_below (named e.name) (asked final_tables k e.value)
own_picked (either a j b k) [] d = tt
own_picked (either a j b k) (e ∷ l) d = under_below (named e.name) (asked final_tables (cond (same_text a e.name) j k) e.value)
own_picked (class c k) l d = members_picked k l d
own_picked (constant n v) l d = tt

-- below all names that a row takes, two lists drop the same
abbrev SameUnder : List Asking → List Asking → Row → Type 0
SameUnder as' bs w = (n : List ℕ) → takes w n ≡ true → under (named n) as' ≡ under (named n) bs

module _ (es : List (Entry Tree)) where
  abbrev of_row : Row → List Asking
  of_row w = asks_row (askeds final_tables es) w

  other_row : (v : Row) (n : List ℕ) → takes v n ≡ false → under (named n) (of_row v) ≡ []
  other_row v n h =
      elsewhere (named n) (NameIs false n) (other_name n) (of_row v)
      (λ x m. weaken (TakenStep v) (NameIs false n) differs x.0 (row_begins dropped_at drops_move final_tables es v x m))
    where
      differs : (r : Step) → TakenStep v r → NameIs false n r
      differs (named m) g =
          not_both (same_text n m) (λ q. both_ways (takes v n) h (subst (λ x. takes v x ≡ true) (sym (same_text_eq n m q)) g))
      differs (indexed i) g = g

  pub other_rows : (ws : List Row) (n : List ℕ) → Each (λ v. takes v n ≡ false) ws
      → under (named n) (asks_rows (askeds final_tables es) ws) ≡ []
  other_rows [] n h = refl
  other_rows (w ∷ ws) n h =
      under_join (named n) (of_row w) (asks_rows (askeds final_tables es) ws)
      ∙ ap (λ l. join l (under (named n) (asks_rows (askeds final_tables es) ws))) (other_row w n h.0)
      ∙ other_rows ws n h.1

  rows_same : (ws : List Row) → rows_apart ws ≡ true
      → Each (λ w. SameUnder (asks_rows (askeds final_tables es) ws) (of_row w) w) ws
  rows_same [] a = tt
  rows_same (w ∷ ws) a =
      let p = and_parts (every (apart w) ws) (rows_apart ws) a in
      (here (every_each (apart w) ws p.0), others ws (every_each (apart w) ws p.0) (rows_same ws p.1))
    where
      here : Each (λ v. apart w v ≡ true) ws → SameUnder (asks_rows (askeds final_tables es) (w ∷ ws)) (of_row w) w
      here h n t =
          under_join (named n) (of_row w) (asks_rows (askeds final_tables es) ws)
          ∙ ap (λ l. join (under (named n) (of_row w)) l)
          (other_rows ws n (each_under (λ v (x : apart w v ≡ true). apart_takes w v n x t) ws h))
          ∙ join-nil (under (named n) (of_row w))

      others : (vs : List Row) → Each (λ v. apart w v ≡ true) vs
          → Each (λ v. SameUnder (asks_rows (askeds final_tables es) ws) (of_row v) v) vs
          → Each (λ v. SameUnder (asks_rows (askeds final_tables es) (w ∷ ws)) (of_row v) v) vs
      others [] h g = tt
      others (v ∷ vs) h g = (
        λ n t. under_join (named n) (of_row w) (asks_rows (askeds final_tables es) ws)
            ∙ ap (λ l. join l (under (named n) (asks_rows (askeds final_tables es) ws)))
            (other_row w n (apart_back w v n h.0 t))
            ∙ g.0 n t,
        others vs h.1 g.1,
      )

  -- if two lists drop the same below the names that a row takes, `Picked` holds for both
  lift : (as' bs : List Asking) (w : Row) (l : List (Entry Tree)) → TakesAll w l → SameUnder as' bs w → Picked bs w l → Picked as' w l
  lift as' bs (row n m k) [] t f h = tt
  lift as' bs (row n m k) (e ∷ l) t f h = f e.name t.0 ∙ h
  lift as' bs (either a j b k) [] t f h = tt
  lift as' bs (either a j b k) (e ∷ l) t f h = f e.name t.0 ∙ h
  lift as' bs (class c k) [] t f h = tt
  lift as' bs (class c k) (e ∷ l) t f h = (f e.name t.0 ∙ h.0, lift as' bs (class c k) l t.1 f h.1)
  lift as' bs (constant n v) l t f h = tt

  row_picked : Differ es → (w : Row) → Picked (asks_row (askeds final_tables es) w) w (own w es)
  row_picked d w =
      subst (λ l. Picked (asks_own w l) w (own w es)) (sym (own_judged (root_asks final_tables) w es))
      (own_picked w (own w es) (Differ-only (λ (e : Entry Tree). takes w e.name) es d))

  -- `Picked` holds for each row of an object, if no name is taken by two rows
  pub rows_picked : Differ es → (ws : List Row) → rows_apart ws ≡ true
      → Each (λ w. Picked (asks_rows (askeds final_tables es) ws) w (own w es)) ws
  rows_picked d ws a =
      each_under (λ w (f : SameUnder (asks_rows (askeds final_tables es) ws) (of_row w) w).
      lift (asks_rows (askeds final_tables es) ws) (of_row w) w (own w es) (Each-only (λ (e : Entry Tree). takes w e.name) es) f (row_picked d w))
      ws (rows_same ws a)

-- ---- items

-- what is dropped below each index, counted from `i`, is what is dropped from the item
abbrev pub ItemsAt : List Place → Kind → ℕ → Items → Type 0
ItemsAt ps k i no_items = Unit {0}
ItemsAt ps k i (item t ts) = (inside (indexed i) ps ≡ dropped_places k t) × ItemsAt ps k (suc i) ts

items_more : (first : List Asking) (rest : List Asking) (k : Kind) (i j : ℕ) (ts : Items)
    → ((n : ℕ) → j ≤ n → under (indexed n) first ≡ []) → ItemsAt (places (dropping rest)) k j ts
    → ItemsAt (places (dropping (join first rest))) k j ts
items_more first rest k i j no_items f h = tt
items_more first rest k i j (item t ts) f h = (
  under_join (indexed j) first rest ∙ ap (λ l. join l (under (indexed j) rest)) (f j (omega arith)) ∙ h.0,
  items_more first rest k i (suc j) ts (λ n g. f n (omega arith)) h.1,
)

index_differs : (i n : ℕ) → suc i ≤ n → (r : Step) → IndexIs i r → Apart (indexed n) r
index_differs i n h (named m) g = absurd g
index_differs i n h (indexed j) g = not_both (n == j) (λ q. let e = eqb-true n j q in omega arith)

pub items_picked : (k : Kind) (i : ℕ) (ts : Items)
    → ItemsAt (places (dropping (asks_items k i (of_items (root_asks final_tables) ts)))) k i ts
items_picked k i no_items = tt
items_picked k i (item t ts) = (
  under_join (indexed i) (below (indexed i) (asked final_tables k t)) (asks_items k (suc i) (of_items (root_asks final_tables) ts))
      ∙ ap (λ l. join l (under (indexed i) (asks_items k (suc i) (of_items (root_asks final_tables) ts))))
      (under_below (indexed i) (asked final_tables k t))
      ∙ ap (λ l. join (dropped_places k t) l)
      (elsewhere (indexed i) (IndexFrom (suc i)) (other_index i) (asks_items k (suc i) (of_items (root_asks final_tables) ts))
      (items_begin dropped_at drops_move final_tables k (suc i) ts))
      ∙ join-nil (dropped_places k t),
  items_more (below (indexed i) (asked final_tables k t)) (asks_items k (suc i) (of_items (root_asks final_tables) ts)) k i (suc i) ts
      (λ n g. elsewhere (indexed n) (IndexIs i) (index_differs i n g) (below (indexed i) (asked final_tables k t))
      (below_begins dropped_at drops_move final_tables (IndexIs i) (indexed i) (asked final_tables k t) refl))
      (items_picked k (suc i) ts),
)
