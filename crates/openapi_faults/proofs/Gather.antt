-- What is gathered for all that is required: for each value what it gives at its own location, one after another.
use Rattle.std.proofs.Common.{◌≡◌, ◌≤◌, ℕ, suc, Bool, true, false, cond, ◌&&◌, List, [], ◌∷◌, refl, sym, ap, ◌∙◌, subst, inl, inr, arith}
use Rattle.std.proofs.lemmas.Bool.{both_ways}
use Rattle.openapi_node.specs.Place.{Place, Step, named, indexed}
use Rattle.openapi_node.specs.Tree.{Tree, Items, no_items, item}
use Rattle.openapi_tables.specs.Conforms.{skips_null}
use Rattle.openapi_tables.specs.Faults.{Asking, asked, asks_items, asks_members, asks_own, asks_row, asks_rows, below, root_asks}
use Rattle.openapi_tables.specs.Kind.{Kind, Row, Tables, class, constant, either, row, takes}
use Rattle.openapi_tables.specs.Laws.{Among}
use Rattle.openapi_tables.specs.Lists.{each, every, flat, join, same_text}
use Rattle.openapi_tables.specs.Members.{is_null, own}
use Rattle.openapi_tables.specs.Sound.{apart}
use Rattle.openapi_tables.specs.Tree.{Entry, of_items}
use Rattle.openapi_tables.proofs.FaultLaws.{askeds, own_judged}
use Rattle.openapi_tables.proofs.ListLaws.{Each, Each-only, each-join, every_each, join_assoc}
use Rattle.openapi_tables.proofs.RowLaws.{TakesAll, apart_takes}
use Rattle.openapi_faults.proofs.Complete.{from_each, from_join}

-- what one row gives is not given by rows apart from it
pub later : {A : Type 0} → (f : Row → List A) (P : Row → A → Type 0) → ((w : Row) (x : A) → Among x (f w) → P w x)
    → ((v w : Row) (x : A) → apart v w ≡ true → P v x → P w x → ⊥) → (v : Row) (ws : List Row) (x : A)
    → Each (λ w. apart v w ≡ true) ws → P v x → Among x (flat (each f ws)) → ⊥
later f P gives clash v [] x a p h = h
later f P gives clash v (w ∷ ws) x a p h =
    elim (from_join x (f w) (flat (each f ws)) h) [
      | inl m ↦ clash v w x a.0 p (gives w x m)
      | inr m ↦ later f P gives clash v ws x a.1 p m
    ]

pub flat_gives : {A : Type 0} → (f : Row → List A) (Q : A → Type 0) → ((w : Row) (x : A) → Among x (f w) → Q x) → (ws : List Row)
    (x : A) → Among x (flat (each f ws)) → Q x
flat_gives f Q gives [] x h = absurd h
flat_gives f Q gives (w ∷ ws) x h =
    elim (from_join x (f w) (flat (each f ws)) h) [ inl m ↦ gives w x m | inr m ↦ flat_gives f Q gives ws x m ]

-- ---- what is gathered

-- what is gathered for a required kind of a value
abbrev pub Gives : Type 0 → Type 0
Gives X = Asking → List (Place × X)

abbrev pub gather : {X : Type 0} → Gives X → List Asking → List (Place × X)
gather f as' = flat (each f as')

abbrev pub one_below : {X : Type 0} → Step → Place × X → Place × X
one_below s x = (s ∷ x.0, x.1)

-- what is gathered for a value one step deeper is the same, one step deeper
abbrev pub Moves : {X : Type 0} → Gives X → Type 0
Moves f = (s : Step) (a : Asking) → f (record { place = s ∷ a.place; kind = a.kind; tree = a.tree }) ≡ each (one_below s) (f a)

pub gather_join : {X : Type 0} → (f : Gives X) (xs ys : List Asking) → gather f (join xs ys) ≡ join (gather f xs) (gather f ys)
gather_join f [] ys = refl
gather_join f (a ∷ xs) ys = ap (λ l. join (f a) l) (gather_join f xs ys) ∙ sym (join_assoc (f a) (gather f xs) (gather f ys))

pub gather_flat : {X : Type 0} → (f : Gives X) (g : Row → List Asking) (ws : List Row)
    → gather f (flat (each g ws)) ≡ flat (each (λ w. gather f (g w)) ws)
gather_flat f g [] = refl
gather_flat f g (w ∷ ws) = gather_join f (g w) (flat (each g ws)) ∙ ap (λ l. join (gather f (g w)) l) (gather_flat f g ws)

pub gather_below : {X : Type 0} → (f : Gives X) → Moves f → (s : Step) (as' : List Asking)
    → gather f (below s as') ≡ each (one_below s) (gather f as')
gather_below f m s [] = refl
gather_below f m s (a ∷ as') =
    ap (λ l. join l (gather f (below s as'))) (m s a)
    ∙ ap (λ l. join (each (one_below s) (f a)) l) (gather_below f m s as')
    ∙ sym (each-join (one_below s) (f a) (gather f as'))

-- ---- the locations of what is gathered

-- a location begins with a step for which `S` holds
abbrev pub Begins : (Step → Type 0) → Place → Type 0
Begins S [] = ⊥
Begins S (s ∷ p) = S s

abbrev pub AnyStep : Step → Type 0
AnyStep s = Unit {0}

-- a step is a name that a row takes
abbrev pub TakenStep : Row → Step → Type 0
TakenStep w (named n) = takes w n ≡ true
TakenStep w (indexed i) = ⊥

-- a step is a name, and `b` is whether it is the name `n`
abbrev pub NameIs : Bool → List ℕ → Step → Type 0
NameIs b n (named m) = same_text n m ≡ b
NameIs b n (indexed i) = ⊥

abbrev pub IndexIs : ℕ → Step → Type 0
IndexIs i (named m) = ⊥
IndexIs i (indexed j) = j ≡ i

abbrev pub IndexFrom : ℕ → Step → Type 0
IndexFrom i (named m) = ⊥
IndexFrom i (indexed j) = i ≤ j

pub weaken : (S R : Step → Type 0) → ((s : Step) → S s → R s) → (p : Place) → Begins S p → Begins R p
weaken S R f [] h = h
weaken S R f (s ∷ p) h = f s h

pub part : (S R : Step → Type 0) → ((s : Step) → S s → R s → ⊥) → (p : Place) → Begins S p → Begins R p → ⊥
part S R f [] h g = h
part S R f (s ∷ p) h g = f s h g

taken_part : (v w : Row) → apart v w ≡ true → (s : Step) → TakenStep v s → TakenStep w s → ⊥
taken_part v w a (named n) h g = both_ways (takes w n) (apart_takes v w n a h) g
taken_part v w a (indexed i) h g = h

pub taken_clash : {X : Type 0} → (v w : Row) (x : Place × X) → apart v w ≡ true → Begins (TakenStep v) x.0 → Begins (TakenStep w) x.0 → ⊥
taken_clash v w x a h g = part (TakenStep v) (TakenStep w) (taken_part v w a) x.0 h g

pub name_part : (n : List ℕ) (s : Step) → NameIs true n s → NameIs false n s → ⊥
name_part n (named m) h g = both_ways (same_text n m) g h
name_part n (indexed i) h g = h

pub index_part : (i : ℕ) (s : Step) → IndexIs i s → IndexFrom (suc i) s → ⊥
index_part i (named m) h g = h
index_part i (indexed j) h g = omega arith

index_weaker : (i : ℕ) (s : Step) → IndexFrom (suc i) s → IndexFrom i s
index_weaker i (named m) h = h
index_weaker i (indexed j) h = omega arith

module _ {X : Type 0} (f : Gives X) (moves : Moves f) (T : Tables) where
  -- all that is gathered for a list is at locations that begin with such a step
  abbrev AllBegin : (Step → Type 0) → List Asking → Type 0
  AllBegin S as' = (x : Place × X) → Among x (gather f as') → Begins S x.0

  pub below_begins : (S : Step → Type 0) (s : Step) (as' : List Asking) → S s → (x : Place × X) → Among x (gather f (below s as'))
      → Begins S x.0
  below_begins S s as' h x m =
      let r = from_each (one_below s) x (gather f as') (subst (λ l. Among x l) (gather_below f moves s as') m) in
      subst (λ (z : Place × X). Begins S z.0) (sym r.2) h

  join_begins : (S : Step → Type 0) (xs ys : List Asking) → AllBegin S xs → AllBegin S ys → AllBegin S (join xs ys)
  join_begins S xs ys g h x m =
      elim (from_join x (gather f xs) (gather f ys) (subst (λ l. Among x l) (gather_join f xs ys) m)) [
        | inl a ↦ g x a
        | inr a ↦ h x a
      ]

  pub members_begin : (S : Step → Type 0) (k : Kind) (es : List (Entry Tree)) → Each (λ (e : Entry Tree). S (named e.name)) es
      → (x : Place × X) → Among x (gather f (asks_members k (askeds T es))) → Begins S x.0
  members_begin S k [] h x m = absurd m
  members_begin S k (e ∷ es) h x m =
      join_begins S (below (named e.name) (asked T k e.value)) (asks_members k (askeds T es))
      (below_begins S (named e.name) (asked T k e.value) h.0) (members_begin S k es h.1) x m

  pub items_begin : (k : Kind) (i : ℕ) (ts : Items) (x : Place × X)
      → Among x (gather f (asks_items k i (of_items (root_asks T) ts))) → Begins (IndexFrom i) x.0
  items_begin k i no_items x m = absurd m
  items_begin k i (item t ts) x m =
      join_begins (IndexFrom i) (below (indexed i) (asked T k t)) (asks_items k (suc i) (of_items (root_asks T) ts))
      (below_begins (IndexFrom i) (indexed i) (asked T k t) (omega arith))
      (λ y n. weaken (IndexFrom (suc i)) (IndexFrom i) (index_weaker i) y.0 (items_begin k (suc i) ts y n)) x m

  unless_begins : (S : Step → Type 0) (b : Bool) (as' : List Asking) → AllBegin S as' → AllBegin S (cond b [] as')
  unless_begins S true as' h x m = absurd m
  unless_begins S false as' h x m = h x m

  own_begins : (w : Row) (l : List (Entry Tree)) → TakesAll w l → (x : Place × X) → Among x (gather f (asks_own w (askeds T l)))
      → Begins (TakenStep w) x.0
  own_begins (row n m k) [] h x a = absurd a
  own_begins (row n m k) (e ∷ l) h x a =
      unless_begins (TakenStep (row n m k)) (skips_null m && is_null e.value) (below (named e.name) (asked T k e.value))
      (below_begins (TakenStep (row n m k)) (named e.name) (asked T k e.value) h.0) x a
  own_begins (either a j b k) [] h x m = absurd m
  own_begins (either a j b k) (e ∷ l) h x m =
      below_begins (TakenStep (either a j b k)) (named e.name) (asked T (cond (same_text a e.name) j k) e.value) h.0 x m
  own_begins (class c k) l h x m = members_begin (TakenStep (class c k)) k l h x m
  own_begins (constant n v) [] h x m = absurd m
  own_begins (constant n v) (e ∷ l) h x m = absurd m

  module _ (es : List (Entry Tree)) where
    -- what is gathered for a row
    abbrev of_row : Row → List (Place × X)
    of_row w = gather f (asks_row (askeds T es) w)

    pub row_begins : (w : Row) (x : Place × X) → Among x (gather f (asks_row (askeds T es) w)) → Begins (TakenStep w) x.0
    row_begins w x m =
        own_begins w (own w es) (Each-only (λ (e : Entry Tree). takes w e.name) es) x
        (subst (λ l. Among x (gather f (asks_own w l))) (own_judged (root_asks T) w es) m)

    pub rows_begin : (ws : List Row) (x : Place × X) → Among x (gather f (asks_rows (askeds T es) ws)) → Begins AnyStep x.0
    rows_begin ws x m =
        flat_gives of_row (λ y. Begins AnyStep y.0)
        (λ w y n. weaken (TakenStep w) AnyStep (λ s h. tt) y.0 (row_begins w y n)) ws x
        (subst (λ l. Among x l) (gather_flat f (asks_row (askeds T es)) ws) m)

    pub rows_part : (v : Row) (ws : List Row) → every (apart v) ws ≡ true → (x : Place × X) → Begins (TakenStep v) x.0
        → Among x (gather f (asks_rows (askeds T es) ws)) → ⊥
    rows_part v ws a x h m =
        later of_row (λ w y. Begins (TakenStep w) y.0) row_begins taken_clash v ws x (every_each (apart v) ws a) h
        (subst (λ l. Among x l) (gather_flat f (asks_row (askeds T es)) ws) m)
