-- What is required of items, entries and rows one after another, and how many values they hold.
use Rattle.std.proofs.Common.{◌≡◌, ℕ, suc, ◌+◌, Bool, true, false, cond, List, [], ◌∷◌, ◌++◌, Some, refl, sym, ap, ◌∙◌}
use Rattle.std.proofs.Common.{arith, drop, get_or, length, map, slice_get, take, None, ◌<◌, ◌≤◌}
use Rattle.std.proofs.lemmas.List.{take-append-drop, take_more}
use Rattle.openapi_map.specs.Entries.{Entries}
use Rattle.openapi_node.specs.Place.{indexed, named}
use Rattle.openapi_node.specs.Tree.{Tree, Members, members_of, members_size, size_of}
use Rattle.openapi_node.proofs.TreeLemmas.{take_next}
use Rattle.openapi_tables.specs.Prelude.{Kind, Row, made_optional, join, Asking}
use Rattle.openapi_tables.specs.Prelude.{row_weight, rows_weight}
use Rattle.openapi_tables.proofs.ListLaws.{join-nil, join_assoc}
use Rattle.openapi_faults.specs.Walk.{asked_below, asked_entries, asked_items, asked_row, asked_rows, entries_size, is_chosen}
use Rattle.openapi_faults.specs.Meaning.{row_of}
use Rattle.openapi_faults.specs.Walk.{rows_as}
use Rattle.openapi_faults.specs.declared.row.Row as declared

-- the elements up to and including one are those before it, and that one
pub next_at : {A : Type 0} → (xs : List A) (i : ℕ) (x : A) → i < length xs → x ≡ get_or xs i x
    → take (i + 1) xs ≡ take i xs ++ (x ∷ [])
next_at xs i x h e = take_more xs i x h ∙ ap (λ y. take i xs ++ (y ∷ [])) (sym e)

-- all entries hold as many values as the members do
pub all_size : (es : Entries Tree) → entries_size (is_chosen None) es ≡ members_size (members_of es)
all_size [] = refl
all_size (e ∷ es) = omega (arith, all_size es)

-- ---- items

items-next : (k : Kind) (j : ℕ) (ts : List Tree) (t : Tree)
    → asked_items k j (ts ++ (t ∷ [])) ≡ join (asked_items k j ts) (asked_below (indexed (j + length ts)) k t)
items-next k j [] t =
    join-nil (asked_below (indexed j) k t) ∙ ap (λ i. asked_below (indexed i) k t) (omega arith)
items-next k j (u ∷ ts) t =
    ap (join (asked_below (indexed j) k u)) (items-next k (suc j) ts t)
    ∙ ap (λ i. join (asked_below (indexed j) k u) (join (asked_items k (suc j) ts) (asked_below (indexed i) k t))) (omega arith)
    ∙ sym (join_assoc (asked_below (indexed j) k u) (asked_items k (suc j) ts) (asked_below (indexed (j + suc (length ts))) k t))

module _ (k : Kind) (ts : List Tree) (i : ℕ) (t : Tree) (next : take (i + 1) ts ≡ take i ts ++ (t ∷ [])) where
  pub next_item-asked : length (take i ts) ≡ i
      → asked_items k 0 (take (i + 1) ts) ≡ join (asked_items k 0 (take i ts)) (asked_below (indexed i) k t)
  next_item-asked within =
      ap (asked_items k 0) next ∙ items-next k 0 (take i ts) t
      ∙ ap (λ n. join (asked_items k 0 (take i ts)) (asked_below (indexed n) k t)) (omega (arith, within))

-- ---- entries

module _ (p : List ℕ → Bool) where
  -- what is required of one entry
  abbrev pub asked_entry : Kind → List ℕ → Tree → List Asking
  asked_entry k n t = cond (p n) (asked_below (named n) k t) []

  entries-next : (k : Kind) (es : Entries Tree) (e : List ℕ × Tree)
      → asked_entries p k (es ++ (e ∷ [])) ≡ join (asked_entries p k es) (asked_entry k e.0 e.1)
  entries-next k [] e = go (p e.0)
    where
      go : (b : Bool) → cond b (join (asked_below (named e.0) k e.1) []) [] ≡ cond b (asked_below (named e.0) k e.1) []
      go true = join-nil (asked_below (named e.0) k e.1)
      go false = refl
  entries-next k (x ∷ es) e = go (p x.0) (entries-next k es e)
    where
      here : List Asking
      here = asked_below (named x.0) k x.1

      more : List Asking
      more = asked_entries p k es

      last : List Asking
      last = asked_entry k e.0 e.1

      go : (b : Bool) → asked_entries p k (es ++ (e ∷ [])) ≡ join more last
          → cond b (join here (asked_entries p k (es ++ (e ∷ [])))) (asked_entries p k (es ++ (e ∷ [])))
          ≡ join (cond b (join here more) more) last
      go true h = ap (join here) h ∙ sym (join_assoc here more last)
      go false h = h

  entries_size-append : (es gs : Entries Tree) → entries_size p (es ++ gs) ≡ entries_size p es + entries_size p gs
  entries_size-append [] gs = omega arith
  entries_size-append (e ∷ es) gs = omega (arith, entries_size-append es gs)

  module _ (es : Entries Tree) (i : ℕ) (n : List ℕ) (t : Tree) (at : slice_get es i ≡ Some (n, t)) where
    pub next_entry : (k : Kind) → asked_entries p k (take (i + 1) es) ≡ join (asked_entries p k (take i es)) (asked_entry k n t)
    next_entry k = ap (asked_entries p k) (take_next es i (n, t) at) ∙ entries-next k (take i es) (n, t)

    pub next_entry-size : entries_size p (take (i + 1) es) ≡ entries_size p (take i es) + cond (p n) (size_of t) 0
    next_entry-size =
        ap (entries_size p) (take_next es i (n, t) at) ∙ entries_size-append (take i es) ((n, t) ∷ []) ∙ omega arith

    pub entry_size-le : entries_size p (take i es) + cond (p n) (size_of t) 0 ≤ entries_size p es
    entry_size-le =
        let split : entries_size p es ≡ entries_size p (take (i + 1) es) + entries_size p (drop (i + 1) es) =
        ap (entries_size p) (sym (take-append-drop (i + 1) es)) ∙ entries_size-append (take (i + 1) es) (drop (i + 1) es) in
        omega (arith, split, next_entry-size)

-- ---- rows

module _ (ms : Members) where
  rows-next : (ws : List Row) (w : Row) → asked_rows (ws ++ (w ∷ [])) ms ≡ join (asked_rows ws ms) (asked_row w ms)
  rows-next [] w = join-nil (asked_row w ms)
  rows-next (v ∷ ws) w =
      ap (join (asked_row v ms)) (rows-next ws w) ∙ sym (join_assoc (asked_row v ms) (asked_rows ws ms) (asked_row w ms))

  rows_weight-append : (ws vs : List Row) → rows_weight (ws ++ vs) ms ≡ rows_weight ws ms + rows_weight vs ms
  rows_weight-append [] vs = omega arith
  rows_weight-append (w ∷ ws) vs = omega (arith, rows_weight-append ws vs)

  module _ {A : Type 0} (g : A → Row) where
    map-append : (xs ys : List A) → map g (xs ++ ys) ≡ map g xs ++ map g ys
    map-append [] ys = refl
    map-append (x ∷ xs) ys = ap (λ l. g x ∷ l) (map-append xs ys)

    module _ (xs : List A) (i : ℕ) (x : A) (next : take (i + 1) xs ≡ take i xs ++ (x ∷ [])) where
      next_row : asked_rows (map g (take (i + 1) xs)) ms ≡ join (asked_rows (map g (take i xs)) ms) (asked_row (g x) ms)
      next_row =
          ap (λ l. asked_rows (map g l) ms) next
          ∙ ap (λ l. asked_rows l ms) (map-append (take i xs) (x ∷ [])) ∙ rows-next (map g (take i xs)) (g x)

      next_row-weight : rows_weight (map g (take (i + 1) xs)) ms ≡ rows_weight (map g (take i xs)) ms + row_weight (g x) ms
      next_row-weight =
          ap (λ l. rows_weight (map g l) ms) next
          ∙ ap (λ l. rows_weight l ms) (map-append (take i xs) (x ∷ []))
          ∙ rows_weight-append (map g (take i xs)) (g x ∷ []) ∙ omega arith

      row_weight-le : rows_weight (map g (take i xs)) ms + row_weight (g x) ms ≤ rows_weight (map g xs) ms
      row_weight-le =
          let split : rows_weight (map g xs) ms
          ≡ rows_weight (map g (take (i + 1) xs)) ms + rows_weight (map g (drop (i + 1) xs)) ms =
          ap (λ l. rows_weight (map g l) ms) (sym (take-append-drop (i + 1) xs))
          ∙ ap (λ l. rows_weight l ms) (map-append (take (i + 1) xs) (drop (i + 1) xs))
          ∙ rows_weight-append (map g (take (i + 1) xs)) (map g (drop (i + 1) xs)) in
          omega (arith, split, next_row-weight)

-- what the next declared row adds to what is required, and to the number of values; `b` is whether rows are made optional
pub record NextRow (ms : Members) (b : Bool) (rs : List declared.Row) (i : ℕ) (w : Row) : Type 0 where
  pub asked : asked_rows (rows_as b (take (i + 1) rs)) ms ≡ join (asked_rows (rows_as b (take i rs)) ms) (asked_row w ms)
  pub weight : rows_weight (rows_as b (take (i + 1) rs)) ms ≡ rows_weight (rows_as b (take i rs)) ms + row_weight w ms
  pub within : rows_weight (rows_as b (take i rs)) ms + row_weight w ms ≤ rows_weight (rows_as b rs) ms

pub next_open_row : (ms : Members) (b : Bool) (rs : List declared.Row) (i : ℕ) (d : declared.Row) (w : Row) → i < length rs
    → w ≡ cond b (made_optional (row_of (get_or rs i d))) (row_of (get_or rs i d)) → NextRow ms b rs i w
next_open_row ms b rs i d w h e =
    let f : declared.Row → Row = λ r. cond b (made_optional (row_of r)) (row_of r) in
    let r = get_or rs i d in
    let next = take_more rs i d h in
    record {
      asked = next_row ms f rs i r next ∙ ap (λ v. join (asked_rows (rows_as b (take i rs)) ms) (asked_row v ms)) (sym e);
      weight = next_row-weight ms f rs i r next ∙ ap (λ v. rows_weight (rows_as b (take i rs)) ms + row_weight v ms) (sym e);
      within = omega (arith, row_weight-le ms f rs i r next, ap (λ v. row_weight v ms) e);
    }
